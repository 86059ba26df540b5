pub mod Number
pub mod Cause
pub mod Width
pub mod Range
pub mod Memory
