pub mod Rows
pub mod Ordered
pub mod Clear
pub mod Reading
pub mod Headers
pub mod Written
