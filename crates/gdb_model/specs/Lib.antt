pub mod Registers
pub mod Session
pub mod Stops
pub mod Description
pub mod Answer
pub mod Talk
pub mod Examples
