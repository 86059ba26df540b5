pub mod Debugger
pub mod Script
pub mod Session
