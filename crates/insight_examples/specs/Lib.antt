pub mod Reading
pub mod Written
pub mod Traces
pub mod Rows
