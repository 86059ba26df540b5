pub mod Table
pub mod File
pub mod Code
