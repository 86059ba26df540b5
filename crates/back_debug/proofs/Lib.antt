pub mod Running
pub mod Values
pub mod Sessions
