pub mod Reached
pub mod Pages
pub mod Rising
pub mod Memory
