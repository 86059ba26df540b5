pub mod Base
pub mod Steps
pub mod Documents
pub mod Versions
pub mod Ranged
pub mod Blanks
