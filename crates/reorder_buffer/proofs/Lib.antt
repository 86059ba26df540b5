pub mod Consecutive
pub mod Positions
pub mod Ring
