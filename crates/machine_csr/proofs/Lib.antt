pub mod Bits
pub mod Time
pub mod Retired
