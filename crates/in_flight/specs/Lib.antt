pub mod Flight
pub mod Snapshot
pub mod Step
pub mod Registers
