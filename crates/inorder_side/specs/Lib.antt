pub mod Timing
pub mod Phases
pub mod Issue
pub mod Turn
pub mod Step
