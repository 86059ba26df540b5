pub mod Phases
pub mod Execute
pub mod Found
pub mod Issue
pub mod Turning
pub mod Stepping
