pub mod Path
pub mod Sound
pub mod Issue
pub mod Commits
pub mod Next
pub mod Found
pub mod Retired
