pub mod Next
pub mod Commits
