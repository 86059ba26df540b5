pub mod Standing
pub mod Points
pub mod Runs
pub mod Lines
pub mod Commands
pub mod Talk
