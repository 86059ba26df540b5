pub mod Bytes
pub mod Marks
pub mod Access
pub mod Fetching
pub mod Places
pub mod Copying
pub mod Loading
