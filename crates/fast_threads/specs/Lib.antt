pub mod Lookahead
pub mod Workers
pub mod Session
