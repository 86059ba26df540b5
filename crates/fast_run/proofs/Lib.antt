pub mod Answers
pub mod Journal
pub mod Settling
pub mod Words
