pub mod Journal
pub mod Ring
