pub mod Ring
pub mod Orders
pub mod Ends
pub mod NoRun
pub mod Line
pub mod Count
pub mod Trial
