pub mod Committed
pub mod Goes
pub mod Obeying
pub mod Reporting
pub mod Staying
