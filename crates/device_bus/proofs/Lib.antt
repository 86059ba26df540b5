pub mod Driver
pub mod Numbers
pub mod Places
