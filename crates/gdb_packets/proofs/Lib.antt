pub mod Digits
pub mod Kept
pub mod Named
pub mod Pairs
pub mod Received
pub mod Values
