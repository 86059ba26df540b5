pub mod Found
pub mod Apart
pub mod Kept
pub mod RoundTrip
pub mod Spelled
