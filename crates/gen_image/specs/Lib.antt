pub mod Assembly
pub mod Draws
pub mod Soak
pub mod Made
pub mod Machine
