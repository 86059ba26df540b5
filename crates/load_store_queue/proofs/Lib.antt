pub mod Marked
pub mod Rising
pub mod Settled
