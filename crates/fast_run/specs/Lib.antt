pub mod Answer
pub mod Settled
pub mod Program
