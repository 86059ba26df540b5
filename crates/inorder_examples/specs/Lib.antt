pub mod Machines
pub mod Programs
pub mod Plan
