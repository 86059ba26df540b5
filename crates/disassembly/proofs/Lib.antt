pub mod Hex
pub mod Signed
pub mod Fitting
pub mod Names
pub mod Split
pub mod Operands
pub mod Tells
