pub mod Signed
pub mod Alu
pub mod MulDiv
pub mod Laws
pub mod Branch
pub mod Load
pub mod Eval
pub mod Bare
