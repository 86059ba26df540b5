pub mod Csr
pub mod Trap
