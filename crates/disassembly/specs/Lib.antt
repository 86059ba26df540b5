pub mod Number
pub mod Mnemonic
pub mod CsrName
pub mod Text
