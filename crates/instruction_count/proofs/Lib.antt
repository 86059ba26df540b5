pub mod Amounts
pub mod Noted
pub mod Runs
pub mod Counted
pub mod Addresses
pub mod Counting
pub mod Written
pub mod ColumnSums
