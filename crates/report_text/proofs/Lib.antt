pub mod Lines
pub mod RowLines
pub mod RowTexts
pub mod Told
pub mod StackTexts
pub mod Gathered
