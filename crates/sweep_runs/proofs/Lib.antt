pub mod Last
pub mod InorderLast
pub mod Order
