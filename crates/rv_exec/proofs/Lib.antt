pub mod DivisionLaw
pub mod ProductLaw
