pub use Rattle.fsim_base.specs.Number
pub mod Field
pub mod Table
pub mod Decode
pub mod Encode
pub mod Fits
pub mod Class
