pub mod Fields
pub mod Image
pub mod Sound
pub mod Load
pub mod Write
pub use Rattle.fsim_base.specs.Range
