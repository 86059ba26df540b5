pub mod Parts
pub mod MachineText
