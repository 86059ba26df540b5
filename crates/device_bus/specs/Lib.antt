pub mod Range
pub mod Device
pub mod AnyDevice
pub mod Undo
pub mod Bus
