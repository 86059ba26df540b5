pub mod Operands
pub mod Stations
pub mod Stores
pub mod Divisions
pub mod Changes
pub mod Snapshots
