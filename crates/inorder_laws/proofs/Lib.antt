mod Found
mod Always
mod Moving
mod Issuing
mod Staging
pub mod Stages
pub mod Numbering
mod Making
pub mod Telling
pub mod Stepping
pub mod Staying
pub mod OutputRoom
pub mod OutputGrows
pub mod Counting
pub mod Bounds
mod Serving
pub mod Owing
pub mod Halting
mod FirstEnd
pub mod Laws
pub mod SplitRun
mod SplitRising
pub mod SplitStaying
pub mod SplitGrowing
pub mod Left
pub mod Arriving
pub mod Stopping
pub mod SplitRanges
pub mod Places
mod Onward
pub mod Leading
