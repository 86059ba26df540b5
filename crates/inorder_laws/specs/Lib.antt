pub mod Runs
pub mod FirstEnd
pub mod Numbers
pub mod SplitLaw
pub mod Rounds
pub mod Stages
