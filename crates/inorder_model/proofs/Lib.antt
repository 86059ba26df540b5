pub mod Bool
pub mod Lists
pub mod Slots
pub mod Deciding
pub mod Relations
pub mod Numbers
pub mod Turns
pub mod InorderTimingCore
