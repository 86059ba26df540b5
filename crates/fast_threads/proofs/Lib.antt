mod Functional
mod Timing
mod Ended
mod Keeping
