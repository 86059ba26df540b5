mod Two
pub mod CountSteps
pub mod LineSteps
pub mod Handing
pub mod Trials
