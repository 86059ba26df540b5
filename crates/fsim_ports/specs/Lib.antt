pub mod Count
pub mod Files
pub mod Loading
pub mod Sink
pub mod Plan
pub mod Memory
pub mod Host
pub mod Source
