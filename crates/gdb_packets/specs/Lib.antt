pub mod Hexadecimal
pub mod Frame
pub mod Packet
pub mod Stream
pub mod Receiver
