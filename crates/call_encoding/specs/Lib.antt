pub mod Messages
pub mod Frames
pub mod Encoding
