pub mod Coding
pub mod Bytes
pub mod Sent
pub mod OfOnePicture
