pub mod Cuts
pub mod Frames
pub mod Heads
pub mod Inputs
pub mod Lines
pub mod Newlines
pub mod Places
pub mod Readers
pub mod Results
pub mod Spelling
pub mod Stops
pub mod Tags
pub mod Videos
pub mod Words
pub mod Written
mod ByFrames
