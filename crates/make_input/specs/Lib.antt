pub mod Frames
pub mod Trace
pub mod Left
pub mod Expanded
