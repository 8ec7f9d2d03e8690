pub mod Line
pub mod Reading
pub mod Lines
pub mod Input
pub mod Place
pub mod Reader
pub mod Trace
