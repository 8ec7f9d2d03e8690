pub mod Sessions
pub mod Ruled
pub mod Whole
