pub mod Sizes
pub mod Vectors
pub mod Blocks
pub mod Params
pub mod References
pub mod Marks
pub mod Clocks
pub mod Texts
