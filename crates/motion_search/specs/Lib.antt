pub mod Order
pub mod Cost
pub mod Vectors
pub mod Best
pub mod Rows
pub mod Areas
pub mod SoFar
