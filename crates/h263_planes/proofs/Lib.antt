pub mod Ranges
pub mod Pictures
pub mod Runs
pub mod Wholes
pub mod Givens
mod Spots
pub mod Rows
pub mod LentRows
