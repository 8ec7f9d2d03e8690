pub mod Fits
pub mod Orders
pub mod Bounds
