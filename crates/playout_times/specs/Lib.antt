pub mod Ways
pub mod Due
pub mod Kept
pub mod Laws
