pub mod Timed
pub mod Kept
pub mod Laws
