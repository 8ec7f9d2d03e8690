pub mod Headers
pub mod Ways
pub mod Pair
pub mod Keeping
pub mod Shown
pub mod Bringing
pub mod Laws
