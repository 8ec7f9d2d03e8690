pub mod Counting
pub mod Placing
pub mod Streams
pub mod Kept
pub mod Laws
