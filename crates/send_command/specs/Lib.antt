pub mod Tally
pub mod Aimed
pub mod Send
pub mod Stands
pub mod Followed
