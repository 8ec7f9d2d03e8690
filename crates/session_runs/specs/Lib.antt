pub mod Unheard
pub mod Histories
pub mod Kept
pub mod Lines
pub mod Three
pub mod Following
pub mod Followed
