pub mod Rate
pub mod Followed
