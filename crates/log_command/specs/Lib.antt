pub mod Log
pub mod Followed
