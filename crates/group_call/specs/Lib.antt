pub mod Viewing
pub mod Holding
pub mod Refused
pub mod Following
pub mod One
pub mod Hearing
