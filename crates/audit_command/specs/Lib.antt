pub mod Audit
pub mod Followed
