pub mod Output
pub mod Promises
