pub mod Heads
pub mod Readers
pub mod Results
pub mod Entries
pub mod Logs
