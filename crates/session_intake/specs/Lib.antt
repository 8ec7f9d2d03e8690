pub mod Settings
pub mod Datagrams
pub mod Asked
pub mod Counts
