pub mod Lines
pub mod Waiting
pub mod Counting
pub mod Duplex
pub mod FourStores
pub mod Refused
pub mod Rows
