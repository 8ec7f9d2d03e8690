pub mod Packet
pub mod Laws
pub mod Filled
pub mod Taken
pub mod Collected
pub mod Rows
