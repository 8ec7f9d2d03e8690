pub mod Desk
pub mod Gains
pub mod Host
pub mod Memory
pub mod Lines
