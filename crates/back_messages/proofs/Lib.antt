pub mod Codes
pub mod Flags
pub mod Texts
pub mod FaultRows
