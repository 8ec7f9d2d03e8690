pub mod Text
pub mod Faults
pub mod Ranges
pub mod Written
pub mod Headed
pub mod Rows
