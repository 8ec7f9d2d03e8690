pub mod Text
pub mod Faults
pub mod Written
pub mod Rows
