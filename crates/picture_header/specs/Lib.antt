pub mod Text
pub mod Back
pub mod Written
pub mod Ranges
pub mod Made
pub mod Faults
pub mod Laws
