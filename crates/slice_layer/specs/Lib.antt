pub mod Around
pub mod Filled
pub mod Head
pub mod Text
pub mod Written
pub mod Writer
pub mod Faults
pub mod Laws
