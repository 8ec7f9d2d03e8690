pub mod Prediction
pub mod Text
pub mod Turns
pub mod Written
pub mod Faults
pub mod Laws
