pub mod Text
pub mod Placed
pub mod Step
pub mod Faults
pub mod Laws
pub mod Waiting
