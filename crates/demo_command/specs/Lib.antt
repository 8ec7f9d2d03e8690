pub mod Demo
pub mod Laws
pub mod Machine
