pub mod Left
pub mod Gains
pub mod Roles
pub mod Inputs
pub mod Given
pub mod Fronts
pub mod Writes
