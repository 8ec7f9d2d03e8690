pub mod Aiming
pub mod Stands
