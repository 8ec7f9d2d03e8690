pub mod Headers
pub mod Coding
pub mod Late
pub mod Selecting
pub mod State
pub mod Parts
pub mod Stands
pub mod Known
