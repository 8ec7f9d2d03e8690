pub mod Gained
pub mod Phases
pub mod Running
pub mod Attaching
pub mod Finishing
pub mod Parts
pub mod Steps
