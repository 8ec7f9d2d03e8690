pub mod Marks
pub mod Samples
pub mod Squares
pub mod Shown
pub mod Coded
pub mod Undrawn
