pub mod Simple
pub mod Clap
pub mod Values
pub mod Asked
pub mod View
