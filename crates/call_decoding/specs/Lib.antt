pub mod Rules
pub mod Styles
pub mod Samples
