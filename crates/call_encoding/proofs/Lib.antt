pub mod Messages
pub mod Styles
