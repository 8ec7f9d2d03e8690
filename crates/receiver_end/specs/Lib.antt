pub mod Decoding
pub mod State
pub mod Answers
pub mod Steps
