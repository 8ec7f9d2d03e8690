pub mod Choice
pub mod Guess
pub mod Residuals
pub mod Walk
