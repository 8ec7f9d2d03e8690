pub mod Undisturbed
pub mod Bounded
pub mod Recovering
pub mod InTime
pub mod AskingAgain
