pub mod Held
pub mod Answering
pub mod Counting
pub mod Wiring
pub mod Entering
pub mod Framing
pub mod Starting
pub mod Keeping
pub mod Refusing
pub mod NoSecond
mod Apart
mod Followed
