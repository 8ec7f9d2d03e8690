pub mod Lines
pub mod Group
pub mod Standing
pub mod Turning
pub mod Begin
pub mod Recorded
