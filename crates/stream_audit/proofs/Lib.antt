pub mod Lists
pub mod Streams
pub mod Headers
pub mod Verdicts
pub mod Approved
pub mod Periods
pub mod Known
pub mod Calls
pub mod Replays
pub mod Keeping
pub mod Beginning
pub mod Adding
pub mod Judged
pub mod Standing
pub mod Flags
mod Lines
mod Breaking
