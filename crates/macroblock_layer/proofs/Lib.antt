pub mod Ranges
pub mod Leads
pub mod Skipped
pub mod Productive
pub mod Within
pub mod Blocks
pub mod Lengths
pub mod Spelt
pub mod FaultRows
pub mod Sixes
mod Joined
mod InI
