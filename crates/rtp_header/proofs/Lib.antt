pub mod Heads
pub mod Exact
pub mod Writing
pub mod FaultRows
