mod Exact
mod AllMarks
pub mod Pieces
mod Rows
mod Places
mod Forgetting
pub mod FaultRows
