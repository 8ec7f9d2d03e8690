pub mod Reaching
mod Marked
