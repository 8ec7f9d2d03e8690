pub mod Casting
pub mod Counting
pub mod Living
pub mod Calling
