mod Levels
mod Digits
mod Runs
mod Ends
mod Meters
