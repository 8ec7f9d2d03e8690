mod Captured
mod Plain
