mod Finding
mod Pacing
