mod Choosing
mod Keeping
mod Nearest
mod Flags
