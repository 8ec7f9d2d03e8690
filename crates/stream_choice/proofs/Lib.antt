mod Grants
mod Beside
mod Ending
