mod Promised
mod Asked
mod Named
mod Grouped
mod Exits
