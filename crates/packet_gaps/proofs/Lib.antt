mod Lists
mod Choosing
mod Past
mod Twice
mod Naming
mod Later
