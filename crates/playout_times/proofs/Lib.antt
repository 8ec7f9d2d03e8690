mod Choosing
mod Quarters
mod Following
mod Earliest
mod Dues
mod Recovering
