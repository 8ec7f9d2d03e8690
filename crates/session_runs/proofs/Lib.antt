mod Answering
mod Configs
mod Dues
mod Moments
mod Playing
mod Taking
