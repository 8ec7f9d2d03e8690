mod Judging
mod Later
mod Looking
mod Plays
mod Reading
mod Rivals
mod Settling
mod Only
