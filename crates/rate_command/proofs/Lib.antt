mod Telling
mod Followed
