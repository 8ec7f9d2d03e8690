mod Beginning
mod Entries
mod Handling
mod Answering
mod Refusing
mod Followed
