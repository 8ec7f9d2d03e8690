mod Building
mod Givens
mod Rules
mod Walking
mod Parsing
mod Named
mod Numbers
mod Reading
