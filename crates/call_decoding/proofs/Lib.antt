pub mod Numbers
pub mod Made
