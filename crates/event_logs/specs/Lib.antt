pub mod Entry
pub mod Text
pub mod Place
pub mod Reader
pub mod Log
