pub mod Choice
pub mod Granting
pub mod Laws
