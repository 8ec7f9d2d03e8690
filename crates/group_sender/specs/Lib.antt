pub mod Parties
pub mod Running
pub mod Standing
pub mod Holding
pub mod Laws
pub mod InACall
pub mod Hearing
