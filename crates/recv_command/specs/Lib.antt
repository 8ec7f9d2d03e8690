pub mod Tally
pub mod Said
pub mod Recv
pub mod JoinTally
pub mod Join
pub mod Followed
