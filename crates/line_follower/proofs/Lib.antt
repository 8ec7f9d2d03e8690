mod Between
mod Choked
mod Debts
mod Outliers
mod Saying
pub mod Targets
