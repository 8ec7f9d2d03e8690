pub mod Missing
pub mod Asking
pub mod Kept
pub mod Laws
