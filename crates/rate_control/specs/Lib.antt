pub mod Level
pub mod Pace
pub mod Pictures
pub mod Metering
pub mod Text
pub mod Laws
