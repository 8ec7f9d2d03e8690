pub mod NearEach
pub mod Refusing
pub mod LastFour
pub mod Last
