pub mod Streams
pub mod Fills
pub mod Fours
