pub mod Moves
pub mod Games
pub mod Kept
