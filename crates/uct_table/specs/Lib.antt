pub mod Scores
pub mod Choice
pub mod Bounds
pub mod ReciprocalRoots
