-- The writes of a block, and the opening words.

-- Laws for the layers above.
pub mod Writes
pub mod Openings
pub mod OpeningLaws
pub mod OpeningTold
