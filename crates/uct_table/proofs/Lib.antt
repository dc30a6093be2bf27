-- How to read the proofs of `uct_table`: scores, and the child that is chosen.
-- 1. Scores, specs/Scores.antt: src/scoring.rt with proofs/Roots (the greatest number that passes),
--    Levels and Means.
-- 2. What stands for a score in src/scorer.rt: specs/Bounds.antt and ReciprocalRoots.antt, which
--    only private clauses cite, with proofs/Bounds, and ReciprocalRoots for
--    src/reciprocal_roots.rt.
-- 3. The choice, specs/Choice.antt: src/choosing.rt with Keeping (going through a list keeps the
--    one of Choice); Choices and ChoiceLaws for the crates above.

-- Laws for the layers above.
pub mod Keeping
pub mod ChoiceLaws
pub mod Choices
-- Steps of this crate's own proofs.
mod Roots
mod Means
mod Levels
mod Bounds
mod ReciprocalRoots
