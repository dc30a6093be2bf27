-- How to read the proof of `hex_game::Game`: a game is the replay of its steps.
-- 1. What is claimed: src/history.rt; specs/Moves.antt, Games.antt (the replay, and what is legal).
-- 2. The rule: src/rule.rt with proofs/Room (stones are counted, so the game has room for each step
--    that may come) and Rules (a step is refused exactly if it is not legal).
-- 3. The history: specs/Kept.antt, which only private clauses cite; proofs/Chains (one step more,
--    and one less) for `play`, `undo` and `board`.

-- Laws for the layers above.
pub mod Over
-- Steps of this crate's own proofs.
mod Chains
mod Room
mod Rules
