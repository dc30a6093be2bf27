-- How to read the proof of `sgf_game::to_game`, `from_game`, `game_text`: the game of a record.
-- 1. What is claimed: src/reading.rt; specs/GameOf.antt, then Lines.antt (the main line),
--    Setup.antt (size and start stones), Turns.antt (the moves, and the first that is refused). It
--    has no other clause than that the answer is `game_of` of the trees, or out of memory.
-- 2. src/line.rt, sizes.rt, setup.rt (with proofs/Placing: stones placed one after another),
--    turns.rt, playing.rt (with proofs/Refusals: the first turn that is refused stands behind at
--    most 122 steps).
-- 3. Back again: specs/Record.antt; proofs/Spelled (texts), Rising, SetUpBack (the start stones),
--    StepsBack (the steps, and the game), HasText; src/writing.rt, and of its text records.rt.

-- Laws for the layers above.
pub mod Texts
-- Steps of this crate's own proofs.
mod Lists
mod Placing
mod Refusals
mod Rising
mod Spelled
mod SetUpBack
mod StepsBack
mod HasText
