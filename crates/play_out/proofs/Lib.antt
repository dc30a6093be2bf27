-- How to read the proof of `play_out::playout`: the filled board of a playout, and its result.
-- 1. What is claimed: src/playouts.rt; specs/Streams.antt (the generator's words, and the shuffle),
--    Fills.antt (the board and its result).
-- 2. The empty cells and their order: src/fours.rt with proofs/Quads (four cells at once, by
--    specs/Fours.antt), Counting and Listing (each cell once); src/order.rt with Shuffles.
-- 3. The stones: Turns (stones on cells in turn), Gifts with src/dealing.rt (from the last cell
--    down), Stones, and Filling for the calls of src/playouts.rt.

-- Laws for the layers above.
pub mod Listing
pub mod Counting
-- Steps of this crate's own proofs.
mod Quads
mod Shuffles
mod Turns
mod Gifts
mod Stones
mod Filling
