-- How to read the proof of `tree_words::words_show_one_tree`: the words show one tree.
-- 1. What is claimed: src/laws.rt; specs/Blocks.antt (linked blocks), Complete.antt (`Linked`),
--    Told.antt (`AreAmong`), Trees.antt (`tree_of`).
-- 2. proofs/Blocks/BlockLaws, Links, Members and Orders: going by links, and blocks from the oldest
--    on.
-- 3. proofs/Blocks/Within: what a part of the blocks tells of a node is what all of them tell, and
--    a block is told by its first word and its parent's board.
-- 4. proofs/Blocks/OneTree: each block of one list is in the other, by going through the list from
--    the oldest; and then all that is gathered from them is the same.

-- Laws for the layers above.
pub mod Blocks
pub mod Boards
pub mod NewBlocks
pub mod Walks
pub mod Areas
