-- How to read the proof of `tree_rule::TreeSeat::act`, `Tree::close`: the steps of seats on one
-- table.
-- 1. What is claimed: src/seats.rt and trees.rt; specs/Seats.antt (what is seen of a tree and its
--    seats), Visits.antt, Ends.antt.
-- 2. specs/Tables.antt: the arena rule as the rule of a table of the kit's crate atomic_table,
--    which asks of each kind of step that the rule holds after it. specs/Plays.antt: what a step
--    tells its seat.
-- 3. proofs/Moves: what the table asks is what arena_rule's proofs/Law gives; the arena in which a
--    step is made, told by specs/Events.antt. proofs/Within: the word of a step that fits lies in
--    the table. src/steps.rt has a function for each kind of step.
-- 4. proofs/Copies and Ends: the words at the end, from the rule with one seat left.

-- Laws for the layers above.
pub mod Moves
-- Steps of this crate's own proofs.
mod Within
mod Ends
mod Copies
