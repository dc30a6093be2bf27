-- How to read the proof of `turn_modes::hand_in`: the one turn of `sim` and `bench`.
-- 1. What is claimed: src/modes.rt; specs/Positions.antt, Schedules.antt, Rows.antt, Records.antt,
--    ModeTexts.antt (the texts), OneTurn.antt (the turns and texts), HandingIn.antt (what is done
--    with them).
-- 2. The position: src/positions.rt, proofs/Placing and Orders. The schedule: src/schedules.rt,
--    proofs/Words. The turn: src/searches.rt, proofs/Decided.
-- 3. The text: src/records.rt with proofs/Recorded (no record word of a closed tree is 0),
--    src/texts.rt with Preferred (the best cell of a tree is that of its rows); proofs/TextLaws
--    (what the texts say, and that the options determine them). Handed over: proofs/Handed.

-- Laws for the layers above.
pub mod Handed
-- Steps of this crate's own proofs.
mod Placing
mod Orders
mod Words
mod Recorded
mod Preferred
mod Decided
mod TextLaws
