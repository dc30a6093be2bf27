-- How to read the proof of `arena_rule::steps`, `runs`, `closes`: a step that fits keeps the arena
-- rule.
-- 1. What is claimed: src/laws.rt; docs/change/TREE.md has the gist in words. specs/Views.antt
--    (what is known of a seat), Lookups and Adds (what its blocks tell), Fits (which steps it may
--    make), Afters (what a step does), Answers (what it may be answered).
-- 2. The rule: specs/Parts.antt, Bounds.antt, Rule.antt (`IsState`, `Rule`), Runs.antt (a run of
--    events), Closed.antt and Shown.antt.
-- 3. The state before a step, and the form of the law of each part: proofs/Before (`blocks_after`:
--    the linked blocks after a step), Within, Frames, Changes, AddLaws. Numbers has `few`: numbers
--    in hand and recorded walks are at most N together, which is why no count wraps.
-- 4. A file a part: Apart (Fresh, Apart, Held), Linking (Linked, Known), SumsLinked and SumsLaw
--    (Sums), Widths, Tickets, InHand, Sole; then AnswersCounts (what a Look at a count answers),
--    and with it Loaded, FirstVisits, LeafBound, Room.
-- 5. The other answers: AnswersBlocks, AnswersNumbers. Splits and joins: SeatsBlocks, SeatsNumbers,
--    SeatsCounts, SeatsGrowth, SeatsRoom. The beginning: Firsts, Opening.
-- 6. The end: LastSeat (the walks of the last seat are those of all playouts), Recorded (counts are
--    those of the records), Closing (the five points of a closed tree).
-- 7. All together: Law (`state-step`, and what `steps`, `begins` and `closes` cite), RunLaws
--    (`runs`, `splits`, `joins`).
-- 8. Seats that owe: specs/Owing.antt. Reloaded (any seen word may stand in what a seat loaded),
--    Debts (sums of what is owed), Owing (a step, an add that is owed, what is given), OwingSeats
--    (splits, joins, the beginning and the end).

-- Laws for the layers above.
pub mod Options
pub mod Before
pub mod Totals
pub mod Changes
pub mod Reach
pub mod Within
pub mod Frames
pub mod Amounts
pub mod AddLaws
pub mod Linking
pub mod Apart
pub mod AnswersBlocks
pub mod Numbers
pub mod Tickets
pub mod KnownMore
pub mod InHand
pub mod Widths
pub mod Sole
pub mod Room
pub mod CountSums
pub mod LastSeat
pub mod Firsts
pub mod SumsLinked
pub mod SumsLaw
pub mod Loaded
pub mod FirstVisits
pub mod LeafBound
pub mod ViewStays
pub mod ViewSeats
pub mod Law
pub mod Reloaded
pub mod Debts
pub mod Owing
pub mod OwingSeats
-- Steps of this crate's own proofs.
mod Below
mod ByNumber
mod SeatsBlocks
mod Opening
mod SeatsRoom
mod Recorded
mod Closing
mod SeatsNumbers
mod AnswersNumbers
mod SeatsCounts
mod AnswersCounts
mod SeatsGrowth
mod RunLaws
mod Lags
