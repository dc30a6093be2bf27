-- How to read the proofs of `answer` and `obey_with` of `hex_engine::Engine`: the reply to a
-- request.
-- 1. What is claimed: src/state.rt; specs/Requests.antt, with a file for each kind of reply; Supply
--    and Uses (what is used up, and where that came from).
-- 2. Commands that use nothing up: `obey` in src/quiet.rt. Arguments: src/forms.rt with
--    proofs/Spelling and Names. `showboard`: src/picture.rt with Ranges.
-- 3. `genmove`: src/genmove.rt, with src/next_turn.rt for its turn. `loadsgf`: src/loadsgf.rt. Both
--    by specs/Calls.antt, which only private clauses cite, with proofs/UsedUp (what a fetch uses
--    up).
-- 4. For the crates above: Legal (the cell of a good turn that is next makes a legal move).

-- Laws for the layers above.
pub mod Legal
-- Steps of this crate's own proofs.
mod Ranges
mod Spelling
mod UsedUp
mod Names
