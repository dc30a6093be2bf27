-- How to read the proofs of `hex_board::joined` and `Board::elements`: who is joined, and what the
-- elements are.
-- 1. What is claimed: src/paths.rt, by specs/Joined.antt; src/tables.rt, by specs/Elements.antt and
--    Places.antt (what lies near); src/laws.rt, by specs/Wins.antt.
-- 2. Who is joined: proofs/Search (the search of paths, `is_joined`, finds one if there is one) and
--    Reach (so does a flood).
-- 3. Elements: Roots (the least cells of groups) for src/groups.rt, by specs/Groups.antt; Parts
--    (the numbers of elements) for src/numbering.rt; Tabled and Places for src/tables.rt, by
--    specs/ElementTables.antt, which only private clauses cite.
-- 4. The laws: Placed (a board with one stone more), WinLaws, GroupLaws.

-- Laws for the layers above.
pub mod Parts
pub mod Roots
pub mod Search
pub mod EmptyBoards
pub mod WinLaws
pub mod GroupLaws
pub mod Places
pub mod Placed
-- Steps of this crate's own proofs.
mod Reach
mod Tabled
