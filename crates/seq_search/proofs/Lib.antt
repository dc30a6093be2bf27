-- How to read the proof of `seq_search::search_alone`: the search of one worker makes the tree of
-- Seq.
-- 1. What is claimed: src/search.rt, `search_alone`; in tree_words specs/Walks.antt (a tree, and
--    one walk on it), Sequence.antt (`seq_of`), Trees.antt (`IsTreeOf`), Closing.antt (`IsClosed`)
--    with Complete, Records, Counts and Growth.
-- 2. What stands between the steps of a search: in seq_search specs/Steps.antt (`Holds`: the words
--    hold the tree of these blocks), IsSearched.antt (their counts and records are those of k
--    walks), Searching.antt (`Searched`: both, and the tree is that of k walks of the definition),
--    Descending.antt and Adding.antt (one walk on its way).
-- 3. The walk on blocks is the walk on trees, in tree_words proofs/: Blocks/BlockLaws, Walks/Down,
--    Walks/Adds, Walks/Expands, Walks/WalkLaws (`walk-tree`), Blocks/GameLaws, Walks/Climbs,
--    Walks/Leaves, Walks/Tallies.
-- 4. One walk of the code: src/descending.rt with proofs/LinkLaws and Ways; src/choosing.rt with
--    Choices; src/expanding.rt with LeafBlocks and Growing; src/reaching.rt with Reaches;
--    src/adding.rt with Additions, Paces and Recordings.
-- 5. All walks: proofs/Openers (the opening words), Standings and Turns (what k walks leave, and
--    one more), Searches (`searched-opening`, `searched-more`, `searched-closed`), and
--    src/search.rt with the answers of `walk`, `make_walks` and `search_alone`.

-- Steps of this crate's own proofs.
mod Ways
mod Choices
mod LinkLaws
mod Standings
mod Turns
mod LeafBlocks
mod Growing
mod Openers
mod Reaches
mod Additions
mod Paces
mod Recordings
mod Searches
