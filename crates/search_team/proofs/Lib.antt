-- How to read the proof of `search_team::work`, `search`: a team makes a closed tree.
-- 1. What is claimed: src/working.rt and searching.rt; specs/Works.antt. Of one worker it is what
--    `search_alone` (seq_search) promises.
-- 2. A worker ends: specs/WorkLeft.antt (what it has left to do), proofs/Numbers and Falls. What a
--    step keeps is walker's `op` and `got`, and tree_rule's `act`.
-- 3. Steps in a row: proofs/Going has their one shape (`IsNext`, `goes`). Which walker's next step it
--    is if a part of one was lent: proofs/ChildLooks, NodeWrites, SeenAdds.
-- 4. What a worker holds back: specs/Debts.antt (its table has what its seat owes), proofs/Debts.
-- 5. The team, by halves: proofs/Halves.
-- 6. The tree in a cut area is that of the whole shape: proofs/Narrow, by laws of tree_words
--    (proofs/Areas).

-- Steps of this crate's own proofs.
mod Numbers
mod Falls
mod Going
mod SeenAdds
mod Debts
mod Halves
mod ChildLooks
mod NodeWrites
mod Narrow
