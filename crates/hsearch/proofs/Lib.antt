-- How to read the proof of `hsearch::connect`: a report is closed.
-- 1. What is claimed: src/reports.rt; specs/Closed.antt (`IsReport`, `IsRuleClosed`).
-- 2. Which only private clauses cite: specs/Taken.antt, what is settled of the entries that were
--    taken, and their marks; specs/Listed.antt, their lists; specs/Waiting.antt, those that wait.
-- 3. proofs/Growth: what stays settled when the store grows. proofs/Orders: the rules without an
--    order of the entries. proofs/Steps: what is settled after one entry more was taken (`AreTaken`
--    speaks of any two or three that were, without an order; `combined_itself` of an entry twice).
--    proofs/TakenLists and Queues: the lists, and the queues by size.
-- 4. src/combining.rt with its answers (`add_near`, then `combine`, `join`, `choose`), listing.rt
--    and waiting.rt, and then `connect`: its loop ends when none waits, and then all is settled.

-- Laws for the layers above.
pub mod Orders
pub mod Steps
-- Steps of this crate's own proofs.
mod Growth
mod Queues
mod TakenLists
