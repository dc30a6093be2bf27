-- How to read the proof of `conn_store`: entries are true.
-- 1. What is claimed: src/stores.rt, `Store::entries`, clauses `sound` and `true_entries`;
--    src/laws.rt, `sound_entries_are_true`, `truth_goes_on` and `connected_edges_win`.
--    specs/Truth.antt (`IsSure`: what a player is sure of, by recursion on the number of cells),
--    Links.antt, Entries.antt (valid and true), Rules.antt (the four rules), Stores.antt
--    (`IsSound`, `AreTrue`).
-- 2. proofs/Sureness: laws of what one is sure of, for any goal: who is sure with the other to
--    begin is sure if he begins; more cells and more stones do no harm; two goals on cells apart; a
--    choice of ways.
-- 3. proofs/Ways: paths of places from element to element. proofs/RuleTruth: what each of the four
--    rules gives is true if what it follows from is true (Sureness for the goal that two elements
--    are linked), and so the entries of a sound store are true, one after the other.
-- 4. proofs/Pairs, Numbers and Tables: the store and its index; src/stores.rt `add` and `append`
--    with their answers.
-- 5. proofs/Chains, RuleEntries and Overs: the calls `over`, `by_adjacent`, `by_and`, `by_or_two`,
--    `by_or_three` of src/rules.rt.
-- 6. proofs/Edges and Winning: who is sure of linking his edges wins, in the words of hex_board's
--    specs/Wins.antt.

-- Laws for the layers above.
pub mod Sureness
pub mod Winning
pub mod Ways
pub mod Edges
pub mod RuleTruth
pub mod Numbers
pub mod Tables
pub mod Chains
pub mod RuleEntries
pub mod Overs
-- Steps of this crate's own proofs.
mod Pairs
