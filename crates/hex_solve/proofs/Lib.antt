-- How to read the proof of `hex_solve::solve`: who wins, with a certificate.
-- 1. What is claimed: src/solver.rt; specs/Solved.antt (a clause for each answer), Deciding.antt
--    (first, positions_needed and bound). src/laws.rt with proofs/FirstWins and PositionsBound: first wins,
--    and the positions needed are at most bound.
-- 2. What lines show of a position: win_cert's specs/Showing.antt (the scope of the player's later
--    stones), with its proofs/Reaching, ScopeLines, Shown and Appending.
-- 3. A ledger: specs/Ledgers.antt and Marks.antt, src/ledgers.rt, and src/additions.rt over
--    proofs/LedgerLaws and TwoLines (a line more, and two), AddedLines (`put` with `done` or
--    `move`) and AddedCases.
-- 4. The plain search: specs/PlainSearch.antt, src/plain_search.rt. proofs/Sums and NextPositions
--    (positions_needed and first, one stone on), NobodyJoined, Growing (ledgers that grow), TreeLines (the most lines
--    of a win's tree), Trying (the loop over the cells), TryingEnds and Found.
-- 5. Its end: specs/PlainAnswer.antt, src/plain_answer.rt, proofs/LedgersTell (clear lines with a
--    claim are an accepted certificate, by win_cert's Accepting).
-- 6. With connections: proofs/RootEntries (a semi entry at the root); then hex_found's `find`,
--    whose contract is what the clauses ask of a winner, with no proof here; and then `solve`.

-- Steps of this crate's own proofs.
mod FirstWins
mod PositionsBound
mod LedgerLaws
mod Sums
mod NextPositions
mod TwoLines
mod AddedLines
mod AddedCases
mod NobodyJoined
mod Growing
mod TreeLines
mod Trying
mod TryingEnds
mod Found
mod LedgersTell
mod RootEntries
