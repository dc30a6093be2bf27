-- How to read the proof of `hex_plan::plan` and `certified_moves_win`: what is planned, and that
-- certified moves win.
-- 1. What is claimed: src/planning.rt, `plan`, and laws.rt; specs/Plans.antt (`IsPlanned`),
--    Resting.antt (`RestsOn`), Turns.antt, Good.antt, Laws.antt. Behind these stand the report (hsearch, specs/Closed.antt),
--    the cut (win_cert, specs/Cuts.antt) and winning (hex_board, specs/Wins.antt).
-- 2. The plan: win_cert's src/edges.rt with proofs/EdgeNumbers (the entries between the two edges),
--    and src/edges.rt here with EdgeNumbers (whether there is one), winning.rt with Middles (a semi
--    entry between the edges follows over an empty cell, and the carrier of a full one has a cell),
--    MiddleOf and WinningCells (the cell by which such an entry wins), collecting.rt with Collected
--    (the threats, by rising carriers), regions.rt (the mustplay region), losses.rt (the certificate
--    of a loss, which is checked), solving.rt with Sought and after_stone.rt with AfterStone (plans
--    by certificates that are found); specs/Planning.antt, which only private clauses cite;
--    proofs/PlanLaws and Allowing (the allowed cells are empty, and there is one).
-- 3. Turns: src/turns.rt with proofs/Decides; their texts: src/texts.rt, report_texts.rt,
--    mustplay_texts.rt with proofs/Rows and Lines.
-- 4. That certified moves win: proofs/Certified (what a plan rests on certifies it) and
--    CertifiedMoves (`is_certified`, of good turns). Behind them stands SureWins: who is sure of joining his edges on a later
--    board wins it, by conn_store's proofs/Winning (`sure_wins`), and a report's entries are true,
--    by its proofs/RuleTruth (`sound_true`). With one worker: Reports and Same.

-- Laws for the layers above.
pub mod CertifiedMoves
pub mod Reports
pub mod Rooms
pub mod Same
-- Steps of this crate's own proofs.
mod AfterStone
mod Allowing
mod Certified
mod Collected
mod Decides
mod EdgeNumbers
mod Lines
mod MiddleOf
mod Middles
mod PlanLaws
mod Rows
mod Sought
mod ShownLosses
mod SureWins
mod WinningCells
