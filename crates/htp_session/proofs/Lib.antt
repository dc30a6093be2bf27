-- How to read the proof of `htp_session::converse`: what a conversation gives.
-- 1. What is claimed: src/conversation.rt; specs/Talk.antt (the talk over a list of lines) and
--    Endings.antt (what stands at each end).
-- 2. The invariant that each call of a session keeps, whatever conversation it is of, or else ends
--    the conversation: `HasAnswered` in specs/Sessions.antt; specs/Calls/Session.antt says which
--    call does what. Only private clauses cite these.
-- 3. What an answer to a line does, over `DevicesState` of hex_devices: src/answering.rt, asking.rt
--    and holding.rt, specs/Calls/ and Usage.antt; proofs/Speaking, UsageLaws, Passing.
-- 4. How the invariant goes on, and what stands at each end: proofs/TalkLaws (a talk goes on by one
--    line), SupplyLaws (more to use up changes nothing of it), Keeping (what the link told), Ends,
--    Conversations and Outcomes. Then each call: NextLines (`advance`, `finish`), Feeding (`take`,
--    `feed`), ReadPieces (`converse`, whose loop keeps the same invariant), Pieces.
-- 5. The laws, in src/laws.rt: SupplyLaws, with MoreLeft; OneWorkerLoads, OneWorkerMoves and
--    OneWorker (one worker is determined). For hex_cli: TakenTurns.

-- Laws for the layers above.
pub mod TakenTurns
pub mod SupplyLaws
pub mod Conversations
pub mod OneWorker
-- Steps of this crate's own proofs.
mod TalkLaws
mod Pieces
mod Keeping
mod Ends
mod MoreLeft
mod UsageLaws
mod Speaking
mod Passing
mod Outcomes
mod NextLines
mod Feeding
mod ReadPieces
mod OneWorkerLoads
mod OneWorkerMoves
