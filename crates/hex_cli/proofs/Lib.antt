-- How to read the proof of `hex_cli::run`: what a run gives. Each crate that is named here has an
-- order of its own at the head of its proofs/Lib.antt.
-- 1. What is claimed: src/top.rt. docs/trust/PROMISES.md says which definitions to read for it, and
--    in which order.
-- 2. A session: one request by `answer` and `obey_with` of `hex_engine::Engine`, the conversation
--    by `htp_session::converse`.
-- 3. The modes that take a whole input: `hex_devices::answer_input`, with src/whole_inputs.rt,
--    certificates.rt, audits.rt and solutions.rt; proofs/SolvedTexts (what a solver says of a
--    game's board) and InputEnds (what follows of how such a mode ends). What they answer is proved
--    at `win_cert::read`, `cert_check::check`, `trace_audit::audit` and `hex_solve::solve`.
-- 4. The modes that read nothing: `hex_devices::hand_over`, with src/single_turns.rt,
--    proofs/HandedTurns. Their turns and texts are those of `turn_modes::hand_in`.
-- 5. The status: `play` in src/playing.rt, `serve` in src/serving.rt and `run` in src/top.rt, by
--    specs/Served.antt, which only private clauses cite (what is done in each mode, told of the
--    devices); proofs/RunLaws (how a session ends), Doings (what follows in any mode), Leavings.
--    That each status is that of one end is hex_devices', what the words ask for is
--    `hexd_args::CommandLine`'s.
-- 6. The clause `good_turns` is what the private clauses say, and `conversed` a part of it. The
--    clauses `headline` and `threats`: hex_engine, proofs/Legal; htp_session, proofs/TakenTurns;
--    proofs/GeneratedMoves, with hex_plan, proofs/CertifiedMoves, for certified moves and moves
--    that lose. The clause `determined`: htp_session, proofs/OneWorker; proofs/DeterminedLaws. They
--    rest on what `hex_plan::one_worker_decides` says (hex_plan, proofs/Same and Reports), and that
--    on tree_words, proofs/Blocks/OneTree. Last, proofs/Leavings: these clauses, and what follows
--    in any mode, told of link, shelf and archive by themselves.

-- Steps of this crate's own proofs.
mod InputEnds
mod HandedTurns
mod Doings
mod Leavings
mod SolvedTexts
mod RunLaws
mod DeterminedLaws
mod GeneratedMoves
