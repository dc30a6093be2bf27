-- How to read the proof of `match_ref::play_match`, `match_games_are_determined`: matches don't
-- depend on threads.
-- 1. What is claimed: src/matches.rt, laws.rt; specs/Matches.antt (the match game), Dealt.antt (the
--    games by number). Of the run: src/running.rt; src/table.rt (the options),
--    specs/MatchTable.antt and MatchWords.antt (what the words ask for), MatchTexts.antt (the
--    text), MatchRuns.antt (what stands at each end), over hex_devices' specs/Statuses.antt.
-- 2. One game: src/playing.rt, proofs/Legal: the loop's invariant is what follows of the game from
--    here on, so a turn is one step of the definition. Side by side: src/halves.rt, proofs/Dealing:
--    each half has every other game, and two halves dealt in turn are all.
-- 3. proofs/Determined: with one worker a good turn has one cell (hex_plan, proofs/Same), so a game
--    has one list of steps.
-- 4. The run: src/words.rt with proofs/WordLaws, src/texts.rt and records.rt with TextLaws,
--    src/running.rt with RunLaws.

-- Steps of this crate's own proofs.
mod Dealing
mod Legal
mod ListLaws
mod Determined
mod OneMatch
mod WordLaws
mod TextLaws
mod RunLaws
