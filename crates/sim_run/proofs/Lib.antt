-- How to read the proof of `sim_run::simulate`: a simulation makes a closed tree.
-- 1. What is claimed: src/search.rt; specs/Schedules.antt (the first number that no worker has).
-- 2. What stands between two steps: specs/BetweenSteps.antt (`AreSimulated`, which only private
--    clauses cite: there is a list of views, one of width 1 for each walker, each belongs to its
--    walker, and the arena rule holds of the words with these views), Steps.antt (one step, and
--    steps along a schedule), Plain.antt. `EndsSchedule` of BetweenSteps and what it names of Steps
--    stand in the contract. proofs/Zips has what holds of two lists place by place.
-- 3. The beginning: proofs/Beginning (the views, from arena_rule's law `begins`). One step: Frames
--    (its word lies in the vector, and has room), Stepping (the rule and what belongs is kept, and
--    fewer steps are left). A step of each in turn: Rounds.
-- 4. The end: proofs/Closing (the views of walkers that are done are joined to one, and
--    arena_rule's law `closes` gives the clause). The schedule's numbers: Strays.

-- Steps of this crate's own proofs.
mod Zips
mod Frames
mod Stepping
mod Beginning
mod Closing
mod Along
mod Rounds
mod Strays
