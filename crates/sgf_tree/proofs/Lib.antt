-- How to read the proof of `sgf_tree::parse`: the text is read exactly by the grammar.
-- 1. What is claimed: src/parsing.rt; specs/Trees.antt, Grammar.antt (a relation between trees and
--    bytes), Places.antt (the place of a refusal, told from the grammar alone).
-- 2. specs/Reading.antt, ReadingStates.antt and Verdict.antt, which only private clauses cite: the
--    reader, a byte at a time, as a function.
-- 3. proofs/Forward: the reader goes over each text of a collection and ends with it.
--    proofs/Backward: what the reader goes over is a text. proofs/Depths and Completion: how deep
--    it has been, and that whatever it has gone over can be completed; so where it stops is the
--    longest prefix.
-- 4. proofs/Verdicts and Answering: from where the reader stops to the clauses. Then src/reading.rt
--    and parsing.rt with their answers.

-- Laws for the layers above.
pub mod Verdicts
-- Steps of this crate's own proofs.
mod RowLaws
mod Stacks
mod Choices
mod Forward
mod Backward
mod Depths
mod Completion
mod Going
mod Printed
mod Answering
mod Finishing
