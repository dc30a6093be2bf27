-- How to read the proof of `htp_line::Splitter::push`: the lines are those of the whole stream.
-- 1. What is claimed: src/splitter.rt; specs/Lines.antt (the lines of a text), Splitting.antt (what
--    a splitter holds of it).
-- 2. proofs/LinesLaws (a text with more at its end), then SplitLaws (a splitter goes on through
--    it).
-- 3. Without lemmas: a request in src/request.rt by specs/Reading.antt, and an answer in
--    src/answer.rt by specs/Answering.antt.

-- Laws for the layers above.
pub mod LinesLaws
-- Steps of this crate's own proofs.
mod SplitLaws
