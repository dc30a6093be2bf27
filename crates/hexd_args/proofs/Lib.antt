-- How to read the proof of `hexd_args::CommandLine`: options exactly if the words are well formed.
-- 1. What is claimed: src/command_lines.rt; specs/Reading.antt (`WellFormed`, and what the type
--    keeps, `AreReadAs`), Table.antt (hexd's options), Values.antt (what the texts of values say);
--    src/laws.rt (the table in the manual's numbers).
-- 2. src/command.rt: the command that the code makes, an option after another, is that of
--    Table.antt.
-- 3. proofs/RangeLemmas (options are in their ranges), WellLemmas (what is found in words that are
--    well formed), and then the answers of `read_words` in src/reading.rt, which makes what the
--    type keeps.

-- Steps of this crate's own proofs.
mod RangeLemmas
mod WellLemmas
