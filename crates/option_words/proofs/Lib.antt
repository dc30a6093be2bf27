-- How to read the proof of `option_words::clap_reads_lines`: `clap` reads the grammar of lines.
-- 1. What is claimed: src/finding.rt; specs/Grammar.antt (a form, and the words as parts),
--    Lines.antt (`IsLine`), Command.antt (the command of a form, as clap is given it and as it
--    builds it), Finding.antt. The words `fault_of`, `matches_of` are those of the kit's crate
--    clap.
-- 2. proofs/Rules, Steps, Turns: one turn of clap's own walk over the words, for each kind of word.
--    Ends and Rest: its end, with defaults and the positional word.
-- 3. proofs/Sayings: what is said once.
-- 4. proofs/Lexing and Sound: if clap finds no fault the words are parts. proofs/Whole: if they
--    are, it finds none, and its values are what they say.
-- 5. proofs/LineLaw: both together. proofs/HyphenLemmas: a hyphen alone is no part of a line, but
--    for the positional word.
-- 6. `hexd_args::CommandLine::read` adds the table and the values: specs/Table.antt, Values.antt,
--    Reading.antt (`WellFormed`), proofs/WellLemmas (that its command reads its form is computed
--    there). So does `match_ref::read_match_words`: specs/MatchTable.antt, MatchWords.antt
--    (`AskFor`), proofs/WordLaws.

-- Laws for the layers above.
pub mod NumberLemmas
pub mod ValueLemmas
pub mod Unsaid
-- Steps of this crate's own proofs.
mod TextLemmas
mod Rules
mod Steps
mod Turns
mod Lexing
mod Ends
mod Sayings
mod Rest
mod Sound
mod Whole
mod LineLaw
mod HyphenLemmas
