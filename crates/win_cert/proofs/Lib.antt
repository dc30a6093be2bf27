-- How to read the proof of `win_cert::accepted_certificates_win`: accepted certificates win.
-- 1. What is claimed: src/laws.rt; specs/Laws.antt, Scopes.antt, Entries.antt (what each line
--    gives), Statements.antt, Reasons.antt (the thirteen reasons), Verdicts.antt (`Accepted`).
--    Winning is hex_board's `Wins`, truth conn_store's.
-- 2. proofs/SameTests, StonesOn, LinksOn: stones off a board change no element. ScopeBoards,
--    GoodEntries: an entry is kept with three facts: it is true, its carrier has empty cells of its
--    scope's board alone, and none of its elements' cells.
-- 3. A form of line each: NamedEntries, Middles, ChainLines (`and`, `key`), EdgeEntries, CaseLines
--    (`or`, `cases`), and LineTruth for all. `lift`: MoreStones (what a player is sure of, with more
--    stones, on cells of the carrier too), LiftedLinks (elements that hold others), LiftLines.
-- 4. proofs/GivenEntries and AcceptedLaw: all lines, and the claim.
-- 5. That a line has no reason against it exactly if its rule of connection applies
--    (src/rule_lines.rt, specs/RuleLines.antt): proofs/RuleLines, by CutSteps one way and
--    NamedEntries and Middles the other; ManyLines for each `or`, of whatever number.
--
-- How to read the proof of `win_cert::read`, `written_text_is_read_back`: the text of a
-- certificate.
-- 1. What is claimed: src/reading.rt and spelling.rt; specs/Texts.antt (the text, as lines of
--    words), Writable.antt (which certificates have one), Readings.antt (what bytes are read as,
--    from such texts alone).
-- 2. specs/Words.antt, Named.antt, Lines.antt and OneLine.antt (what reading one line does), which
--    only private clauses cite: the reader as a function of the lines, word by word and line by
--    line. The code of src/reader.rt, words.rt, values.rt, heads.rt, keywords.rt, statements.rt and
--    reading.rt is that function. The writer is src/writing.rt (the lines) over pushing.rt (words,
--    numbers, vertices).
-- 3. The text and its lines: proofs/Joining, Splitting, TextLines, LineParts. What words say is
--    what they are the words of: Options, NumberWords, CellWords, CellLists, CellSets, WordParts,
--    StepWords; and no word has a space or a line feed: PlainWords.
-- 4. What is read is good and has this text: HeadMeans, StepMeans, StepsMean, ReadMeans. A
--    certificate's text is read as the certificate: ReadBack.
-- 5. The refusals: HeadStages, BadLines, GoodFronts, BadHeads (the lines before the one that is
--    named are good, and with it they aren't), StepLines, LongTexts (a line too many).
-- 6. All together: Parsed, which both contracts cite.
--
-- How to read the proof of `win_cert::cut`: what is cut from a report is accepted.
-- 1. What is claimed: src/cutting.rt; specs/Cuts.antt (the certificate, and the entries on which an
--    entry rests), Contexts.antt (lines that are read in turn).
-- 2. specs/Cutting.antt, which only private clauses cite: marked entries, and the line for each.
-- 3. src/marking.rt with proofs/CutDerivations (premises are earlier entries), CutMarks and
--    Supports: the marked entries are those on which the entry rests.
-- 4. One line: proofs/CutEnds (the end that names an element), CutChains, CutSteps (a line gives
--    the store's entry in its scope, and there is no reason against it), CutLines.
-- 5. All lines: Appending (lines after lines), CutWhole. The certificate: Stepping (its lines, read
--    in turn), Accepting (clear lines with the claim's entry are accepted), CutCertificates.
-- 6. For whoever makes certificates of his own, what lines show of a position that is reached from
--    the board: specs/Showing.antt, Reaching (positions and scopes), ScopeLines (`put`, `done`,
--    `move` and `cases`: no reason against them, and what they give), Shown (two lines each: a
--    `put` with one of the other three), VersionLines (lines of version 2 need none later).

-- Laws for the layers above.
pub mod GivenEntries
pub mod AcceptedLaw
pub mod ClaimedMoves
pub mod Joining
pub mod Stepping
pub mod CutChains
pub mod CutSteps
pub mod CutDerivations
pub mod CutEnds
-- Lines after lines, what they show of a position, and when they are accepted.
pub mod Appending
pub mod Reaching
pub mod ScopeLines
pub mod Shown
pub mod Accepting
pub mod VersionLines
-- Steps of this crate's own proofs.
mod Vectors
mod SameTests
mod StonesOn
mod LinksOn
mod ScopeBoards
mod GoodEntries
mod EdgeEntries
mod EdgeNumbers
mod NamedEntries
mod Middles
mod ChainLines
mod CaseLines
mod MoreStones
mod LiftedLinks
mod LiftLines
mod LineTruth
mod LawVectors
mod Options
mod Splitting
mod NumberWords
mod CellWords
mod CellLists
mod LineParts
mod WordParts
mod CellSets
mod StepWords
mod StepMeans
mod TextLines
mod HeadMeans
mod StepsMean
mod PlainWords
mod ReadMeans
mod ReadBack
mod BadLines
mod HeadStages
mod GoodFronts
mod LongTexts
mod BadHeads
mod Parsed
mod StepLines
mod SameVerdict
mod CutLines
mod CutMarks
mod Supports
mod CutWhole
mod RuleLines
mod ManyLines
mod CutCertificates
