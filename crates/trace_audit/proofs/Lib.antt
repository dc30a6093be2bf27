-- How to read the proof of `trace_audit::audit`: what an audit says of bytes.
-- 1. What is claimed: src/auditing.rt; specs/Traces.antt (the text of a tree), Told.antt (the tree
--    that is read), Verdicts.antt (the first flaw).
-- 2. The text: src/parsing.rt and fields.rt; proofs/WordBytes, TextForm, FieldLaws, TextTree,
--    TextWords.
-- 3. The blocks, from low words to high ones: src/blocks.rt, sites.rt, index.rt (which block begins
--    at which word: specs/Slots.antt, proofs/Slots), entries.rt and linking.rt; specs/Tables.antt,
--    and Scans.antt (what each step answers); proofs/Matches (what an answer of yes or no tells),
--    Standing (a block in the words), Cells, Placed, LinkedBlocks, Scanning, Entering, EnterAll,
--    MustStand, Skipping, Passing, PassBlock, Beginning. What the table then tells: LinkedLaws,
--    SiteLaws.
-- 4. The playouts once more, each added to its leaf's block in a second list of words: src/gains.rt
--    and recording.rt; specs/Gains.antt (what a block's words gain), Sums.antt (counts, and where
--    playouts stand), and Playouts.antt (what each step answers); proofs/Sums (sums of counts, and
--    their words), Seeing, Gained (what a gain leaves), OwnSums, AddPlayout.
--    Then each block's sums handed up, the last block first: src/handing.rt; proofs/Downward,
--    Stands (where a playout stands when the blocks from a word on have handed up theirs:
--    `stand_next`, and `stand_tells` at the end), Unseen (the cells of a block), HandedUp (a filled
--    board has each cell for one player, so what the parent's block sees is what this one does
--    not), HandedAll, HandingSteps.
-- 5. The points of a closed tree: src/counts.rt, ends.rt and growth.rt; specs/Points.antt;
--    proofs/InBlock, Verifying (what the tests of all sites say of the blocks). Then all texts:
--    proofs/TextLists. A text's tree is audited with an area that ends with its words: `IsCut`
--    and its laws of tree_words (specs/Areas.antt, proofs/Areas/CutAreas), proofs/CutAreas (it
--    fails if the whole tree does) and CutTexts.
-- 6. The laws, in src/laws.rt: that a closed tree's text tells a closed tree, proofs/SameWords,
--    Reading, TracesTold; that bytes have one verdict, OneList (what holds of one list of blocks
--    that the words link holds of another), OneGrown (growth by one list of blocks is growth by
--    another), OneFlaw (a tree fails at one point first), OneVerdict.
-- 7. The archive that writes traces: src/archives.rt and texts.rt; proofs/Gives, Pieces, Parts.

-- Steps of this crate's own proofs.
mod Gives
mod Pieces
mod Parts
mod SameWords
mod Reading
mod FieldLaws
mod WordBytes
mod FromBytes
mod HeldTexts
mod TextForm
mod TextTree
mod TextWords
mod Standing
mod LinkedBlocks
mod Slots
mod Scanning
mod Entering
mod Skipping
mod MustStand
mod Passing
mod Cells
mod Matches
mod EnterAll
mod Beginning
mod PassBlock
mod LinkedLaws
mod Seeing
mod Downward
mod Placed
mod Gained
mod Stands
mod Sums
mod OwnSums
mod Unseen
mod HandedUp
mod HandedAll
mod HandingSteps
mod AddPlayout
mod InBlock
mod SiteLaws
mod Verifying
mod TextLists
mod OneList
mod OneGrown
mod OneFlaw
mod OneVerdict
mod TracesTold
mod CutAreas
mod CutTexts
