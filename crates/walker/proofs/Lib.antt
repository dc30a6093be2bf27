-- How to read the proof of `walker::Walker::got`: a walker's steps fit.
-- 1. What is claimed: src/machine.rt; specs/Steps.antt (the next step) and Machine.antt (the walker
--    after the answer), both by stages, Ways, Scans, Climbs, NewNodes (what is lent), Measure;
--    Belongs.antt with Looking and Underway (which views belong to a walker).
-- 2. proofs/KnownLaws, AddWay and Fitting: a view that belongs to a walker fits its step.
-- 3. Belongs is kept, by the kind of step: proofs/Going, LeafLaws, Cases, KeepsDown, KeepsHeader
--    (links and headers); ChildLaws, KeepsScan, Keeping, KeepLaws, KeepsChoice, KeepsLast,
--    KeepsChild (the children, and the choice); KeepsBlock, KeepsPublish (a new block); KeepsUp,
--    KeepsAdds (the way up); Keeps has all together.
-- 4. proofs/Endings (Done), Falling (fewer steps), GoingOn (an answer that may be given is one that
--    the code can take).

-- Laws for the layers above.
pub mod KnownLaws
pub mod Fitting
pub mod Going
pub mod LeafLaws
pub mod Keeps
pub mod GoingOn
pub mod Falling
-- Steps of this crate's own proofs.
mod Levels
mod SeenAdds
mod Keeping
mod CellLaws
mod Cases
mod AddWay
mod KeepLaws
mod ChildLaws
mod KeepsDown
mod KeepsHeader
mod KeepsScan
mod KeepsChoice
mod KeepsLast
mod KeepsChild
mod KeepsBlock
mod KeepsPublish
mod KeepsUp
mod KeepsAdds
mod Endings
mod MemberLaws
mod HalfLaws
mod NodeCells
