-- The walk on the blocks is the walk on the tree; what it adds, from the root down and from the
-- leaf up.

-- Laws for the layers above.
pub mod Down
pub mod Adds
pub mod WalkLaws
pub mod Climbs
pub mod Leaves
pub mod Asking
pub mod Countings
pub mod ChildLaws
pub mod Tallies
-- Steps of this crate's own proofs, in other folders too.
pub mod Expands
-- Steps of this crate's own proofs.
mod Bridges
