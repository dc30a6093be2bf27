-- Empty cells, and the root's children.

-- Laws for the layers above.
pub mod EmptyLaws
pub mod SetNumbers
pub mod RootLaws
-- Steps of this crate's own proofs, in other folders too.
pub mod Bests
