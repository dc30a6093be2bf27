-- Trees whose area ends earlier: a closed tree is one of a longer area too, and Seq goes the same
-- way while `next` stays inside.

-- Laws for the layers above.
pub mod CutAreas
pub mod FirstWords
pub mod SameSequence
