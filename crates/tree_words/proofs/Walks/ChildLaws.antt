-- The children of a block, as Choice reads them.
use Rattle.std.proofs.Common.{◌≡◌, ℕ, ◌+◌, List, [], ◌∷◌, length, map, refl, ap}
use Rattle.tree_words.specs.Words.{tally_in, seen_in}
use Rattle.tree_words.specs.Sequence.{child_of, children_in}
use Rattle.tree_words.specs.Descents.{pairs_of}

-- the children as Choice reads them
pub pairs-children : (words : List ℕ) (y : ℕ) (cs : List ℕ)
    → map child_of
    (pairs_of (tally_in words) (seen_in words) y cs) ≡ children_in words y (length cs)
pairs-children words y [] = refl
pairs-children words y (c ∷ cs) = ap (λ l. child_of (tally_in words y, seen_in words y) ∷ l)
    (pairs-children words (y + 4) cs)
