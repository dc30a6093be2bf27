-- The blocks the other way round, and the words of all but the root's.
use Rattle.std.proofs.Common.{◌≡◌, ◌+◌, Bool, cond, List, [], ◌∷◌, ◌++◌, refl, sym, ap, ◌∙◌}
use Rattle.std.specs.Prelude.{◌==◌, not, sum_by}
use Rattle.std.specs.List.{filter}
use Rattle.std.proofs.lemmas.List.Sums.{sum_by-cons}
use Rattle.tree_words.specs.Settings.{Setting}
use Rattle.tree_words.specs.Words.{root_at}
use Rattle.tree_words.specs.Blocks.{LinkedBlock, size}
use Rattle.tree_words.specs.Growth.{other_words}
use Rattle.tree_words.specs.Trees.{oldest_first}
use Rattle.std.proofs.lemmas.Bool.{eq-eqb, ne_eqb}

-- the words of the blocks but the root's
pub other-root : (s : Setting) (b : LinkedBlock) (bs : List LinkedBlock) → b.parent ≡ root_at s
    → other_words s (b ∷ bs) ≡ other_words s bs
other-root s b bs e =
    let rest : List LinkedBlock = filter (λ (c : LinkedBlock). not (c.parent == root_at s)) bs in
    ap (λ (t : Bool). sum_by size (cond (not t) (b ∷ rest) rest)) (eq-eqb b.parent (root_at s) e)

pub other-more : (s : Setting) (b : LinkedBlock) (bs : List LinkedBlock)
    → (b.parent ≡ root_at s → ⊥) → other_words s (b ∷ bs) ≡ size b + other_words s bs
other-more s b bs e =
    let rest : List LinkedBlock = filter (λ (c : LinkedBlock). not (c.parent == root_at s)) bs in
    ap (λ (t : Bool). sum_by size (cond (not t) (b ∷ rest) rest)) (ne_eqb b.parent (root_at s) e)
    ∙ sum_by-cons size b rest

-- the blocks the other way round, twice, are the blocks
turned-snoc : (os : List LinkedBlock) (b : LinkedBlock)
    → oldest_first (os ++ b ∷ []) ≡ b ∷ oldest_first os
turned-snoc [] b = refl
turned-snoc (c ∷ os) b = ap (λ (l : List LinkedBlock). l ++ c ∷ []) (turned-snoc os b)

turned-twice : (bs : List LinkedBlock) → oldest_first (oldest_first bs) ≡ bs
turned-twice [] = refl
turned-twice (b ∷ bs) = turned-snoc (oldest_first bs) b
    ∙ ap (λ (l : List LinkedBlock). b ∷ l) (turned-twice bs)

pub turned-same : (bs cs : List LinkedBlock) → oldest_first bs ≡ oldest_first cs → bs ≡ cs
turned-same bs cs e = sym (turned-twice bs) ∙ ap oldest_first e ∙ turned-twice cs
