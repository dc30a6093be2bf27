-- Paths go down to the root: each node of one lies below its end.
use Rattle.std.proofs.Common.{◌≡◌, ℕ, ◌+◌, ◌<◌, ◌≤◌, Bool, true, false, cond, List, [], ◌∷◌, refl}
use Rattle.std.proofs.Common.{sym, ap, ◌∙◌, subst, ⊎_elim, arith}
use Rattle.std.specs.List.{list_any}
use Rattle.std.proofs.lemmas.Bool.{cases_Bool, or_from}
use Rattle.tree_words.specs.Blocks.{LinkedBlock, has_node, In, InOrder, up}
use Rattle.tree_words.proofs.Blocks.BlockLaws.{has-at}

-- no node of a path passes a test that no number up to its end passes
pub path_low : (r : ℕ) (bs : List LinkedBlock) (test : ℕ → Bool) (x : ℕ) → InOrder r bs
    → test r ≡ false → ((z : ℕ) → z ≤ x → test z ≡ false)
    → list_any test (up (r ∷ []) (λ b y rest. y ∷ rest) bs x) ≡ false
path_low r [] test x g e h = or_from (test r) false e refl
path_low r (b ∷ bs) test x g e h = ⊎_elim
    (λ (t : has_node b x ≡ true).
    let at = has-at b x t in
    let above = g.0.above in
    ap (λ (u : Bool). list_any test (cond u (x ∷ up (r ∷ []) (λ b y rest. y ∷ rest) bs b.parent) (up (r ∷ []) (λ b y rest. y ∷ rest) bs x))) t
    ∙ or_from (test x) _ (h x (omega arith))
    (path_low r bs test b.parent g.1 e (λ z l. h z (omega (arith, l, above, at.2)))))
    (λ (t : has_node b x ≡ false).
    ap (λ (u : Bool). list_any test (cond u (x ∷ up (r ∷ []) (λ b y rest. y ∷ rest) bs b.parent) (up (r ∷ []) (λ b y rest. y ∷ rest) bs x))) t
    ∙ path_low r bs test x g.1 e h)
    (cases_Bool (has_node b x))

-- a block lies above its parent
pub parent_low : (r : ℕ) (bs : List LinkedBlock) (b : LinkedBlock) → InOrder r bs → In b bs
    → (b.parent < b.start) × (r + 4 ≤ b.start)
parent_low r [] b g i = absurd i
parent_low r (c ∷ bs) b g i = ⊎_elim
    (λ (e : b ≡ c). subst (λ (d : LinkedBlock). (d.parent < d.start) × (r + 4 ≤ d.start)) (sym e) (g.0.above, g.0.root))
    (λ (j : In b bs). parent_low r bs b g.1 j) i
