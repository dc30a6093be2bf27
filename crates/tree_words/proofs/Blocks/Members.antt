-- The nodes of a tree and the blocks that they are in.
use Rattle.std.proofs.Common.{◌≡◌, ◌⊎◌, ℕ, ◌<◌, true, false, List, [], ◌∷◌, ◌++◌, length, refl, sym}
use Rattle.std.proofs.Common.{subst, ⊎_elim, inl, inr}
use Rattle.std.specs.Prelude.{◌==◌}
use Rattle.tree_words.specs.Blocks.{LinkedBlock, has_node, is_node, In}
use Rattle.tree_words.specs.Trees.{oldest_first}
use Rattle.tree_words.specs.Complete.{HaveNodes}
use Rattle.tree_words.specs.Descents.{Names}
use Rattle.std.proofs.lemmas.Bool.{or_cases, eqb-true}

-- a node of the tree is the root or a node of a block
pub node-in : (r : ℕ) (bs : List LinkedBlock) (x : ℕ) → is_node r bs x ≡ true
    → (x ≡ r) ⊎ ((b : LinkedBlock) × In b bs × (has_node b x ≡ true))
node-in r [] x n = inl (eqb-true x r n)
node-in r (b ∷ bs) x n = ⊎_elim
    (λ (h : has_node b x ≡ true). inr (b, inl refl, h))
    (λ (h : is_node r bs x ≡ true). ⊎_elim (λ (e : x ≡ r). inl e) (λ (t : (c : LinkedBlock) × In c bs × (has_node c x ≡ true)). inr (
      t.0,
      inr t.1,
      t.2,
    )) (node-in r bs x h))
    (or_cases (has_node b x) (is_node r bs x) n)

-- a block is one of the blocks, in either order
in-snoc : (b n : LinkedBlock) (os : List LinkedBlock) → In b (os ++ n ∷ []) → (In b os) ⊎ (b ≡ n)
in-snoc b n [] i = ⊎_elim (λ (e : b ≡ n). inr e) (λ (z : ⊥). absurd z) i
in-snoc b n (c ∷ os) i = ⊎_elim (λ (e : b ≡ c). inl (inl e))
    (λ (h : In b (os ++ n ∷ [])). ⊎_elim (λ (u : In b os). inl (inr u)) (λ (u : b ≡ n). inr u) (in-snoc b n os h)) i

pub in-turned : (b : LinkedBlock) (bs : List LinkedBlock) → In b (oldest_first bs) → In b bs
in-turned b [] i = absurd i
in-turned b (c ∷ bs) i = ⊎_elim (λ (h : In b (oldest_first bs)). inr (in-turned b bs h))
    (λ (e : b ≡ c). inl e) (in-snoc b c (oldest_first bs) i)

pub names-in : (os : List LinkedBlock) (x : ℕ) (b : LinkedBlock) → Names os x b
    → (In b os) × (b.parent ≡ x)
names-in [] x b n = absurd n
names-in (c ∷ os) x b n = ⊎_elim
    (λ (e : (c ≡ b) × (b.parent ≡ x)). (inl (sym e.0), e.1))
    (λ (e : ((c.parent == x) ≡ false) × Names os x b). let t = names-in os x b e.1 in (inr t.0, t.1)) n

pub filled-in : (bs : List LinkedBlock) (b : LinkedBlock) → HaveNodes bs → In b bs
    → 0 < length b.cells
filled-in [] b f i = absurd i
filled-in (c ∷ bs) b f i
    = ⊎_elim (λ (e : b ≡ c). subst (λ (d : LinkedBlock). 0 < length d.cells) (sym e) f.0)
    (λ (h : In b bs). filled-in bs b f.1 h) i
