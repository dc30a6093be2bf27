-- The blocks oldest first.
use Rattle.std.proofs.Common.{◌≡◌, ◌⊎◌, ℕ, ◌<◌, Bool, true, false, cond, List, [], ◌∷◌, ◌++◌}
use Rattle.std.proofs.Common.{length, refl, sym, ap, ◌∙◌, ⊎_elim, inl, inr, arith}
use Rattle.std.specs.Prelude.{◌==◌}
use Rattle.tree_words.specs.Blocks.{LinkedBlock, has_node, is_node, link_of, Follows, InOrder}
use Rattle.tree_words.specs.Trees.{oldest_first}
use Rattle.tree_words.specs.Complete.{HaveNodes}
use Rattle.tree_words.specs.Descents.{Sprouts, Rooted, Names, Inside, Bare}
use Rattle.std.proofs.lemmas.Bool.{eqb-true, cases_Bool, or_right, or_left}
use Rattle.tree_words.proofs.Blocks.BlockLaws.{apart}
use Rattle.tree_words.proofs.Walks.WalkLaws.{out-snoc}

pub inside-snoc : (n : LinkedBlock) (os : List LinkedBlock) (x : ℕ) → Inside (os ++ n ∷ []) x
    → (Inside os x) ⊎ (has_node n x ≡ true)
inside-snoc n [] x i = ⊎_elim (λ (h : has_node n x ≡ true). inr h) (λ (z : ⊥). absurd z) i
inside-snoc n (b ∷ os) x i = ⊎_elim (λ (h : has_node b x ≡ true). inl (inl h))
    (λ (h : Inside (os ++ n ∷ []) x). ⊎_elim (λ (u : Inside os x). inl (inr u)) (λ (u : has_node n x ≡ true). inr u) (inside-snoc n os x h)) i

pub inside-node : (r : ℕ) (bs : List LinkedBlock) (x : ℕ) → Inside (oldest_first bs) x
    → is_node r bs x ≡ true
inside-node r [] x i = absurd i
inside-node r (b ∷ bs) x i
    = ⊎_elim (λ (h : Inside (oldest_first bs) x). or_right (has_node b x) (is_node r bs x) (inside-node r bs x h)) (λ (h : has_node b x
    ≡ true). or_left (has_node b x) (is_node r bs x) h) (inside-snoc b (oldest_first bs) x i)

snoc : (n : LinkedBlock) (os : List LinkedBlock) → Sprouts os
    → ((x : ℕ) → Inside os x → has_node n x ≡ false) → 0 < length n.cells → Sprouts (os ++ n ∷ [])
snoc n [] sp e l = (record { apart = λ x h. tt; some = l }, tt)
snoc n (b ∷ os) sp e l
    = (record { apart = λ x h. out-snoc n os x (sp.0.apart x h) (e x (inl h)); some = sp.0.some }, snoc n os sp.1 (λ x h. e x (inr h)) l)

-- the blocks as the rule has them, the other way round
pub sprouts-turned : (r : ℕ) (bs : List LinkedBlock) → InOrder r bs → HaveNodes bs
    → Sprouts (oldest_first bs)
sprouts-turned r [] g f = tt
sprouts-turned r (b ∷ bs) g f = snoc b (oldest_first bs) (sprouts-turned r bs g.1 f.1)
    (λ x h. apart r b bs x g.0 (inside-node r bs x h)) f.0

-- parents of the blocks are nodes
Parents : ℕ → List LinkedBlock → List LinkedBlock → Type 0
Parents r bs [] = Unit {0}
Parents r bs (b ∷ os) = (is_node r bs b.parent ≡ true) × Parents r bs os

parents-more : (r : ℕ) (n : LinkedBlock) (bs os : List LinkedBlock) → Parents r bs os
    → Parents r (n ∷ bs) os
unfolding Parents
parents-more r n bs [] p = tt
parents-more r n bs (b ∷ os) p
    = (or_right (has_node n b.parent) (is_node r bs b.parent) p.0, parents-more r n bs os p.1)

parents-snoc : (r : ℕ) (n : LinkedBlock) (bs os : List LinkedBlock) → Parents r bs os
    → is_node r bs n.parent ≡ true → Parents r bs (os ++ n ∷ [])
unfolding Parents
parents-snoc r n bs [] p h = (h, tt)
parents-snoc r n bs (b ∷ os) p h = (p.0, parents-snoc r n bs os p.1 h)

parents-turned : (r : ℕ) (bs : List LinkedBlock) → InOrder r bs → Parents r bs (oldest_first bs)
unfolding Parents
parents-turned r [] g = tt
parents-turned r (b ∷ bs) g
    = parents-snoc r b (b ∷ bs) (oldest_first bs)
    (parents-more r b bs (oldest_first bs) (parents-turned r bs g.1))
    (or_right (has_node b b.parent) (is_node r bs b.parent) g.0.parent)

rooted-snoc : (r : ℕ) (n : LinkedBlock) (bs os : List LinkedBlock) → Follows r n bs
    → Parents r bs os → Rooted os → Rooted (os ++ n ∷ [])
unfolding Parents
rooted-snoc r n bs [] f p o = (apart r n bs n.parent f f.parent, tt, tt)
rooted-snoc r n bs (b ∷ os) f p o
    = (o.0, out-snoc n os b.parent o.1 (apart r n bs b.parent f p.0), rooted-snoc r n bs os f p.1 o.2)

pub rooted-turned : (r : ℕ) (bs : List LinkedBlock) → InOrder r bs → Rooted (oldest_first bs)
rooted-turned r [] g = tt
rooted-turned r (b ∷ bs) g = rooted-snoc r b bs (oldest_first bs) g.0 (parents-turned r bs g.1)
    (rooted-turned r bs g.1)

bare-snoc : (n : LinkedBlock) (os : List LinkedBlock) (x : ℕ) → Bare os x → (n.parent == x) ≡ false
    → Bare (os ++ n ∷ []) x
bare-snoc n [] x b h = (h, tt)
bare-snoc n (c ∷ os) x b h = (b.0, bare-snoc n os x b.1 h)

pub link-bare : (r : ℕ) (bs : List LinkedBlock) (x : ℕ) → InOrder r bs → link_of bs x ≡ 0
    → Bare (oldest_first bs) x
link-bare r [] x g e = tt
link-bare r (b ∷ bs) x g e = ⊎_elim
    (λ (t : (b.parent == x) ≡ true). let z : b.start ≡ 0 = sym (ap (λ (u : Bool). cond u b.start (link_of bs x)) t)
    ∙ e in let l = g.0.root in absurd (omega arith))
    (λ (t : (b.parent == x) ≡ false). bare-snoc b (oldest_first bs) x (link-bare r bs x g.1 (sym (ap (λ (u : Bool). cond u b.start (link_of bs x)) t) ∙ e)) t)
    (cases_Bool (b.parent == x))

pub names-snoc : (n : LinkedBlock) (os : List LinkedBlock) (x : ℕ) (b : LinkedBlock) → Names os x b
    → Names (os ++ n ∷ []) x b
names-snoc n [] x b h = absurd h
names-snoc n (c ∷ os) x b h = ⊎_elim (λ (u : (c ≡ b) × (b.parent ≡ x)). inl u)
    (λ (u : ((c.parent == x) ≡ false) × Names os x b). inr (u.0, names-snoc n os x b u.1)) h

names-last : (n : LinkedBlock) (os : List LinkedBlock) (x : ℕ) → Bare os x → n.parent ≡ x
    → Names (os ++ n ∷ []) x n
names-last n [] x b e = inl (refl, e)
names-last n (c ∷ os) x b e = inr (b.0, names-last n os x b.1 e)

-- the link of x names its block
pub link-names : (r : ℕ) (bs : List LinkedBlock) (x : ℕ) → InOrder r bs → 0 < link_of bs x
    → (b : LinkedBlock) × Names (oldest_first bs) x b × (b.start ≡ link_of bs x)
link-names r [] x g l = absurd (omega arith)
link-names r (b ∷ bs) x g l = ⊎_elim
    (λ (t : (b.parent == x) ≡ true).
    let at : b.parent ≡ x = eqb-true b.parent x t in (
      b,
      names-last b (oldest_first bs) x (link-bare r bs x g.1 (ap (link_of bs) (sym at) ∙ g.0.vacant)) at,
      sym (ap (λ (u : Bool). cond u b.start (link_of bs x)) t),
    ))
    (λ (t : (b.parent == x) ≡ false).
    let is : link_of (b ∷ bs) x ≡ link_of bs x
    = ap (λ (u : Bool). cond u b.start (link_of bs x)) t in
    let h : (c : LinkedBlock) × Names (oldest_first bs) x c × (c.start ≡ link_of bs x)
    = link-names r bs x g.1 (omega (arith, is)) in
    (h.0, names-snoc b (oldest_first bs) x h.0 h.1, h.2 ∙ sym is))
    (cases_Bool (b.parent == x))
