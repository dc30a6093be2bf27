-- The counts along the way of a walk.
use Rattle.std.proofs.Common.{◌≡◌, ℕ, ◌+◌, ◌≤◌, ◌<◌, ◌^◌, Bool, true, false, cond, List, [], ◌∷◌}
use Rattle.std.proofs.Common.{◌++◌, refl, ap, ◌∙◌, inl, inr, arith}
use Rattle.std.specs.Prelude.{◌==◌, ◌&&◌}
use Rattle.hex_cells.specs.Sets.{has as has_cell}
use Rattle.hex_cells.specs.Colours.{is_same}
use Rattle.hex_board.specs.Positions.{stones_of}
use Rattle.tree_words.specs.Settings.{Setting}
use Rattle.tree_words.specs.Words.{Count, count_in, visits_in, wins_in}
use Rattle.tree_words.specs.Blocks.{LinkedBlock, child, has_node, place, cell_at, In, InOrder}
use Rattle.tree_words.specs.Paths.{NodeState, state_after, mover_at}
use Rattle.tree_words.specs.Walks.{nothing, plus, AtMost}
use Rattle.tree_words.specs.Trees.{oldest_first}
use Rattle.play_out.specs.declared.playouts.Ending.{Ending}
use Rattle.tree_words.specs.Sequence.{one, gain_of, glimpse_of, search_game, amount_of}
use Rattle.tree_words.specs.Descents.{pick, adds_leaf, adds_inner, adds, sees_leaf, sees_inner}
use Rattle.tree_words.specs.Descents.{sees}
use Rattle.std.proofs.lemmas.Bool.{eqb-true, ne_eqb}
use Rattle.tree_words.proofs.Blocks.BlockLaws.{has-covers}
use Rattle.tree_words.proofs.Walks.Down.{down-split}
use Rattle.tree_words.proofs.Blocks.NodeLaws.{covers-one}

-- a count with one more, and the word that has it
pub count-more : (n : ℕ) (t : Bool) → wins_in n + 1 < 2 ^ 32
    → count_in (n + amount_of t) ≡ plus (count_in n) (one t)
count-more n true l = λ i. record { visits = v n l i; wins = w n l i }
  where
    v : (n : ℕ) → wins_in n + 1 < 2 ^ 32 → visits_in (n + (2 ^ 32 + 1)) ≡ visits_in n + 1
    v n l = omega (arith, l)

    w : (n : ℕ) → wins_in n + 1 < 2 ^ 32 → wins_in (n + (2 ^ 32 + 1)) ≡ wins_in n + 1
    w n l = omega (arith, l)
count-more n false l = λ i. record { visits = v n i; wins = w n i }
  where
    v : (n : ℕ) → visits_in (n + (2 ^ 32 + 0)) ≡ visits_in n + 1
    v n = omega arith

    w : (n : ℕ) → wins_in (n + (2 ^ 32 + 0)) ≡ wins_in n + 0
    w n = omega arith

-- an amount that counts if a test passes
pub cond-most : (t : Bool) (n : ℕ) → cond t n 0 ≤ n
cond-most true n = omega arith
cond-most false n = omega arith

-- two tests, one in the other
pub cond-and : (t u : Bool) (n : ℕ) → cond (t && u) n 0 ≡ cond t (cond u n 0) 0
cond-and true u n = refl
cond-and false u n = refl

-- each walk adds at most one to a count
gain-one : (o : Ending) (p : NodeState) → AtMost 1 (gain_of o p)
unfolding gain_of
gain-one o p = one-one (is_same o.winner (mover_at p))
  where
    one-one : (t : Bool) → AtMost 1 (one t)
    one-one true = (omega arith, omega arith)
    one-one false = (omega arith, omega arith)

none-one : AtMost 1 nothing
none-one = (omega arith, omega arith)

at-most-if : (t : Bool) (a b : Count) → AtMost 1 a → AtMost 1 b → AtMost 1 (cond t a b)
at-most-if true a b ha hb = ha
at-most-if false a b ha hb = hb

glimpse-one : (o : Ending) (p : NodeState) (c : ℕ) → AtMost 1 (glimpse_of o p c)
unfolding glimpse_of
glimpse-one o p c = at-most-if (has_cell (stones_of o.full p.player) c)
    (one (is_same o.winner p.player)) nothing (one-one (is_same o.winner p.player)) none-one
  where
    one-one : (t : Bool) → AtMost 1 (one t)
    one-one true = (omega arith, omega arith)
    one-one false = (omega arith, omega arith)

-- each block lies behind its parent
abbrev pub Above : List LinkedBlock → Type 0
Above [] = Unit {0}
Above (b ∷ os) = (b.parent < b.start) × Above os

above-snoc : (n : LinkedBlock) (os : List LinkedBlock) → Above os → n.parent < n.start
    → Above (os ++ n ∷ [])
above-snoc n [] a l = (l, tt)
above-snoc n (b ∷ os) a l = (a.0, above-snoc n os a.1 l)

pub above-turned : (r : ℕ) (bs : List LinkedBlock) → InOrder r bs → Above (oldest_first bs)
above-turned r [] g = tt
above-turned r (b ∷ bs) g = above-snoc b (oldest_first bs) (above-turned r bs g.1) g.0.above

-- two blocks with a node in common are one
pub has-one : (r : ℕ) (bs : List LinkedBlock) (b c : LinkedBlock) (w : ℕ) → InOrder r bs → In b bs
    → In c bs → has_node b w ≡ true → has_node c w ≡ true → b ≡ c
has-one r bs b c w g i j hb hc = covers-one r bs b c (w + 0) g i j
    (has-covers b w 0 hb (omega arith)) (has-covers c w 0 hc (omega arith))

module _ (s : Setting) (p q : ℕ → Count) (o : Ending) where
  pub adds-one : (os : List LinkedBlock) (x : ℕ) (u : NodeState) (w : ℕ)
      → AtMost 1 (adds (search_game s) p q o os x u w)
  adds-one [] x u w = at-most-if (x == w) (gain_of o u) nothing (gain-one o u) none-one
  adds-one (b ∷ os) x u w
      = down-split (adds_leaf (search_game s) p q o) (adds_inner (search_game s) p q o)
      (λ (f : NodeState → ℕ → Count). AtMost 1 (f u w)) b os x
      (λ t. at-most-if (x == w) (gain_of o u) _ (gain-one o u)
      (adds-one os (child b (pick (search_game s) p q b x)) (state_after u (cell_at b (pick (search_game s) p q b x))) w))
      (λ t. adds-one os x u w)

  pub sees-one : (os : List LinkedBlock) (x : ℕ) (u : NodeState) (w : ℕ)
      → AtMost 1 (sees (search_game s) p q o os x u w)
  sees-one [] x u w = none-one
  sees-one (b ∷ os) x u w
      = down-split (sees_leaf (search_game s) p q o) (sees_inner (search_game s) p q o)
      (λ (f : NodeState → ℕ → Count). AtMost 1 (f u w)) b os x
      (λ t. at-most-if (has_node b w) (glimpse_of o u (cell_at b (place b w))) _ (glimpse-one o u (cell_at b (place b w)))
      (sees-one os (child b (pick (search_game s) p q b x)) (state_after u (cell_at b (pick (search_game s) p q b x))) w))
      (λ t. sees-one os x u w)

  -- what lies before x gets nothing from the way below x
  pub adds-before : (os : List LinkedBlock) (x : ℕ) (u : NodeState) (w : ℕ) → Above os → w < x
      → adds (search_game s) p q o os x u w ≡ nothing
  adds-before [] x u w a l = ap (λ (t : Bool). cond t (gain_of o u) nothing)
      (ne_eqb x w (λ e. omega arith))
  adds-before (b ∷ os) x u w a l
      = down-split (adds_leaf (search_game s) p q o) (adds_inner (search_game s) p q o)
      (λ (f : NodeState → ℕ → Count). f u w ≡ nothing) b os x
      (λ t.
      let j : ℕ = pick (search_game s) p q b x in
      let v : NodeState = state_after u (cell_at b j) in
      ap (λ (t : Bool). cond t (gain_of o u) (adds (search_game s) p q o os (child b j) v w))
      (ne_eqb x w (λ e. omega arith))
      ∙ adds-before os (child b j) v w a.1
      (let e = eqb-true b.parent x t in omega (arith, a.0, l, e)))
      (λ t. adds-before os x u w a.1 l)

  -- what is a node of no block whose parent lies behind x sees nothing from the way below x
  pub sees-before : (os : List LinkedBlock) (x : ℕ) (u : NodeState) (w : ℕ) → Above os
      → ((c : LinkedBlock) → In c os → x ≤ c.parent → has_node c w ≡ false)
      → sees (search_game s) p q o os x u w ≡ nothing
  sees-before [] x u w a h = refl
  sees-before (b ∷ os) x u w a h
      = down-split (sees_leaf (search_game s) p q o) (sees_inner (search_game s) p q o)
      (λ (f : NodeState → ℕ → Count). f u w ≡ nothing) b os x
      (λ t.
      let j : ℕ = pick (search_game s) p q b x in
      let v : NodeState = state_after u (cell_at b j) in
      let e : b.parent ≡ x = eqb-true b.parent x t in
      ap (λ (t : Bool). cond t (glimpse_of o u (cell_at b (place b w))) (sees (search_game s) p q o os (child b j) v w)) (h b (inl refl) (omega (arith, e)))
      ∙ sees-before os (child b j) v w a.1 (λ c i l. h c (inr i) (omega (arith, a.0, l, e))))
      (λ t. sees-before os x u w a.1 (λ c i l. h c (inr i) l))
