-- A split and a join keep Loaded, FirstVisits and LeafBound, and the opening words have them.
use Rattle.std.proofs.Common.{◌≡◌, ℕ, ◌+◌, ◌*◌, ◌≤◌, true, cond, List, [], ◌++◌, Some, None, refl}
use Rattle.std.proofs.Common.{sym, ap, ◌∙◌, subst, arith}
use Rattle.std.specs.Prelude.{◌==◌, count_by, Contains}
use Rattle.std.proofs.lemmas.List.Sums.{sum_by-append}
use Rattle.tree_words.specs.Settings.{Setting, IsSetting}
use Rattle.tree_words.specs.Words.{root_at, leaf_in}
use Rattle.tree_words.specs.Blocks.{LinkedBlock, is_node}
use Rattle.tree_words.specs.Opening.{opening_words}
use Rattle.tree_words.specs.Paths.{is_on}
use Rattle.tree_words.specs.Told.{Knows}
use Rattle.tree_words.proofs.Blocks.Within.{knows-both}
use Rattle.arena_rule.specs.Views.{SeatView, Walked, WordLoad, spent_view}
use Rattle.arena_rule.specs.Lookups.{load_of, recorded_through, walks_through, walks_at, flying}
use Rattle.arena_rule.specs.Fits.{CanSplit}
use Rattle.arena_rule.specs.Afters.{kept_part, given_part, joined}
use Rattle.arena_rule.specs.Bounds.{HasLoaded, AreLoads, FirstVisits, LeafBound}
use Rattle.arena_rule.specs.Rule.{views_split, views_joined}
use Rattle.arena_rule.proofs.Options.{none-some}
use Rattle.arena_rule.proofs.Before.{Before, Other, AreFirst, opening_blocks}
use Rattle.arena_rule.proofs.Totals.{each-split, each-join}
use Rattle.arena_rule.proofs.Within.{shape-of-each}
use Rattle.arena_rule.proofs.SeatsNumbers.{node-second}
use Rattle.tree_words.proofs.Blocks.Within.{node-first}
use Rattle.arena_rule.proofs.Loaded.{through-same}

-- a view without walks
through-empty : (u : SeatView) (x : ℕ) → u.walks ≡ [] → u.adds ≡ None → walks_through u x ≡ 0
through-empty u x w a = λ i. count_by (λ q. is_on u.shape u.known x (leaf_in q.value))
    (w i) + flying (λ leaf. is_on u.shape u.known x leaf) (a i)

at-empty : (u : SeatView) (x : ℕ) → u.walks ≡ [] → u.adds ≡ None → walks_at u x ≡ 0
at-empty u x w a = λ i. count_by (λ q. leaf_in q.value == x) (w i) + flying
    (λ leaf. leaf == x) (a i)

-- a view without loads
nothing-loaded : (words : List ℕ) (u : SeatView) → u.loads ≡ [] → HasLoaded words u
nothing-loaded words u e = record {
  counts = λ w n l. absurd (none w n l);
  less = λ x n k l. absurd (none (x + 2) n l);
  own = λ x n k l. absurd (none (x + 2) n l);
}
  where
    none : (w n : ℕ) → load_of u.loads w ≡ Some n → ⊥
    none w n l = none-some (sym (ap (λ (loads : List WordLoad). load_of loads w) e) ∙ l)

module _ (bs : List LinkedBlock) (words : List ℕ) (views : List SeatView) (id : ℕ) (v : SeatView)
    (b : Before bs words views id v) where
  pub loaded-split : (part : ℕ) → CanSplit v part → AreLoads words views
      → AreLoads words (views_split views id v part)
  unfolding kept_part
  loaded-split part can old =
      let h : HasLoaded words v = old id v b.at in
      each-split (HasLoaded words) views id (kept_part v part) (given_part v part)
      (λ j u _ e. old j u e)
      record { counts = h.counts; less = h.less; own = h.own }
      (nothing-loaded words (given_part v part) refl)

  pub visits-split : (part : ℕ) → CanSplit v part → FirstVisits bs words views
      → FirstVisits bs words (views_split views id v part)
  unfolding kept_part
  visits-split part can old c x y i hx hy z = each-split (λ u. walks_through u x ≤ u.width) views id
      (kept_part v part) (given_part v part) (λ j u _ e. old c x y i hx hy z j u e)
      (omega (arith, through-empty v x can.nothing.walks can.nothing.adds)) (omega arith)

  pub leaf-split : (part : ℕ) → CanSplit v part → LeafBound v.shape bs words views
      → LeafBound v.shape bs words (views_split views id v part)
  unfolding kept_part
  leaf-split part can old room x c n empty =
      each-split (λ u. walks_at u x ≤ u.width * v.shape.knobs.expand) views id (kept_part v part)
      (given_part v part) (λ j u _ e. old room x c n empty j u e)
      (omega (arith, at-empty v x can.nothing.walks can.nothing.adds)) (omega arith)

  pub loaded-join : (other : ℕ) (w : SeatView) → Other views id v other w → AreLoads words views
      → AreLoads words (views_joined views id v other w)
  unfolding joined
  loaded-join other w o old = each-join (HasLoaded words) views id other (joined v w)
      (spent_view v.shape) old (nothing-loaded words (joined v w) refl)
      (nothing-loaded words (spent_view v.shape) refl)

  -- the walks of both go through a node by what both know together
  through-join : (other : ℕ) (w : SeatView) (x : ℕ) → Other views id v other w
      → recorded_through (joined v w) x ≡ recorded_through v x + recorded_through w x
  unfolding joined
  through-join other w x o =
      let s : Setting = v.shape in
      let order = b.state.linked.blocks.order in
      let both : List LinkedBlock = v.known ++ w.known in
      let mine : Knows (root_at s) bs v.known = b.state.known id v b.at in
      let theirs : Knows (root_at s) bs w.known = b.state.known other w o.at in
      let all : Knows (root_at s) bs both = knows-both (root_at s) bs v.known w.known mine theirs in
      let shape : w.shape ≡ s = shape-of-each bs words views id v b other w o.at in
      let left : (q : Walked) → Contains v.walks q
      → is_node (root_at s) v.known (leaf_in q.value) ≡ true
      = (b.state.in_hand id v b.at).leaves in
      let right : (q : Walked) → Contains w.walks q
      → is_node (root_at s) w.known (leaf_in q.value) ≡ true
      = λ q c. subst (λ (t : Setting). is_node (root_at t) w.known (leaf_in q.value) ≡ true) shape
      ((b.state.in_hand other w o.at).leaves q c) in
      omega (
        arith,
        sum_by-append (λ (q : Walked). cond (is_on s both x (leaf_in q.value)) 1 0) v.walks w.walks,
        through-same s bs both v.known x v.walks order all mine
            (λ q c. node-first (root_at s) v.known w.known (leaf_in q.value) (left q c)) left,
        through-same s bs both w.known x w.walks order all theirs
            (λ q c. node-second (root_at s) v.known w.known (leaf_in q.value) (right q c)) right,
        ap (λ (t : Setting). count_by (λ q. is_on t w.known x (leaf_in q.value)) w.walks) shape,
      )

  pub visits-join : (other : ℕ) (w : SeatView) → Other views id v other w
      → FirstVisits bs words views → FirstVisits bs words (views_joined views id v other w)
  unfolding joined
  visits-join other w o old c x y i hx hy z =
      let each = old c x y i hx hy z in
      each-join (λ u. walks_through u x ≤ u.width) views id other (joined v w)
      (spent_view v.shape) each
      (omega (arith, each id v b.at, each other w o.at, through-join other w x o)) (omega arith)

  pub leaf-join : (other : ℕ) (w : SeatView) → Other views id v other w
      → LeafBound v.shape bs words views
      → LeafBound v.shape bs words (views_joined views id v other w)
  unfolding joined
  leaf-join other w o old room x c n empty =
      let each = old room x c n empty in
      let t : ℕ = v.shape.knobs.expand in
      each-join (λ u. walks_at u x ≤ u.width * t) views id other (joined v w)
      (spent_view v.shape) each
      (omega (arith, each id v b.at, each other w o.at, sum_by-append (λ (q : Walked). cond (leaf_in q.value == x) 1 0) v.walks w.walks)) (omega arith)

module _ (s : Setting) (views : List SeatView) (setting : IsSetting s)
    (first : AreFirst s views) where
  pub loaded-first : AreLoads (opening_words s) views
  loaded-first j v e = nothing-loaded (opening_words s) v (first.each j v e).3

  pub visits-first : FirstVisits (opening_blocks s) (opening_words s) views
  visits-first c x y i hx hy z j v e = let f = first.each j v e in
      omega (arith, through-empty v x f.1.walks f.1.adds)

  pub leaf-first : LeafBound s (opening_blocks s) (opening_words s) views
  leaf-first room x c n empty j v e = let f = first.each j v e in
      omega (arith, at-empty v x f.1.walks f.1.adds)
