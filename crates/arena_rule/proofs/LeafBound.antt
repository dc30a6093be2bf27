-- Each step keeps LeafBound: a walk begins at a leaf with an empty cell only if it was loaded with
-- visits below T.
use Rattle.std.proofs.Common.{◌≡◌, ◌⊎◌, ℕ, ◌+◌, ◌-◌, ◌*◌, ◌≤◌, ◌<◌, Bool, true, false, cond, List}
use Rattle.std.proofs.Common.{◌∷◌, length, Option, Some, None, refl, sym, ap, ◌∙◌, subst, ⊎_elim}
use Rattle.std.proofs.Common.{arith}
use Rattle.std.specs.Prelude.{◌==◌, slice_index}
use Rattle.std.proofs.lemmas.Bool.{cases_Bool, eqb-true, ne_eqb}
use Rattle.std.proofs.lemmas.List.Sums.{sum_by-cons, sum_by-le-sum_by}
use lib.ListN.{get_elem?}
use mathlib.Core.Option.{some}
use Rattle.hex_board.specs.Positions.{Position, is_empty_at}
use Rattle.play_out.specs.Fills.{empties_of}
use Rattle.tree_words.specs.Settings.{Setting}
use Rattle.tree_words.specs.Words.{root_at, end_of, next_in, visits_in, leaf_in}
use Rattle.tree_words.specs.Blocks.{LinkedBlock, In, InOrder, has_node, is_node, one_if}
use Rattle.tree_words.specs.Paths.{NodeState, is_on, node_state, node_board}
use Rattle.tree_words.specs.Sequence.{outcome_of}
use Rattle.tree_words.specs.declared.layout.TheConstants.{TALLY_WORD}
use Rattle.tree_words.specs.declared.steps.Op.{Op}
use Rattle.tree_words.specs.declared.steps.Op.TheVariants.{Draw, Look, Claim, Write, Publish, Add}
use Rattle.tree_words.specs.declared.steps.Op.TheVariants.{Note, Done}
use Rattle.tree_words.proofs.Blocks.BlockLaws.{clash, has-at}
use Rattle.tree_words.proofs.Blocks.GameLaws.{spot-same}
use Rattle.tree_words.proofs.Blocks.Members.{node-in}
use Rattle.tree_words.proofs.Walks.Asking.{some-empty}
use Rattle.tree_words.proofs.Walks.Tallies.{on-itself}
use Rattle.arena_rule.specs.Views.{SeatView, Flight, Walked}
use Rattle.arena_rule.specs.Adds.{CountAdd}
use Rattle.arena_rule.specs.Lookups.{is_known, load_of, or_zero, tally_loaded, recorded_through}
use Rattle.arena_rule.specs.Lookups.{recorded_at, walks_at, flying, told_below, empties_at}
use Rattle.arena_rule.specs.Fits.{FitsStep, FitsAdd, FitsNote, MayBegin, IsNext}
use Rattle.arena_rule.specs.Afters.{word_of, answer_of, changed, after, looked, wrote, published}
use Rattle.arena_rule.specs.Afters.{added_at, noted, with_word, node_of_link, flight_after}
use Rattle.arena_rule.specs.Bounds.{AreLoads, LeafBound}
use Rattle.arena_rule.specs.Parts.{Each, full_width}
use Rattle.arena_rule.specs.Rule.{words_after, views_after}
use Rattle.arena_rule.proofs.Before.{Before, blocks_after}
use Rattle.arena_rule.proofs.Totals.{each-set, total_at, total_none}
use Rattle.arena_rule.proofs.Changes.{drew_same, claimed_same}
use Rattle.arena_rule.proofs.Numbers.{leaf-recorded}
use Rattle.arena_rule.proofs.Within.{known-node, known-state, shape-of-each}
use Rattle.arena_rule.proofs.SumsLinked.{walks-same}
use Rattle.arena_rule.proofs.Frames.{next-grows}
use Rattle.arena_rule.proofs.FirstVisits.{flight-known}

-- the board of a node stays
board-stays : (bs : List LinkedBlock) (words : List ℕ) (v : SeatView) (op : Op) (x : ℕ)
    → InOrder (root_at v.shape) (blocks_after bs words v op) → is_node (root_at v.shape) bs x ≡ true
    → node_board v.shape (blocks_after bs words v op) x ≡ node_board v.shape bs x
board-stays bs words v Draw x o n = refl
board-stays bs words v (Look w) x o n = refl
board-stays bs words v (Claim size) x o n = refl
board-stays bs words v (Write w value) x o n = refl
board-stays bs words v (Publish l c) x o n = by (slice_index words l == 0) o
  where
    new : LinkedBlock
    new = told_below v (node_of_link l) c

    by : (t : Bool) → InOrder (root_at v.shape) (cond t (new ∷ bs) bs)
        → node_board v.shape (cond t (new ∷ bs) bs) x ≡ node_board v.shape bs x
    by true o = ap (λ (p : NodeState). p.board) (spot-same v.shape new bs x o.0 n)
    by false o = refl
board-stays bs words v (Add w won) x o n = refl
board-stays bs words v (Note k value) x o n = refl
board-stays bs words v Done x o n = refl

module _ (bs : List LinkedBlock) (words : List ℕ) (views : List SeatView) (id : ℕ) (v : SeatView)
    (b : Before bs words views id v) where
  -- no walk has as its leaf what is no node
  at-none : (j : ℕ) (u : SeatView) (x : ℕ) → get_elem? views j ≡ some u
      → is_node (root_at v.shape) bs x ≡ false → walks_at u x ≡ 0
  at-none j u x e out =
      omega (
        arith,
        walks-same (λ w. cond (leaf_in w.value == x) 1 0) (λ w. 0) u.walks
            (λ q c. ap {B = ℕ} (λ (t : Bool). cond t 1 0) (off (leaf_in q.value) ((b.state.in_hand j u e).leaves q c))),
        total_none (λ (w : Walked). 0) u.walks (λ i w _. refl),
        flight u.adds refl,
      )
    where
      off : (leaf : ℕ) → is_known u leaf ≡ true → (leaf == x) ≡ false
      off leaf n = ne_eqb leaf x
          (λ q. clash (is_node (root_at v.shape) bs x) (ap (is_node (root_at v.shape) bs) (sym q)
          ∙ known-node bs words views id v b j u leaf e
          (subst (λ (s : Setting). is_node (root_at s) u.known leaf ≡ true) (shape-of-each bs words views id v b j u e) n)) out)

      flight : (o : Option Flight) → u.adds ≡ o → flying (λ leaf. leaf == x) o ≡ 0
      flight None q = refl
      flight (Some f) q = ap one_if (off f.leaf (flight-known bs words views id v b j u f e q))

  -- the walk that an Add begins has x as its leaf only if fewer than T recorded walks of the view
  -- have
  abbrev BeginsFew : ℕ → Type 0
  BeginsFew x = MayBegin v x → recorded_at v x < v.shape.knobs.expand

  at-add : (a : CountAdd) (x : ℕ) → FitsAdd v a → BeginsFew x
      → walks_at v x ≤ v.width * v.shape.knobs.expand
      → recorded_at v x + one_if
      ((flight_after a.word v.adds).leaf == x) ≤ v.width * v.shape.knobs.expand
  at-add a x fits begin old = by v.adds refl fits.next
    where
      one : v.width ≡ 1
      one = ((b.state.in_hand id v b.at).one fits.number fits.ticket).0

      by : (o : Option Flight) → v.adds ≡ o → IsNext v fits.number o a
          → recorded_at v x + one_if
          ((flight_after a.word o).leaf == x) ≤ v.width * v.shape.knobs.expand
      by None e n =
          let at : a.word - TALLY_WORD ≡ n.0 = let q = n.1 in omega arith in
          ⊎_elim
          (λ (t : (a.word - TALLY_WORD == x) ≡ true).
          let is : n.0 ≡ x = sym at ∙ eqb-true (a.word - TALLY_WORD) x t in
          omega (arith, begin (subst (MayBegin v) is n.2), ap one_if t, ap (λ (w : ℕ). w * v.shape.knobs.expand) one))
          (λ (t : (a.word - TALLY_WORD == x) ≡ false). omega (arith, old, ap one_if t))
          (cases_Bool (a.word - TALLY_WORD == x))
      by (Some f) e n = omega (arith, old, ap (flying (λ leaf. leaf == x)) e)

  at-note : (k value x : ℕ) → FitsNote v k value → walks_at v x ≤ v.width * v.shape.knobs.expand
      → walks_at (noted v k value) x ≤ (noted v k value).width * v.shape.knobs.expand
  unfolding noted
  at-note k value x fits old =
      let leaf : ℕ = fits.flight.leaf in
      let is : leaf_in value ≡ leaf = ap leaf_in fits.value
      ∙ leaf-recorded leaf (outcome_of v.shape k (node_state v.shape v.known leaf)).winner in
      omega (
        arith,
        old,
        sum_by-cons (λ (w : Walked). cond (leaf_in w.value == x) 1 0)
            (record { number = k; value = value }) v.walks,
        ap (λ (y : ℕ). one_if (y == x)) is,
        ap (flying (λ leaf. leaf == x)) fits.adds,
      )

  -- the walks of the view at x after a step
  at-changed : (op : Op) (x : ℕ) → FitsStep v op → BeginsFew x
      → walks_at v x ≤ v.width * v.shape.knobs.expand
      → walks_at (changed v op (answer_of op (slice_index words (word_of op)))) x
      ≤ (changed v op (answer_of op (slice_index words (word_of op)))).width * v.shape.knobs.expand
  unfolding looked wrote published added_at
  at-changed Draw x fits begin old =
      omega (
        arith,
        old,
        drew_same (λ z. walks_at z x) v (slice_index words 1) refl refl,
        drew_same (λ z. z.width * v.shape.knobs.expand) v (slice_index words 1) refl refl,
      )
  at-changed (Look i) x fits begin old = old
  at-changed (Claim size) x fits begin old =
      omega (
        arith,
        old,
        claimed_same (λ z. walks_at z x) v size (slice_index words 0) refl refl,
        claimed_same (λ z. z.width * v.shape.knobs.expand) v size (slice_index words 0) refl refl,
      )
  at-changed (Write i value) x fits begin old = old
  at-changed (Publish l c) x fits begin old = old
  at-changed (Add i won) x fits begin old = at-add (record { word = i; won = won }) x fits begin old
  at-changed (Note k value) x fits begin old = at-note k value x fits old
  at-changed Done x fits begin old = old

  make : (op : Op) (x : ℕ) → FitsStep v op → BeginsFew x
      → Each (λ u. walks_at u x ≤ u.width * v.shape.knobs.expand) views
      → Each (λ u. walks_at u x ≤ u.width * v.shape.knobs.expand) (views_after words views id v op)
  unfolding with_word
  make op x fits begin old = each-set (λ u. walks_at u x ≤ u.width * v.shape.knobs.expand) views id
      (after v op (answer_of op (slice_index words (word_of op))))
      (λ j u _ e. old j u e) (at-changed op x fits begin (old id v b.at))

  -- a walk that has x as its leaf goes through it
  at-through : (x : ℕ) → is_known v x ≡ true → recorded_at v x ≤ recorded_through v x
  at-through x n = sum_by-le-sum_by (λ (w : Walked). cond (leaf_in w.value == x) 1 0)
      (λ (w : Walked). cond (is_on v.shape v.known x (leaf_in w.value)) 1 0) v.walks
      (λ w. by (leaf_in w.value))
    where
      less : (t u : Bool) → (t ≡ true → u ≡ true) → cond t 1 0 ≤ cond u 1 0
      less true true h = omega arith
      less true false h = absurd (clash false (h refl) refl)
      less false true h = omega arith
      less false false h = omega arith

      by : (leaf : ℕ) → cond (leaf == x) 1 0 ≤ cond (is_on v.shape v.known x leaf) 1 0
      by leaf = less (leaf == x) (is_on v.shape v.known x leaf)
          (λ t. ap (is_on v.shape v.known x) (eqb-true leaf x t) ∙ on-itself v.shape v.known x n)

  -- a leaf is chosen, so it was loaded, with as many visits as the view's walks through it at least
  loaded-leaf : AreLoads words views → (x : ℕ) → MayBegin v x
      → recorded_at v x ≤ (tally_loaded v x).visits
  loaded-leaf loads x may = ⊎_elim
      (λ (e : x ≡ root_at v.shape). absurd (may.below e))
      (λ (t : (c : LinkedBlock) × In c v.known × (has_node c x ≡ true)).
      let chosen = may.chosen t.0 x t.1 t.2 (on-itself v.shape v.known x may.known) in
      let p = has-at t.0 x t.2 in
      let load = chosen.tallies p.0 p.1 in
      let e : load_of v.loads (x + TALLY_WORD) ≡ Some load.0
      = ap (λ (w : ℕ). load_of v.loads (w + TALLY_WORD)) (omega (arith, p.2)) ∙ load.1 in
      omega (arith, at-through x may.known, (loads id v b.at).own x load.0 may.known e, ap (λ (o : Option ℕ). visits_in (or_zero o)) e))
      (node-in (root_at v.shape) v.known x may.known)

  begins-few : AreLoads words views → next_in words ≤ end_of v.shape → (x c : ℕ)
      → is_empty_at (node_board v.shape bs x) c ≡ true → BeginsFew x
  begins-few loads room x c empty may = ⊎_elim
      (λ (few : (tally_loaded v x).visits < v.shape.knobs.expand). omega (arith, few, loaded-leaf loads x may))
      (λ (t : (empties_at v x ≡ 0) ⊎ (v.full ≡ true)). ⊎_elim
      (λ (none : empties_at v x ≡ 0).
      let same : node_board v.shape v.known x ≡ node_board v.shape bs x
      = ap (λ (p : NodeState). p.board)
      (known-state bs words views id v b id v x b.at may.known) in
      absurd (omega (arith, none, ap (λ (p : Position). length (empties_of p)) same, some-empty (node_board v.shape bs x) c empty)))
      (λ (full : v.full ≡ true).
      absurd (omega (
        arith,
        room,
        b.live,
        b.state.widths.full (omega (
          arith,
          b.live,
          total_at full_width views id v b.at,
          ap (λ (t : Bool). cond t v.width 0) full,
        )),
      )))
      t)
      may.ends

  pub leaf-step : (op : Op) → FitsStep v op → InOrder (root_at v.shape) (blocks_after bs words v op)
      → AreLoads words views → LeafBound v.shape bs words views
      → LeafBound v.shape (blocks_after bs words v op) (words_after words op)
      (views_after words views id v op)
  leaf-step op fits order loads old room x c n empty =
      let before : next_in words ≤ end_of v.shape
      = omega (arith, room, next-grows bs words views id v b op fits) in
      ⊎_elim
      (λ (m : is_node (root_at v.shape) bs x ≡ true).
      let here : is_empty_at (node_board v.shape bs x) c ≡ true
      = ap (λ (p : Position). is_empty_at p c)
      (sym (board-stays bs words v op x order m)) ∙ empty in
      make op x fits (begins-few loads before x c here) (old before x c m here))
      (λ (out : is_node (root_at v.shape) bs x ≡ false).
      make op x fits
      (λ may. absurd (clash (is_node (root_at v.shape) bs x) (known-node bs words views id v b id v x b.at may.known) out))
      (λ j u e. omega (arith, at-none j u x e out)))
      (cases_Bool (is_node (root_at v.shape) bs x))
