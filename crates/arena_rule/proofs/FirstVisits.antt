-- Each step keeps FirstVisits: a walk begins at a child without visits, as long as its block has
-- one.
use Rattle.std.proofs.Common.{◌≡◌, ◌⊎◌, ℕ, ◌+◌, ◌-◌, ◌≤◌, Bool, true, false, cond, List, ◌∷◌}
use Rattle.std.proofs.Common.{Option, Some, None, refl, sym, ap, ◌∙◌, subst, ⊎_elim, inl, inr}
use Rattle.std.proofs.Common.{arith}
use Rattle.std.specs.Prelude.{◌==◌, slice_index}
use Rattle.std.proofs.lemmas.Bool.{cases_Bool, eqb-true, false_from_ne_true}
use Rattle.std.proofs.lemmas.List.Sums.{sum_by-cons}
use lib.ListN.{get_elem?}
use mathlib.Core.Option.{some}
use Rattle.tree_words.specs.Settings.{Setting}
use Rattle.tree_words.specs.Words.{root_at, tally_in, visits_in, next_in, leaf_in}
use Rattle.tree_words.specs.Blocks.{LinkedBlock, In, InOrder, Follows, has_node, is_node, child}
use Rattle.tree_words.specs.Blocks.{one_if}
use Rattle.tree_words.specs.Paths.{is_on, node_state}
use Rattle.tree_words.specs.Sequence.{outcome_of}
use Rattle.tree_words.specs.Told.{Knows}
use Rattle.tree_words.specs.declared.layout.TheConstants.{TALLY_WORD}
use Rattle.tree_words.specs.declared.steps.Op.{Op}
use Rattle.tree_words.specs.declared.steps.Op.TheVariants.{Draw, Look, Claim, Write, Publish, Add}
use Rattle.tree_words.specs.declared.steps.Op.TheVariants.{Note, Done}
use Rattle.tree_words.proofs.Blocks.BlockLaws.{apart, clash, has-at}
use Rattle.tree_words.proofs.Blocks.GameLaws.{in-node, whole-in}
use Rattle.tree_words.proofs.Blocks.Members.{node-in}
use Rattle.tree_words.proofs.Walks.Countings.{has-one}
use Rattle.tree_words.proofs.Walks.Down.{child-has}
use Rattle.tree_words.proofs.Walks.Leaves.{picks-unvisited}
use Rattle.tree_words.proofs.Walks.Tallies.{path-clear}
use Rattle.arena_rule.specs.Views.{SeatView, Flight, Walked}
use Rattle.arena_rule.specs.Adds.{CountAdd}
use Rattle.arena_rule.specs.Lookups.{is_known, load_of, or_zero, tally_loaded, seen_loaded}
use Rattle.arena_rule.specs.Lookups.{recorded_through, walks_through, flying, told_below}
use Rattle.arena_rule.specs.Fits.{FitsStep, FitsAdd, FitsNote, MayBegin, IsNext}
use Rattle.arena_rule.specs.Afters.{word_of, answer_of, changed, after, looked, wrote, published}
use Rattle.arena_rule.specs.Afters.{added_at, noted, with_word, known_after, node_of_link}
use Rattle.arena_rule.specs.Afters.{flight_after}
use Rattle.arena_rule.specs.Bounds.{AreLoads, HasLoaded, FirstVisits}
use Rattle.arena_rule.specs.Parts.{Each}
use Rattle.arena_rule.specs.Rule.{words_after, views_after}
use Rattle.arena_rule.proofs.Options.{none-some}
use Rattle.arena_rule.proofs.Before.{Before, blocks_after}
use Rattle.arena_rule.proofs.Totals.{each-set, total_none}
use Rattle.arena_rule.proofs.Changes.{drew_same, claimed_same}
use Rattle.arena_rule.proofs.Numbers.{leaf-recorded}
use Rattle.arena_rule.proofs.Within.{known-node, shape-of-each}
use Rattle.tree_words.proofs.Blocks.OneTree.{knows-in}
use Rattle.arena_rule.proofs.KnownMore.{known-more}
use Rattle.arena_rule.proofs.Loaded.{on-linked, through-same, known-behind, visits-grow}

-- a node of the path of a node is a node
pub on-node : (s : Setting) (bs : List LinkedBlock) (x leaf : ℕ) → is_on s bs x leaf ≡ true
    → is_node (root_at s) bs x ≡ true
on-node s bs x leaf on = ⊎_elim
    (λ (n : is_node (root_at s) bs x ≡ true). n)
    (λ (n : is_node (root_at s) bs x ≡ false).
    absurd (clash (is_on s bs x leaf) on (path-clear s (λ (z : ℕ). z == x) bs leaf
    (λ z m. false_from_ne_true (z == x) (λ e. clash (is_node (root_at s) bs x) (ap (is_node (root_at s) bs) (sym (eqb-true z x e)) ∙ m) n)))))
    (cases_Bool (is_node (root_at s) bs x))

-- no walk goes through a node that is not known
pub through-none : (v : SeatView) (x : ℕ) → is_known v x ≡ false → walks_through v x ≡ 0
through-none v x n
    = omega (
      arith,
      total_none (λ (w : Walked). cond (is_on v.shape v.known x (leaf_in w.value)) 1 0) v.walks
          (λ i w _. ap {B = ℕ} (λ (t : Bool). cond t 1 0) (off (leaf_in w.value))),
      flight v.adds,
    )
  where
    off : (leaf : ℕ) → is_on v.shape v.known x leaf ≡ false
    off leaf = false_from_ne_true (is_on v.shape v.known x leaf)
        (λ t. clash (is_known v x) (on-node v.shape v.known x leaf t) n)

    flight : (o : Option Flight) → flying (λ leaf. is_on v.shape v.known x leaf) o ≡ 0
    flight None = refl
    flight (Some f) = ap one_if (off f.leaf)

-- a block after a step is one from before, or follows those
pub blocks-cases : (bs : List LinkedBlock) (words : List ℕ) (v : SeatView) (op : Op)
    (d : LinkedBlock) → InOrder (root_at v.shape) (blocks_after bs words v op)
    → In d (blocks_after bs words v op)
    → In d bs ⊎ Follows (root_at v.shape) d bs
blocks-cases bs words v Draw d o i = inl i
blocks-cases bs words v (Look w) d o i = inl i
blocks-cases bs words v (Claim size) d o i = inl i
blocks-cases bs words v (Write w value) d o i = inl i
blocks-cases bs words v (Publish l c) d o i = by (slice_index words l == 0) o i
  where
    new : LinkedBlock
    new = told_below v (node_of_link l) c

    by : (t : Bool) → InOrder (root_at v.shape) (cond t (new ∷ bs) bs) → In d (cond t (new ∷ bs) bs)
        → In d bs ⊎ Follows (root_at v.shape) d bs
    by true o i = ⊎_elim (λ (e : d ≡ new). inr (subst (λ (z : LinkedBlock). Follows (root_at v.shape) z bs) (sym e) o.0)) (λ (j : In d bs). inl j) i
    by false o i = inl i
blocks-cases bs words v (Add w won) d o i = inl i
blocks-cases bs words v (Note k value) d o i = inl i
blocks-cases bs words v Done d o i = inl i

module _ (bs : List LinkedBlock) (words : List ℕ) (views : List SeatView) (id : ℕ) (v : SeatView)
    (b : Before bs words views id v) where
  -- the leaf of a walk in flight is known
  pub flight-known : (j : ℕ) (u : SeatView) (f : Flight) → get_elem? views j ≡ some u
      → u.adds ≡ Some f → is_known u f.leaf ≡ true
  flight-known j u f at e = by u.ticket refl
    where
      by : (o : Option ℕ) → u.ticket ≡ o → is_known u f.leaf ≡ true
      by None t = absurd (none-some (sym ((b.state.in_hand j u at).idle t).0 ∙ e))
      by (Some k) t = ((b.state.in_hand j u at).flight k f t e).known

  -- as many walks go through a node if more is known
  through-known : (cs ks : List LinkedBlock) (x : ℕ) → InOrder (root_at v.shape) cs
      → Knows (root_at v.shape) cs v.known → Knows (root_at v.shape) cs ks
      → ((y : ℕ) → is_known v y ≡ true → is_node (root_at v.shape) ks y ≡ true)
      → walks_through (record v { known = ks }) x ≡ walks_through v x
  through-known cs ks x order kn ln more =
      omega (
        arith,
        through-same v.shape cs v.known ks x v.walks order kn ln (b.state.in_hand id v b.at).leaves
            (λ q c. more (leaf_in q.value) ((b.state.in_hand id v b.at).leaves q c)),
        by v.adds refl,
      )
    where
      by : (o : Option Flight) → v.adds ≡ o
          → flying (λ leaf. is_on v.shape v.known x leaf) o ≡ flying
          (λ leaf. is_on v.shape ks x leaf) o
      by None e = refl
      by (Some f) e = let n = flight-known id v f b.at e in
          ap one_if (on-linked v.shape cs v.known x f.leaf order kn n ∙ sym (on-linked v.shape cs ks x f.leaf order ln (more f.leaf n)))

  -- the walk that an Add begins goes through x only if no recorded walk of the view does
  abbrev BeginsFirst : ℕ → Type 0
  BeginsFirst x = (leaf : ℕ) → MayBegin v leaf → is_on v.shape v.known x leaf ≡ true
      → recorded_through v x ≡ 0

  -- so the walks of the view through x stay at most its width
  through-add : (a : CountAdd) (x : ℕ) → FitsAdd v a → BeginsFirst x → walks_through v x ≤ v.width
      → recorded_through v x + one_if
      (is_on v.shape v.known x (flight_after a.word v.adds).leaf) ≤ v.width
  through-add a x fits begin old = by v.adds refl fits.next
    where
      by : (o : Option Flight) → v.adds ≡ o → IsNext v fits.number o a
          → recorded_through v x + one_if
          (is_on v.shape v.known x (flight_after a.word o).leaf) ≤ v.width
      by None e n =
          let at : a.word - TALLY_WORD ≡ n.0 = let q = n.1 in omega arith in
          let same : is_on v.shape v.known x (a.word - TALLY_WORD) ≡ is_on v.shape v.known x n.0
          = ap (is_on v.shape v.known x) at in
          ⊎_elim
          (λ (t : is_on v.shape v.known x n.0 ≡ true). omega (arith, begin n.0 n.2 t, ap one_if (same ∙ t), b.live))
          (λ (t : is_on v.shape v.known x n.0 ≡ false). omega (arith, old, ap one_if (same ∙ t)))
          (cases_Bool (is_on v.shape v.known x n.0))
      by (Some f) e n = omega (arith, old, ap (flying (λ leaf. is_on v.shape v.known x leaf)) e)

  through-note : (k value x : ℕ) → FitsNote v k value → walks_through v x ≤ v.width
      → walks_through (noted v k value) x ≤ (noted v k value).width
  unfolding noted
  through-note k value x fits old =
      let leaf : ℕ = fits.flight.leaf in
      let is : leaf_in value ≡ leaf = ap leaf_in fits.value
      ∙ leaf-recorded leaf (outcome_of v.shape k (node_state v.shape v.known leaf)).winner in
      omega (
        arith,
        old,
        sum_by-cons (λ (w : Walked). cond (is_on v.shape v.known x (leaf_in w.value)) 1 0)
            (record { number = k; value = value }) v.walks,
        ap (λ (y : ℕ). one_if (is_on v.shape v.known x y)) is,
        ap (flying (λ leaf. is_on v.shape v.known x leaf)) fits.adds,
      )

  -- the walks of the view through x after a step
  through-changed : (op : Op) (x : ℕ) → FitsStep v op
      → InOrder (root_at v.shape) (blocks_after bs words v op)
      → Knows (root_at v.shape) (blocks_after bs words v op)
      (changed v op (answer_of op (slice_index words (word_of op)))).known
      → BeginsFirst x → walks_through v x ≤ v.width
      → walks_through
      (changed v op (answer_of op (slice_index words (word_of op)))) x ≤ (changed v op (answer_of op (slice_index words (word_of op)))).width
  unfolding looked wrote published added_at
  through-changed Draw x fits order kn begin old
      = omega (arith, old, drew_same (λ z. walks_through z x) v (slice_index words 1) refl refl, drew_same (λ z. z.width) v (slice_index words 1) refl refl)
  through-changed (Look i) x fits order kn begin old =
      omega (
        arith,
        old,
        through-known bs (known_after v (node_of_link i) (slice_index words i)) x order (b.state.known id v b.at) kn
            (λ y n. known-more v (node_of_link i) (slice_index words i) y n),
      )
  through-changed (Claim size) x fits order kn begin old =
      omega (
        arith,
        old,
        claimed_same (λ z. walks_through z x) v size (slice_index words 0) refl refl,
        claimed_same (λ z. z.width) v size (slice_index words 0) refl refl,
      )
  through-changed (Write i value) x fits order kn begin old = old
  through-changed (Publish l c) x fits order kn begin old =
      let y : ℕ = cond (slice_index words l == 0) c (slice_index words l) in
      let cs : List LinkedBlock = blocks_after bs words v (Publish l c) in
      omega (
        arith,
        old,
        through-known cs (known_after v (node_of_link l) y) x order (known-behind v cs (node_of_link l) y kn) kn
            (λ z n. known-more v (node_of_link l) y z n),
      )
  through-changed (Add i won) x fits order kn begin old
      = through-add (record { word = i; won = won }) x fits begin old
  through-changed (Note k value) x fits order kn begin old = through-note k value x fits old
  through-changed Done x fits order kn begin old = old

  make : (op : Op) (x : ℕ) → FitsStep v op → InOrder (root_at v.shape) (blocks_after bs words v op)
      → Knows (root_at v.shape) (blocks_after bs words v op)
      (after v op (answer_of op (slice_index words (word_of op)))).known
      → BeginsFirst x → Each (λ u. walks_through u x ≤ u.width) views
      → Each (λ u. walks_through u x ≤ u.width) (views_after words views id v op)
  unfolding with_word
  make op x fits order kn begin old = each-set (λ u. walks_through u x ≤ u.width) views id
      (after v op (answer_of op (slice_index words (word_of op))))
      (λ j u _ e. old j u e) (through-changed op x fits order kn begin (old id v b.at))

  -- a walk that begins goes through a child without visits if the block has one
  begins-first : (loads : AreLoads words views) (d : LinkedBlock) (x y : ℕ) → In d bs
      → has_node d x ≡ true → has_node d y ≡ true → (tally_in words y).visits ≡ 0 → BeginsFirst x
  begins-first loads d x y i hx hy z leaf may on =
      let r : ℕ = root_at v.shape in
      let order : InOrder r bs = b.state.linked.blocks.order in
      let known : is_known v x ≡ true = on-node v.shape v.known x leaf on in
      ⊎_elim
      (λ (e : x ≡ r).
      let low = (whole-in v.shape (next_in words) bs d order b.state.linked.blocks.complete i).inside.0 in
      let at = has-at d x hx in absurd (omega (arith, e, at.2)))
      (λ (t : (c : LinkedBlock) × In c v.known × (has_node c x ≡ true)).
      let same : d ≡ t.0
      = has-one r bs d t.0 x order i
      (knows-in r bs v.known t.0 (b.state.known id v b.at) t.1) hx t.2 in
      chosen-first loads t.0 x y t.1 t.2
      (ap (λ (c : LinkedBlock). has_node c y) (sym same) ∙ hy) z leaf may on)
      (node-in r v.known x known)
    where
      loaded : (x n : ℕ) → load_of v.loads (x + TALLY_WORD) ≡ Some n
          → (tally_loaded v x).visits ≡ visits_in n
      loaded x n e = ap (λ (o : Option ℕ). visits_in (or_zero o)) e

      chosen-first : (loads : AreLoads words views) (d : LinkedBlock) (x y : ℕ) → In d v.known
          → has_node d x ≡ true → has_node d y ≡ true → (tally_in words y).visits ≡ 0 → BeginsFirst x
      chosen-first loads d x y i hx hy z leaf may on =
          let r : ℕ = root_at v.shape in
          let h : HasLoaded words v = loads id v b.at in
          let c = may.chosen d x i hx on in
          let p = has-at d x hx in
          let q = has-at d y hy in
          let xs : child d p.0 ≡ x = omega (arith, p.2) in
          let ys : child d q.0 ≡ y = omega (arith, q.2) in
          let mine = c.tallies p.0 p.1 in
          let theirs = c.tallies q.0 q.1 in
          let none : (tally_loaded v (child d q.0)).visits ≡ 0
          = omega (
            arith,
            loaded (child d q.0) theirs.0 theirs.1,
            h.less (child d q.0) theirs.0 (in-node r v.known d (child d q.0) i (child-has d q.0 q.1)) theirs.1,
            ap (λ (w : ℕ). (tally_in words w).visits) ys,
            z,
          ) in
          let picked : (tally_loaded v x).visits ≡ 0
          = ap (λ (w : ℕ). (tally_loaded v w).visits) c.choice
          ∙ picks-unvisited v.shape (tally_loaded v) (seen_loaded v) d d.parent q.0 q.1 none in
          let load : load_of v.loads (x + TALLY_WORD) ≡ Some mine.0
          = ap (λ (w : ℕ). load_of v.loads (w + TALLY_WORD)) (sym xs) ∙ mine.1 in
          omega (arith, h.own x mine.0 (in-node r v.known d x i hx) load, loaded x mine.0 load, picked)

  pub visits-step : (op : Op) → FitsStep v op
      → InOrder (root_at v.shape) (blocks_after bs words v op)
      → Knows (root_at v.shape) (blocks_after bs words v op)
      (after v op (answer_of op (slice_index words (word_of op)))).known
      → AreLoads words views → FirstVisits bs words views
      → FirstVisits (blocks_after bs words v op) (words_after words op)
      (views_after words views id v op)
  visits-step op fits order kn loads old d x y i hx hy z =
      let r : ℕ = root_at v.shape in
      ⊎_elim
      (λ (j : In d bs).
      let none : (tally_in words y).visits ≡ 0
      = omega (arith, z, visits-grow bs words views id v b op y fits (in-node r bs d y j hy)) in
      make op x fits order kn (begins-first loads d x y j hx hy none) (old d x y j hx hy none))
      (λ (f : Follows r d bs).
      let out : is_node r bs x ≡ false
      = false_from_ne_true (is_node r bs x) (λ n. clash (has_node d x) hx (apart r d bs x f n)) in
      let off : (j : ℕ) (u : SeatView) → get_elem? views j ≡ some u → is_known u x ≡ false
      = λ j u e. false_from_ne_true (is_known u x) (λ n. clash (is_node r bs x)
      (known-node bs words views id v b j u x e (subst (λ (s : Setting). is_node (root_at s) u.known x
      ≡ true) (shape-of-each bs words views id v b j u e) n)) out) in
      make op x fits order kn
      (λ leaf may on. absurd (clash (is_known v x) (on-node v.shape v.known x leaf on) (off id v b.at)))
      (λ j u e. omega (arith, through-none u x (off j u e))))
      (blocks-cases bs words v op d order i)
