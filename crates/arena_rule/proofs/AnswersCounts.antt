-- What a Look at a tally or a seen word answers, and an Add: at most one add of each walk counts
-- there, and there are at most N walks.
use Rattle.std.proofs.Common.{◌≡◌, ◌≢◌, ℕ, zero, suc, ◌+◌, ◌*◌, ◌<◌, ◌≤◌, Bool, true, cond, List}
use Rattle.std.proofs.Common.{[], ◌∷◌, length, take, Option, Some, None, refl, sym, ap, ◌∙◌, subst}
use Rattle.std.proofs.Common.{⊎_elim, arith}
use Rattle.std.specs.Prelude.{◌==◌, ◌&&◌, slice_index, sum_by}
use Rattle.std.specs.List.{list_any}
use Rattle.std.proofs.lemmas.List.Sums.{sum_by-cons, sum_by-le-sum_by}
use mathlib.Core.Option.{some, some-injective, some-ne-none}
use mathlib.Core.Logic.{dite}
use native.Mathlib.Decide.{ℕ_discrete}
use lib.ListN.{get_elem?}
use Rattle.hex_cells.specs.Sets.{has as has_cell}
use Rattle.hex_board.specs.Positions.{stones_of}
use Rattle.tree_words.specs.Settings.{Setting}
use Rattle.tree_words.specs.Words.{root_at, leaf_in, visits_in, wins_in, tally_in, seen_in}
use Rattle.tree_words.specs.Blocks.{LinkedBlock, has_node, place, cell_at, is_node, In}
use Rattle.tree_words.specs.Paths.{is_on, enters, node_state, mover_of}
use Rattle.tree_words.specs.Sequence.{outcome_of}
use Rattle.tree_words.specs.declared.layout.TheConstants.{TALLY_WORD, SEEN_WORD, VISIT}
use Rattle.tree_words.specs.declared.settings.TheConstants.{MOST_PLAYOUTS}
use Rattle.tree_words.proofs.Blocks.Members.{node-in}
use Rattle.tree_words.proofs.Blocks.Within.{within-up}
use Rattle.arena_rule.specs.Views.{SeatView, Flight}
use Rattle.arena_rule.specs.Adds.{CountAdd, walk_adds, amount_at}
use Rattle.arena_rule.specs.Lookups.{is_known, recorded_through, adds_made, adds_in}
use Rattle.arena_rule.specs.Fits.{FitsAdd}
use Rattle.arena_rule.specs.Answers.{AnswersTally, AnswersSeen, AnswersAdd}
use Rattle.arena_rule.specs.Parts.{amount_counted}
use Rattle.arena_rule.proofs.Before.{Before}
use Rattle.arena_rule.proofs.Totals.{total_at, total_add}
use Rattle.arena_rule.proofs.Numbers.{has_number, holds_ticket, walks_of, few}
use Rattle.arena_rule.proofs.Within.{known-node, known-adds}
use Rattle.arena_rule.proofs.Frames.{add-word}
use Rattle.arena_rule.proofs.Amounts.{wins_added, amount-parts, wins-less, adds-before, adds-take}
use Rattle.arena_rule.proofs.AddLaws.{tally-adds, seen-adds}
use Rattle.arena_rule.proofs.SumsLinked.{walks-same, made-same}
use Rattle.arena_rule.proofs.SumsLaw.{NextAdd, next-add}
use Rattle.std.proofs.lemmas.Bool.{eq-eqb}
use Rattle.arena_rule.proofs.CountSums.{one-most}

module _ {A : Type 0} where
  -- a sum of words that have visits and wins
  sum-parts : (f g h : A → ℕ) (l : List A) → ((x : A) → h x ≡ VISIT * f x + g x)
      → sum_by h l ≡ VISIT * sum_by f l + sum_by g l
  sum-parts f g h [] e = refl
  sum-parts f g h (x ∷ xs) e
      = omega (arith, sum_by-cons f x xs, sum_by-cons g x xs, sum_by-cons h x xs, e x, sum-parts f g h xs e)

  -- a sum of which no summand is more than one
  sum-ones : (f : A → ℕ) (l : List A) → ((x : A) → f x ≤ 1) → sum_by f l ≤ length l
  sum-ones f [] e = omega arith
  sum-ones f (x ∷ xs) e = omega (arith, sum_by-cons f x xs, e x, sum-ones f xs e)

  -- one summand is less
  sum-below : (f g : A → ℕ) (l : List A) (i : ℕ) (v : A) → get_elem? l i ≡ some v
      → ((x : A) → f x ≤ g x) → f v < g v → sum_by f l < sum_by g l
  sum-below f g [] i v e h l = absurd (some-ne-none v (sym e))
  sum-below f g (x ∷ xs) zero v e h l = let q : x ≡ v = some-injective x v e in
      omega (arith, sum_by-cons f x xs, sum_by-cons g x xs, ap f q, ap g q, sum_by-le-sum_by f g xs h)
  sum-below f g (x ∷ xs) (suc i) v e h l
      = omega (arith, sum_by-cons f x xs, sum_by-cons g x xs, h x, sum-below f g xs i v e h l)

module _ (s : Setting) (bs : List LinkedBlock) (w : ℕ) where
  -- how many adds of the view count in the word, and how many of them are wins
  abbrev adds_counted : SeatView → ℕ
  adds_counted u
      = sum_by (λ q. adds_in w (walk_adds s bs q.number (leaf_in q.value))) u.walks + adds_in w
      (adds_made s bs u.ticket u.adds)

  abbrev wins_counted : SeatView → ℕ
  wins_counted u
      = sum_by (λ q. wins_added w (walk_adds s bs q.number (leaf_in q.value))) u.walks + wins_added w
      (adds_made s bs u.ticket u.adds)

  counted-parts : (u : SeatView) → amount_counted s bs w u ≡ VISIT * adds_counted u + wins_counted u
  counted-parts u =
      omega (
        arith,
        sum-parts (λ q. adds_in w (walk_adds s bs q.number (leaf_in q.value)))
            (λ q. wins_added w (walk_adds s bs q.number (leaf_in q.value)))
            (λ q. amount_at w (walk_adds s bs q.number (leaf_in q.value))) u.walks
            (λ q. amount-parts w (walk_adds s bs q.number (leaf_in q.value))),
        amount-parts w (adds_made s bs u.ticket u.adds),
      )

  wins-fewer : (u : SeatView) → wins_counted u ≤ adds_counted u
  wins-fewer u =
      omega (
        arith,
        sum_by-le-sum_by (λ q. wins_added w (walk_adds s bs q.number (leaf_in q.value)))
            (λ q. adds_in w (walk_adds s bs q.number (leaf_in q.value))) u.walks
            (λ q. wins-less w (walk_adds s bs q.number (leaf_in q.value))),
        wins-less w (adds_made s bs u.ticket u.adds),
      )

  -- at most one add of a walk counts in the word
  abbrev IsOnce : Type 0
  IsOnce = (k leaf : ℕ) → adds_in w (walk_adds s bs k leaf) ≤ 1

  made-few : (ticket : Option ℕ) (adds : Option Flight) → IsOnce
      → adds_in w (adds_made s bs ticket adds) ≤ has_number ticket
  made-few None adds h = omega arith
  made-few (Some k) None h = omega arith
  made-few (Some k) (Some f) h
      = omega (arith, adds-take w f.made (walk_adds s bs k f.leaf), h k f.leaf)

  walks-few : (u : SeatView) → IsOnce
      → sum_by (λ q. adds_in w (walk_adds s bs q.number (leaf_in q.value))) u.walks ≤ walks_of u
  walks-few u h = sum-ones (λ q. adds_in w (walk_adds s bs q.number (leaf_in q.value))) u.walks
      (λ q. h q.number (leaf_in q.value))

  -- then it counts no more of a view than the view has walks and numbers
  counted-few : (u : SeatView) → IsOnce → adds_counted u ≤ walks_of u + holds_ticket u
  counted-few u h = omega (arith, walks-few u h, made-few u.ticket u.adds h)

module _ (bs : List LinkedBlock) (words : List ℕ) (views : List SeatView) (id : ℕ) (v : SeatView)
    (b : Before bs words views id v) where
  tally-once : (x : ℕ) → is_node (root_at v.shape) bs x ≡ true → IsOnce v.shape bs (x + TALLY_WORD)
  tally-once x n k leaf
      = omega (arith, tally-adds v.shape bs b.state.linked.blocks.order k leaf x n, one-most (is_on v.shape bs x leaf))

  seen-once : (x : ℕ) → is_node (root_at v.shape) bs x ≡ true → x ≢ root_at v.shape
      → IsOnce v.shape bs (x + SEEN_WORD)
  seen-once x n ne k leaf = ⊎_elim
      (λ (e : x ≡ root_at v.shape). absurd (ne e))
      (λ (t : (c : LinkedBlock) × In c bs × (has_node c x ≡ true)).
      omega (
        arith,
        seen-adds v.shape bs b.state.linked.blocks.order k leaf t.0 x t.1 t.2,
        one-most (enters v.shape bs t.0 leaf && has_cell (stones_of (outcome_of v.shape k (node_state v.shape bs leaf)).full (mover_of v.shape bs x))
            (cell_at t.0 (place t.0 x))),
      ))
      (node-in (root_at v.shape) bs x n)

  -- a word that counts the amounts of all views has their adds as its visits, and their wins as its
  -- wins
  word-parts : (w n : ℕ) → IsOnce v.shape bs w → n ≡ sum_by (amount_counted v.shape bs w) views
      → (visits_in n ≡ sum_by (adds_counted v.shape bs w) views)
      × (visits_in n ≤ v.shape.knobs.playouts) × (wins_in n ≤ v.shape.knobs.playouts)
      × (wins_in n ≤ visits_in n)
  word-parts w n h e =
      let visits : ℕ = sum_by (adds_counted v.shape bs w) views in
      let wins : ℕ = sum_by (wins_counted v.shape bs w) views in
      let parts : n ≡ VISIT * visits + wins = e
      ∙ sum-parts (adds_counted v.shape bs w) (wins_counted v.shape bs w)
      (amount_counted v.shape bs w) views (counted-parts v.shape bs w) in
      let fewer : wins ≤ visits
      = sum_by-le-sum_by (wins_counted v.shape bs w) (adds_counted v.shape bs w) views
      (wins-fewer v.shape bs w) in
      let most : visits ≤ v.shape.knobs.playouts
      = omega (
        arith,
        sum_by-le-sum_by (adds_counted v.shape bs w) (λ u. walks_of u + holds_ticket u) views
            (λ u. counted-few v.shape bs w u h),
        total_add walks_of holds_ticket views,
        few bs words views id v b,
      ) in
      let t = divided n visits wins parts fewer
      (omega (arith, most, b.state.setting.ranges.playouts.1)) in
      (t.0, omega (arith, t.0, most), omega (arith, t.1, fewer, most), omega (arith, t.0, t.1, fewer))
    where
      divided : (n v w : ℕ) → n ≡ VISIT * v + w → w ≤ v → v ≤ MOST_PLAYOUTS
          → (visits_in n ≡ v) × (wins_in n ≡ w)
      divided n v w e l m = (omega (arith, e), omega (arith, e))

  -- what the view itself has counted in a tally
  own-adds : (x : ℕ) → is_known v x ≡ true → recorded_through v x + adds_in (x + TALLY_WORD)
      (adds_made v.shape v.known v.ticket v.adds) ≡ adds_counted v.shape bs (x + TALLY_WORD) v
  own-adds x n =
      let s : Setting = v.shape in
      let order = b.state.linked.blocks.order in
      let hand = b.state.in_hand id v b.at in
      let m : is_node (root_at s) bs x ≡ true = known-node bs words views id v b id v x b.at n in
      let made : adds_made s v.known v.ticket v.adds ≡ adds_made s bs v.ticket v.adds
      = made-same s v.known bs v.ticket v.adds
      (λ k f t a. known-adds bs words views id v b id v k f.leaf b.at (hand.flight k f t a).known) in
      let on : (leaf : ℕ) → is_known v leaf ≡ true → is_on s v.known x leaf ≡ is_on s bs x leaf
      = λ leaf k. ap (list_any (λ (z : ℕ). z == x))
      (within-up (root_at s ∷ []) (λ c y rest. y ∷ rest) (root_at s) bs v.known leaf order (b.state.known id v b.at) k) in
      omega (
        arith,
        ap (adds_in (x + TALLY_WORD)) made,
        walks-same (λ q. cond (is_on s v.known x (leaf_in q.value)) 1 0)
            (λ q. adds_in (x + TALLY_WORD) (walk_adds s bs q.number (leaf_in q.value))) v.walks
            (λ q c. ap {B = ℕ} (λ (t : Bool). cond t 1 0) (on (leaf_in q.value) (hand.leaves q c))
            ∙ sym (tally-adds s bs order q.number (leaf_in q.value) x m)),
      )

  pub answers-tally : (x : ℕ) → is_known v x ≡ true
      → AnswersTally v x (slice_index words (x + TALLY_WORD))
  answers-tally x n =
      let m : is_node (root_at v.shape) bs x ≡ true
      = known-node bs words views id v b id v x b.at n in
      let t = word-parts (x + TALLY_WORD) (slice_index words (x + TALLY_WORD)) (tally-once x m)
      (b.state.sums.tallies x m) in
      record {
        visits = t.1;
        wins = t.2;
        own = omega (arith, own-adds x n, t.0, total_at (adds_counted v.shape bs (x + TALLY_WORD)) views id v b.at);
      }

  pub answers-seen : (x : ℕ) → is_known v x ≡ true
      → AnswersSeen v (slice_index words (x + SEEN_WORD))
  answers-seen x n =
      let m : is_node (root_at v.shape) bs x ≡ true
      = known-node bs words views id v b id v x b.at n in
      dite (ℕ_discrete x (root_at v.shape))
      (λ (e : x ≡ root_at v.shape).
      let none : slice_index words (x + SEEN_WORD) ≡ 0
      = ap (λ (y : ℕ). slice_index words (y + SEEN_WORD)) e ∙ b.state.sums.root in
      record { visits = omega (arith, none); wins = omega (arith, none) })
      (λ (ne : x ≢ root_at v.shape).
      let t = word-parts (x + SEEN_WORD) (slice_index words (x + SEEN_WORD)) (seen-once x m ne)
      (b.state.sums.seen x m ne) in
      record { visits = t.1; wins = t.2 })

  -- the walk of an Add has not counted in its word, so the word's visits are below N
  add-below : (a : CountAdd) → FitsAdd v a → IsOnce v.shape bs a.word
      → slice_index words a.word ≡ sum_by (amount_counted v.shape bs a.word) views
      → AnswersAdd v (slice_index words a.word)
  add-below a fits h e =
      let k : ℕ = fits.number in
      let n : NextAdd bs v k a = next-add bs words views id v b a fits in
      let all : List CountAdd = walk_adds v.shape bs k n.leaf in
      let before : adds_made v.shape bs v.ticket v.adds ≡ take n.made all
      = ap (λ (t : Option ℕ). adds_made v.shape bs t v.adds) fits.ticket ∙ n.before in
      let less : adds_counted v.shape bs a.word v < walks_of v + holds_ticket v
      = omega (
        arith,
        walks-few v.shape bs a.word v h,
        ap (adds_in a.word) before,
        adds-before a.word n.made all a n.next,
        ap {B = ℕ} (λ (t : Bool). cond t 1 0) (eq-eqb a.word a.word refl),
        h k n.leaf,
        ap has_number fits.ticket,
      ) in
      omega (
        arith,
        (word-parts a.word (slice_index words a.word) h e).0,
        sum-below (adds_counted v.shape bs a.word)
            (λ u. walks_of u + holds_ticket u) views id v b.at
            (λ u. counted-few v.shape bs a.word u h) less,
        total_add walks_of holds_ticket views,
        few bs words views id v b,
      )

  pub answers-add : (a : CountAdd) → FitsAdd v a → AnswersAdd v (slice_index words a.word)
  answers-add a fits =
      let t = add-word bs words views id v b a fits in
      ⊎_elim
      (λ (e : a.word ≡ t.0 + 2).
      add-below a fits (subst (IsOnce v.shape bs) (sym e) (tally-once t.0 t.1))
      (ap (slice_index words) e ∙ b.state.sums.tallies t.0 t.1 ∙ ap (λ (w : ℕ). sum_by (amount_counted v.shape bs w) views) (sym e)))
      (λ (e : (a.word ≡ t.0 + 3) × (t.0 ≢ root_at v.shape)).
      add-below a fits (subst (IsOnce v.shape bs) (sym e.0) (seen-once t.0 t.1 e.1))
      (ap (slice_index words) e.0 ∙ b.state.sums.seen t.0 t.1 e.1 ∙ ap (λ (w : ℕ). sum_by (amount_counted v.shape bs w) views) (sym e.0)))
      t.2

  -- the wins of a node of the tree are at most its visits, and its seen wins at most its seen
  -- visits
  pub wins-most : (x : ℕ) → is_node (root_at v.shape) bs x ≡ true
      → ((tally_in words x).wins ≤ (tally_in words x).visits)
      × ((seen_in words x).wins ≤ (seen_in words x).visits)
  wins-most x n =
      let tally = word-parts (x + TALLY_WORD) (slice_index words (x + TALLY_WORD)) (tally-once x n)
      (b.state.sums.tallies x n) in (
        tally.3,
        dite (ℕ_discrete x (root_at v.shape))
            (λ (e : x ≡ root_at v.shape).
            let none : slice_index words (x + SEEN_WORD) ≡ 0
            = ap (λ (y : ℕ). slice_index words (y + SEEN_WORD)) e ∙ b.state.sums.root in
            omega (arith, none))
            (λ (ne : x ≢ root_at v.shape). (word-parts (x + SEEN_WORD) (slice_index words (x + SEEN_WORD)) (seen-once x n ne) (b.state.sums.seen x n ne)).3),
      )
