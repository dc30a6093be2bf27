-- Each step keeps Sums.
use Rattle.std.proofs.Common.{◌≡◌, ℕ, ◌+◌, ◌-◌, ◌*◌, ◌<◌, ◌≤◌, Bool, true, false, cond, List, ◌∷◌}
use Rattle.std.proofs.Common.{length, take, set, Option, Some, None, refl, sym, ap, ◌∙◌, subst}
use Rattle.std.proofs.Common.{⊎_elim, arith, get_or-set_same, get_or-set_other}
use Rattle.std.specs.Prelude.{◌==◌, slice_index, slice_get}
use Rattle.std.proofs.lemmas.List.{take_all}
use Rattle.std.proofs.lemmas.List.Sums.{sum_by-cons}
use mathlib.Core.Option.{some}
use lib.ListN.{get_elem?}
use Rattle.play_out.specs.Fills.{empties_of}
use Rattle.tree_words.specs.Settings.{Setting}
use Rattle.tree_words.specs.Words.{root_at, next_in, ticket_in, leaf_in}
use Rattle.tree_words.specs.Blocks.{LinkedBlock, size, has_node, is_node, InOrder}
use Rattle.tree_words.specs.Paths.{node_state, node_board}
use Rattle.tree_words.specs.Complete.{allowed_cells}
use Rattle.tree_words.specs.Sequence.{outcome_of, amount_of}
use Rattle.tree_words.specs.declared.layout.TheConstants.{TALLY_WORD, SEEN_WORD}
use Rattle.tree_words.specs.declared.steps.Op.{Op}
use Rattle.tree_words.specs.declared.steps.Op.TheVariants.{Draw, Look, Claim, Write, Publish, Add}
use Rattle.tree_words.specs.declared.steps.Op.TheVariants.{Note, Done}
use Rattle.tree_words.proofs.Blocks.BlockLaws.{has-at, clash, root_node}
use Rattle.tree_words.proofs.Blocks.NodeLaws.{stays-not}
use Rattle.arena_rule.specs.Views.{SeatView, HeldBlock, Flight, Walked}
use Rattle.arena_rule.specs.Adds.{CountAdd, walk_adds, amount_at}
use Rattle.arena_rule.specs.Lookups.{adds_made, adds_in, is_held, told_below, empties_at}
use Rattle.arena_rule.specs.Fits.{FitsStep, FitsDraw, FitsPublish, FitsAdd, FitsNote, IsNext}
use Rattle.arena_rule.specs.Afters.{word_of, put, answer_of, after, looked, wrote, published}
use Rattle.arena_rule.specs.Afters.{added_at, noted, with_word, flight_after, node_of_link}
use Rattle.arena_rule.specs.Parts.{Sums, amount_recorded, amount_counted}
use Rattle.arena_rule.specs.Rule.{words_after, views_after}
use Rattle.arena_rule.proofs.Before.{Before, blocks_after}
use Rattle.arena_rule.proofs.Totals.{total_set, each-set}
use Rattle.arena_rule.proofs.Changes.{drew_same, claimed_same}
use Rattle.arena_rule.proofs.Numbers.{leaf-recorded}
use Rattle.arena_rule.proofs.Within.{shape-of-each, known-node, known-adds}
use Rattle.arena_rule.proofs.Frames.{IsNoAdd, in-range, node-range, held-node, publish-word}
use Rattle.arena_rule.proofs.Frames.{count-stays}
use Rattle.arena_rule.proofs.Amounts.{amount-next, adds-before}
use Rattle.arena_rule.proofs.AddLaws.{adds-root}
use Rattle.arena_rule.proofs.SumsLinked.{HasLeaves, sums-linked, blank-word}
use Rattle.std.proofs.lemmas.Bool.{eqb-true, eq-eqb, ne_eqb, cases_Bool}

-- the walk of an Add over the linked blocks: a is its next add, and these are the adds made before
-- and after
pub record NextAdd (bs : List LinkedBlock) (v : SeatView) (k : ℕ) (a : CountAdd) : Type 0 where
  pub leaf : ℕ
  pub made : ℕ
  pub next : slice_get (walk_adds v.shape bs k leaf) made ≡ Some a
  pub before : adds_made v.shape bs (Some k) v.adds ≡ take made (walk_adds v.shape bs k leaf)
  pub later : adds_made v.shape bs (Some k) (Some (flight_after a.word v.adds)) ≡ take (made + 1)
      (walk_adds v.shape bs k leaf)

module _ (bs : List LinkedBlock) (words : List ℕ) (views : List SeatView) (id : ℕ) (v : SeatView)
    (b : Before bs words views id v) where
  pub next-add : (a : CountAdd) (fits : FitsAdd v a) → NextAdd bs v fits.number a
  next-add a fits = by v.adds refl fits.next
    where
      k : ℕ
      k = fits.number

      by : (o : Option Flight) → v.adds ≡ o → IsNext v fits.number o a → NextAdd bs v fits.number a
      by None e n =
          let at : a.word - TALLY_WORD ≡ n.0 = let q = n.1 in omega arith in
          let same : walk_adds v.shape v.known fits.number n.0 ≡ walk_adds v.shape bs fits.number n.0 = known-adds bs words views id v b id v fits.number n.0
          b.at n.2.known in
          record {
            leaf = n.0;
            made = 0;
            next = subst (λ (l : List CountAdd). slice_get l 0 ≡ Some a) same n.3;
            before = ap (adds_made v.shape bs (Some fits.number)) e;
            later = ap (λ (o : Option Flight). adds_made v.shape bs (Some fits.number) (Some (flight_after a.word o))) e
                ∙ ap (λ (x : ℕ). take 1 (walk_adds v.shape bs fits.number x)) at;
          }
      by (Some f) e n =
          let known = ((b.state.in_hand id v b.at).flight fits.number f fits.ticket e).known in
          let same : walk_adds v.shape v.known fits.number f.leaf
          ≡ walk_adds v.shape bs fits.number f.leaf = known-adds bs words views id v b id v fits.number f.leaf b.at known in
          record {
            leaf = f.leaf;
            made = f.made;
            next = subst (λ (l : List CountAdd). slice_get l f.made ≡ Some a) same n;
            before = ap (adds_made v.shape bs (Some fits.number)) e;
            later = ap (λ (o : Option Flight). adds_made v.shape bs (Some fits.number) (Some (flight_after a.word o))) e;
          }

  -- the view and the words have more of the same amounts
  sums-more : (u : SeatView) (words' : List ℕ) (more : ℕ → ℕ)
      → ((w : ℕ) → amount_counted v.shape bs w u ≡ amount_counted v.shape bs w v + more w)
      → ((x i : ℕ) → is_node (root_at v.shape) bs x ≡ true → 2 ≤ i → i < 4 → slice_index words' (x + i) ≡ slice_index words (x + i) + more (x + i))
      → more (root_at v.shape + SEEN_WORD) ≡ 0 → Sums v.shape bs words' (set views id u)
  sums-more u words' more c d r =
      let old : Sums v.shape bs words views = b.state.sums in
      record {
        tallies = λ x n. omega (
          arith,
          d x 2 n (omega arith) (omega arith),
          old.tallies x n,
          total_set (amount_counted v.shape bs (x + 2)) views id v u b.at,
          c (x + 2),
        );
        seen = λ x n ne. omega (
          arith,
          d x 3 n (omega arith) (omega arith),
          old.seen x n ne,
          total_set (amount_counted v.shape bs (x + 3)) views id v u b.at,
          c (x + 3),
        );
        root = omega (arith, d (root_at v.shape) 3 (root_node (root_at v.shape) bs) (omega arith) (omega arith), old.root, r);
      }

  -- if no amount changes, and the step is no Add
  sums-frame : (op : Op) → FitsStep v op → IsNoAdd op
      → ((w : ℕ) → amount_counted v.shape bs w (after v op (answer_of op (slice_index words (word_of op)))) ≡ amount_counted v.shape bs w v)
      → Sums v.shape bs (words_after words op) (views_after words views id v op)
  sums-frame op fits kind c = sums-more (after v op (answer_of op (slice_index words (word_of op))))
      (words_after words op) (λ _. 0) (λ w. omega (arith, c w))
      (λ x i n l h. omega (arith, count-stays bs words views id v b op x i fits kind n l h)) refl

  sums-draw : FitsDraw v
      → Sums v.shape bs (words_after words Draw) (views_after words views id v Draw)
  unfolding with_word
  sums-draw fits =
      let n : ℕ = ticket_in words in
      let none : v.adds ≡ None = ((b.state.in_hand id v b.at).idle fits.ticket).0 in
      sums-frame Draw fits tt
      (λ w. drew_same (λ z. amount_counted v.shape bs w z) v n
      (ap (λ (o : Option Flight). amount_recorded v.shape bs w v.walks + amount_at w (adds_made v.shape bs (Some n) o)) none
      ∙ sym (ap (λ (o : Option ℕ). amount_recorded v.shape bs w v.walks + amount_at w (adds_made v.shape bs o v.adds)) fits.ticket))
      refl)

  sums-note : (k value : ℕ) → FitsNote v k value
      → Sums v.shape bs (words_after words (Note k value))
      (views_after words views id v (Note k value))
  unfolding with_word noted
  sums-note k value fits =
      let q : Walked = record { number = k; value = value } in
      let leaf : ℕ = fits.flight.leaf in
      let hand = b.state.in_hand id v b.at in
      let same : walk_adds v.shape v.known k leaf ≡ walk_adds v.shape bs k leaf
      = known-adds bs words views id v b id v k leaf b.at
      (hand.flight k fits.flight fits.ticket fits.adds).known in
      let is : leaf_in value ≡ leaf = ap leaf_in fits.value
      ∙ leaf-recorded leaf (outcome_of v.shape k (node_state v.shape v.known leaf)).winner in
      let made : adds_made v.shape bs v.ticket v.adds ≡ walk_adds v.shape bs k (leaf_in value)
      = (λ i. adds_made v.shape bs (fits.ticket i) (fits.adds i))
      ∙ take_all fits.flight.made (walk_adds v.shape bs k leaf)
      (omega (arith, fits.all, ap length same))
      ∙ ap (walk_adds v.shape bs k) (sym is) in
      sums-frame (Note k value) fits tt
      (λ w. omega (arith, ap (amount_at w) made, sum_by-cons (λ (p : Walked). amount_at w (walk_adds v.shape bs p.number (leaf_in p.value))) q v.walks))

  -- a word gets more
  word-more : (i j n : ℕ) → j < length words
      → slice_index
      (set words i (slice_index words i + n)) j ≡ slice_index words j + cond (i == j) n 0
  word-more i j n l = ⊎_elim
      (λ (t : (i == j) ≡ true).
      let e : j ≡ i = sym (eqb-true i j t) in
      ap (slice_index (set words i (slice_index words i + n))) e
      ∙ get_or-set_same words i (slice_index words i + n) 0 (omega (arith, e))
      ∙ omega (arith, ap (slice_index words) e, ap (λ (u : Bool). cond u n 0) t))
      (λ (t : (i == j) ≡ false).
      get_or-set_other words i j (slice_index words i + n) 0
      (λ e. clash (i == j) (eq-eqb i j (sym e)) t)
      ∙ omega (arith, ap (λ (u : Bool). cond u n 0) t))
      (cases_Bool (i == j))

  sums-add : (i : ℕ) (won : Bool) → FitsStep v (Add i won)
      → Sums v.shape bs (words_after words (Add i won)) (views_after words views id v (Add i won))
  unfolding with_word added_at
  sums-add i won fits =
      let k : ℕ = fits.number in
      let a : CountAdd = record { word = i; won = won } in
      let n : NextAdd bs v k a = next-add a fits in
      let all : List CountAdd = walk_adds v.shape bs k n.leaf in
      let root : ℕ = root_at v.shape + SEEN_WORD in
      sums-more (after v (Add i won) (slice_index words i)) (words_after words (Add i won))
      (λ w. cond (i == w) (amount_of won) 0)
      (λ w.
      omega (
        arith,
        ap (λ (o : Option ℕ). amount_at w (adds_made v.shape bs o (Some (flight_after i v.adds)))) fits.ticket,
        ap (λ (o : Option ℕ). amount_at w (adds_made v.shape bs o v.adds)) fits.ticket,
        ap (amount_at w) n.before,
        ap (amount_at w) n.later,
        amount-next w n.made all a n.next,
      ))
      (λ x j m _ l. word-more i (x + j) (amount_of won) (omega (arith, b.state.long, (node-range bs words views id v b x j m l).1)))
      (other (i == root) (adds_in root (take n.made all)) (adds_in root all) (adds-before root n.made all a n.next)
      (adds-root v.shape bs b.state.linked.blocks.order k n.leaf))
    where
      other : (t : Bool) (m c : ℕ) → m + cond t 1 0 ≤ c → c ≡ 0 → cond t (amount_of won) 0 ≡ 0
      other true m c l z = absurd (omega (arith, l, z))
      other false m c l z = refl

  -- the leaves of the walks of each view are nodes
  leaves : (j : ℕ) (u : SeatView) → get_elem? views j ≡ some u → HasLeaves v.shape bs u
  leaves j u e = record {
    walks = λ q d. (b.state.tickets.right j u e q d).node;
    flight = λ k f t a.
        known-node bs words views id v b j u f.leaf e
        (subst (λ (s : Setting). is_node (root_at s) u.known f.leaf
        ≡ true) (shape-of-each bs words views id v b j u e) ((b.state.in_hand j u e).flight k f t a).known);
  }

  -- the tallies and seen words of the told block are 0
  told-blank : (l c x i : ℕ) (fits : FitsPublish v l c)
      → has_node (told_below v (node_of_link l) c) x ≡ true → 2 ≤ i → i < 4
      → slice_index (words_after words (Publish l c)) (x + i) ≡ 0
  told-blank l c x i fits h low high =
      let d : LinkedBlock = told_below v fits.node c in
      let at : node_of_link l ≡ fits.node = let q = fits.link in omega (arith, q) in
      let told : told_below v (node_of_link l) c ≡ d = ap (λ (y : ℕ). told_below v y c) at in
      let p = has-at d x (ap (λ (z : LinkedBlock). has_node z x) (sym told) ∙ h) in
      let held = b.state.held id v b.at fits.block fits.held in
      let many : length d.cells ≡ empties_at v fits.node
      = ap (λ (t : Bool). length (cond t (allowed_cells v.shape) (empties_of (node_board v.shape v.known fits.node))))
      (ne_eqb fits.node (root_at v.shape) fits.may.below) in
      let j : ℕ = 4 + 4 * p.0 + i in
      let is : x + i ≡ fits.block.start + j = omega (arith, p.2, fits.start) in
      let inside : j < fits.block.size = omega (arith, p.1, many, fits.may.fits) in
      let mine : is_held v.held (x + i) ≡ true
      = ap (λ (o : Option HeldBlock). is_held o (x + i)) fits.held
      ∙ in-range fits.block.start fits.block.size (x + i) (omega (arith, is))
      (omega (arith, is, inside)) in
      let node = publish-word bs words views id v b l c fits in
      let far : slice_index (words_after words (Publish l c)) (x + i) ≡ slice_index words (x + i)
      = get_or-set_other words l (x + i) (put (Publish l c) (slice_index words l)) 0
      (λ e. held-node bs words views id v b id v node.0 1 b.at node.1 (omega arith) (ap (is_held v.held) (sym node.2 ∙ sym e) ∙ mine)) in
      far ∙ ap (slice_index words) is ∙ held.each j inside
      ∙ ap (λ (ws : List ℕ). slice_index ws j) fits.written
      ∙ blank-word d j (omega (arith, p.1)) (stays-not p.0 i (omega arith) high)

  sums-publish : (t : Bool) (l c : ℕ) → FitsPublish v l c
      → InOrder (root_at v.shape) (cond t (told_below v (node_of_link l) c ∷ bs) bs)
      → Sums v.shape (cond t (told_below v (node_of_link l) c ∷ bs) bs)
      (words_after words (Publish l c)) (views_after words views id v (Publish l c))
  unfolding with_word published
  sums-publish true l c fits o =
      let u : SeatView = after v (Publish l c) (slice_index words l) in
      let mine = leaves id v b.at in
      sums-linked v.shape bs o.1 (told_below v (node_of_link l) c) o.0
      (words_after words (Publish l c)) (views_after words views id v (Publish l c))
      (sums-frame (Publish l c) fits tt (λ w. refl))
      (each-set (HasLeaves v.shape bs) views id u (λ j x _ e. leaves j x e) record { walks = mine.walks; flight = mine.flight })
      (λ x i h low high. told-blank l c x i fits h low high)
  sums-publish false l c fits o = sums-frame (Publish l c) fits tt (λ w. refl)

  pub sums-step : (op : Op) → FitsStep v op → InOrder (root_at v.shape) (blocks_after bs words v op)
      → Sums v.shape (blocks_after bs words v op) (words_after words op)
      (views_after words views id v op)
  unfolding with_word looked wrote
  sums-step Draw fits o = sums-draw fits
  sums-step (Look i) fits o = sums-frame (Look i) fits tt (λ w. refl)
  sums-step (Claim size) fits o
      = sums-frame (Claim size) fits tt
      (λ w. claimed_same (λ z. amount_counted v.shape bs w z) v size (next_in words) refl refl)
  sums-step (Write i value) fits o = sums-frame (Write i value) fits tt (λ w. refl)
  sums-step (Publish l c) fits o = sums-publish (slice_index words l == 0) l c fits o
  sums-step (Add i won) fits o = sums-add i won fits
  sums-step (Note k value) fits o = sums-note k value fits
  sums-step Done fits o = sums-frame Done fits tt (λ w. refl)
