-- A split and a join keep Sums, and the opening words have them.
use Rattle.std.proofs.Common.{◌≡◌, ℕ, ◌+◌, ◌-◌, ◌*◌, ◌<◌, ◌≤◌, Bool, true, false, cond, List}
use Rattle.std.proofs.Common.{Option, None, sym, ap, ◌∙◌, ⊎_elim, arith}
use Rattle.std.specs.Prelude.{◌==◌, ◌&&◌, slice_index, sum_by}
use Rattle.std.proofs.lemmas.List.Sums.{sum_by-append}
use Rattle.tree_words.specs.Settings.{Setting, IsSetting}
use Rattle.tree_words.specs.Words.{root_at, leaf_in}
use Rattle.tree_words.specs.Blocks.{LinkedBlock, size, covers, has_node, is_node, is_header_or_move}
use Rattle.tree_words.specs.Blocks.{header_or_move}
use Rattle.tree_words.specs.Opening.{root_block, opening_words}
use Rattle.tree_words.proofs.Blocks.BlockLaws.{covers_of, has-at, root_node}
use Rattle.tree_words.proofs.Blocks.NodeLaws.{stays-not}
use Rattle.tree_words.proofs.NewBlocks.Openings.{root-fits}
use Rattle.tree_words.proofs.NewBlocks.OpeningTold.{opening-are}
use Rattle.arena_rule.specs.Views.{SeatView, Walked, spent_view}
use Rattle.arena_rule.specs.Adds.{walk_adds, amount_at}
use Rattle.arena_rule.specs.Lookups.{adds_made}
use Rattle.arena_rule.specs.Fits.{CanSplit}
use Rattle.arena_rule.specs.Afters.{kept_part, given_part, joined}
use Rattle.arena_rule.specs.Parts.{Sums, amount_recorded, amount_counted}
use Rattle.arena_rule.specs.Rule.{views_split, views_joined}
use Rattle.arena_rule.proofs.Before.{Before, Other, AreFirst, opening_blocks}
use Rattle.arena_rule.proofs.Totals.{total_none, total_split, total_join}
use Rattle.arena_rule.proofs.SeatsNumbers.{ended-idle}
use Rattle.std.proofs.lemmas.Bool.{and_right, eqb-true, ne_eqb, or_cases, false_from_ne_true}

-- sums that are the same at each word
same-sums : (s : Setting) (bs : List LinkedBlock) (words : List ℕ) (views views' : List SeatView)
    → ((w : ℕ) → sum_by (amount_counted s bs w) views' ≡ sum_by (amount_counted s bs w) views)
    → Sums s bs words views → Sums s bs words views'
same-sums s bs words views views' e old = record {
  tallies = λ x n. old.tallies x n ∙ sym (e (x + 2));
  seen = λ x n ne. old.seen x n ne ∙ sym (e (x + 3));
  root = old.root;
}

module _ (bs : List LinkedBlock) (words : List ℕ) (views : List SeatView) (id : ℕ) (v : SeatView)
    (b : Before bs words views id v) where
  pub sums-split : (part : ℕ) → CanSplit v part
      → Sums v.shape bs words (views_split views id v part)
  unfolding kept_part
  sums-split part can = same-sums v.shape bs words views (views_split views id v part)
      (λ w. omega (arith, total_split (amount_counted v.shape bs w) views id v (kept_part v part) (given_part v part) b.at)) b.state.sums

  pub sums-join : (other : ℕ) (u : SeatView) → Other views id v other u
      → Sums v.shape bs words (views_joined views id v other u)
  unfolding joined
  sums-join other u o =
      let mine : v.ticket ≡ None = ended-idle bs words views id v b id v b.at b.live o.can.left in
      let theirs : u.ticket ≡ None
      = ended-idle bs words views id v b other u o.at o.live o.can.right in
      same-sums v.shape bs words views (views_joined views id v other u)
      (λ w.
      omega (
        arith,
        total_join (amount_counted v.shape bs w) views id other v u (joined v u)
            (spent_view v.shape) o.differ b.at o.at,
        sum_by-append
            (λ (q : Walked). amount_at w (walk_adds v.shape bs q.number (leaf_in q.value))) v.walks u.walks,
        ap (λ (t : Option ℕ). amount_at w (adds_made v.shape bs t v.adds)) mine,
        ap (λ (t : Option ℕ). amount_at w (adds_made v.shape bs t u.adds)) theirs,
      ))
      b.state.sums

-- the tallies and seen words of the opening words are 0
opening-blank : (s : Setting) (x i : ℕ) → IsSetting s
    → is_node (root_at s) (opening_blocks s) x ≡ true → 2 ≤ i → i < 4
    → slice_index (opening_words s) (x + i) ≡ 0
opening-blank s x i h n low high =
    let a = opening-are s h in
    let c : LinkedBlock = root_block s a.empties in
    ⊎_elim
    (λ (t : has_node c x ≡ true).
    let p = has-at c x t in
    let is : x + i - c.start ≡ 4 + 4 * p.0 + i = omega (arith, p.2) in
    a.each (x + i) (omega (arith, p.1, p.2, root-fits s h))
    ∙ blank (x + i == 0) (x + i == root_at s + 1) (covers (x + i) c)
    (is_header_or_move (x + i - c.start)) (c.start + size c) c.start
    (header_or_move c (x + i - c.start))
    (ne_eqb (x + i) 0 (λ e. omega (arith, e)))
    (ne_eqb (x + i) (root_at s + 1) (λ e. omega (arith, e, p.2)))
    (and_right (covers (x + i) c) (is_header_or_move (x + i - c.start)) (ap is_header_or_move is ∙ stays-not p.0 i (omega arith) high)))
    (λ (t : (x == root_at s) ≡ true).
    let e : x ≡ root_at s = eqb-true x (root_at s) t in
    let out : covers (x + i) c ≡ false
    = false_from_ne_true (covers (x + i) c)
    (λ u. let q = covers_of (x + i) c u in omega (arith, q.0, e)) in
    a.each (x + i) (omega (arith, e))
    ∙ blank (x + i == 0) (x + i == root_at s + 1) (covers (x + i) c)
    (is_header_or_move (x + i - c.start)) (c.start + size c) c.start
    (header_or_move c (x + i - c.start))
    (ne_eqb (x + i) 0 (λ q. omega (arith, q)))
    (ne_eqb (x + i) (root_at s + 1) (λ q. omega (arith, q, e)))
    (ap (λ (u : Bool). u && is_header_or_move (x + i - c.start)) out))
    (or_cases (has_node c x) (x == root_at s) n)
  where
    blank : (p q r t : Bool) (k l m : ℕ) → p ≡ false → q ≡ false → (r && t) ≡ false
        → cond p k (cond q l (cond (r && t) m 0)) ≡ 0
    blank p q r t k l m e f g = λ i. cond (e i) k (cond (f i) l (cond (g i) m 0))

pub sums-first : (s : Setting) (views : List SeatView) → IsSetting s → AreFirst s views
    → Sums s (opening_blocks s) (opening_words s) views
sums-first s views setting first =
    let none : (w : ℕ) → sum_by (amount_counted s (opening_blocks s) w) views ≡ 0
    = λ w. total_none (amount_counted s (opening_blocks s) w) views (λ j v e.
    let f = first.each j v e in
    omega (
      arith,
      ap (amount_recorded s (opening_blocks s) w) f.1.walks,
      ap (λ (t : Option ℕ). amount_at w (adds_made s (opening_blocks s) t v.adds)) f.1.ticket,
    )) in
    record {
      tallies = λ x n. opening-blank s x 2 setting n (omega arith) (omega arith)
          ∙ sym (none (x + 2));
      seen = λ x n ne. opening-blank s x 3 setting n (omega arith) (omega arith)
          ∙ sym (none (x + 3));
      root = opening-blank s (root_at s) 3 setting (root_node (root_at s) (opening_blocks s))
          (omega arith) (omega arith);
    }
