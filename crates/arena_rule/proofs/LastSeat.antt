-- The last seat, whose workers have all ended: its walks are those of all playouts.
use Rattle.std.proofs.Common.{◌≡◌, ◌≢◌, ℕ, ◌<◌, ◌≤◌, Bool, cond, List, set, None, refl, sym, ap}
use Rattle.std.proofs.Common.{◌∙◌, arith}
use Rattle.std.specs.Prelude.{sum_by}
use Rattle.std.proofs.lemmas.Bool.Decides.{nat_tests}
use mathlib.Core.Option.{some}
use lib.ListN.{get_elem?}
use Rattle.tree_words.specs.Words.{ticket_in, record_in}
use Rattle.tree_words.specs.Blocks.{LinkedBlock, one_if}
use Rattle.tree_words.specs.Counts.{count_below}
use Rattle.arena_rule.specs.Views.{SeatView, HasEnded, spent_view}
use Rattle.arena_rule.specs.Parts.{width_of, ended_of, times_drawn, value_noted, in_hand}
use Rattle.arena_rule.specs.Closed.{HasAllWalks}
use Rattle.arena_rule.proofs.Before.{Before}
use Rattle.arena_rule.proofs.Totals.{total_set, total_two, total_none, each-set}
use Rattle.arena_rule.proofs.Below.{sum_below, below_same}
use Rattle.arena_rule.proofs.Numbers.{value_walked, due}
use Rattle.arena_rule.proofs.ByNumber.{by-number}
use Rattle.arena_rule.proofs.SeatsNumbers.{ended-idle}
use Rattle.arena_rule.proofs.CountSums.{count-sum}

module _ (bs : List LinkedBlock) (words : List ℕ) (views : List SeatView) (id : ℕ) (v : SeatView)
    (b : Before bs words views id v) (all : v.width ≡ v.shape.knobs.workers)
    (ended : HasEnded v) where
  abbrev n : ℕ
  n = v.shape.knobs.playouts

  -- the other views are spent, so that a sum over the views is this view's part
  others : (j : ℕ) (u : SeatView) → j ≢ id → get_elem? views j ≡ some u → u ≡ spent_view v.shape
  others j u ne e
      = (b.state.widths.each j u e).spent
      (omega (arith, total_two width_of views j id u v ne e b.at, b.state.widths.sum, all))

  pub only : (f : SeatView → ℕ) → f (spent_view v.shape) ≡ 0 → sum_by f views ≡ f v
  only f z =
      let none : sum_by f set_spent ≡ 0
      = total_none f set_spent
      (each-set (λ u. f u ≡ 0) views id (spent_view v.shape) (λ j u ne e. ap f (others j u ne e) ∙ z) z) in
      omega (arith, total_set f views id v (spent_view v.shape) b.at, none, z)
    where
      set_spent : List SeatView
      set_spent = set views id (spent_view v.shape)

  -- it has no number in hand, and all numbers are drawn
  pub idle : v.ticket ≡ None
  idle = ended-idle bs words views id v b id v b.at b.live ended

  pub drawn : n ≤ ticket_in words
  drawn = b.state.widths.ended (omega (arith, only ended_of refl, ended, b.live))

  -- the number of each playout stands in the view's walks once
  pub all-walks : HasAllWalks v.shape v
  all-walks k l
      = omega (arith, only (times_drawn k) refl, b.state.tickets.once k, ap (in_hand k) idle, is-due k (ticket_in words) n l drawn)
    where
      is-due : (k t m : ℕ) → k < m → m ≤ t → due k t m ≡ 1
      is-due k t m l h = grind (arith, nat_tests)

  -- and the walk with a number has the value of its record
  pub value : (k : ℕ) → k < n → record_in words k ≡ value_walked k v.walks
  value k l = b.state.tickets.records k l ∙ only (value_noted k) refl

  -- what the view's walks count is what the records count
  pub by-record : (f : ℕ → ℕ → ℕ) → sum_by (λ w. f w.number w.value) v.walks ≡ sum_below n
      (λ k. f k (record_in words k))
  by-record f =
      by-number n f v.walks all-walks (λ w c. ((b.state.in_hand id v b.at).walks w c).1)
      ∙ below_same n (λ k. f k (value_walked k v.walks)) (λ k. f k (record_in words k))
      (λ k l. ap (f k) (sym (value k l)))

  pub count-record : (test : ℕ → Bool)
      → sum_by (λ w. cond (test w.value) 1 0) v.walks ≡ count_below n (λ k. test (record_in words k))
  count-record test = by-record (λ k m. one_if (test m))
      ∙ count-sum n (λ k. test (record_in words k))
