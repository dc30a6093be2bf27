-- How much all seats together may owe to a word.
use Rattle.std.proofs.Common.{◌≡◌, ◌≢◌, ℕ, zero, suc, ◌+◌, ◌*◌, ◌/◌, ◌<◌, ◌≤◌, List, [], ◌∷◌}
use Rattle.std.proofs.Common.{refl, sym, ap, ◌∙◌, subst, arith, true}
use Rattle.std.proofs.Math.Nat.{add-mul, mul-div-le}
use Rattle.std.specs.Prelude.{sum_by}
use Rattle.std.proofs.lemmas.List.Sums.{sum_by-cons}
use Rattle.std.proofs.lemmas.Bool.{eqb-true}
use mathlib.Core.Option.{some}
use mathlib.Core.Logic.{dite}
use native.Mathlib.Decide.{ℕ_discrete}
use lib.ListN.{get_elem?}
use Rattle.atomic_table.proofs.Lists.{at_map}
use Rattle.tree_words.specs.Settings.{Setting}
use Rattle.tree_words.specs.Words.{root_at}
use Rattle.tree_words.specs.Sequence.{amount_of}
use Rattle.tree_words.specs.declared.layout.TheConstants.{VISIT}
use Rattle.arena_rule.specs.declared.views.TheConstants.{MOST_OWED_VISITS}
use Rattle.arena_rule.specs.Views.{SeatView, spent_view}
use Rattle.arena_rule.specs.Lookups.{is_known}
use Rattle.arena_rule.specs.Parts.{width_of}
use Rattle.arena_rule.specs.Owing.{Debtor, view_of, views_of, owed_to, owed_in, owed_part}
use Rattle.arena_rule.specs.Owing.{IsSeenWord, OwingRule}
use Rattle.arena_rule.proofs.Debts.{which-add}
use Rattle.arena_rule.proofs.Totals.{total_le}

-- a number is at most each multiple of it but 0
multiple : (w n m : ℕ) → n ≤ m → w ≢ 0 → n ≤ w * m
multiple zero n m l ne = absurd (ne refl)
multiple (suc k) n m l ne = omega (arith, l)

-- a sum of multiples of m is a multiple of the sum
total-widths : (m : ℕ) (seats : List Debtor)
    → sum_by (λ d. width_of (view_of d) * m) seats ≡ sum_by width_of (views_of seats) * m
total-widths m [] = omega arith
total-widths m (d ∷ seats) = omega (
  arith,
  sum_by-cons (λ (e : Debtor). width_of (view_of e) * m) d seats,
  total-widths m seats,
  ap (λ (n : ℕ). n * m) (sum_by-cons width_of (view_of d) (views_of seats)),
  add-mul (width_of (view_of d)) (sum_by width_of (views_of seats)) m,
)

module _ (s : Setting) (words : List ℕ) (seats : List Debtor) (r : OwingRule s words seats)
    (i : ℕ) where
  abbrev most : ℕ
  most = owed_part s + amount_of true

  -- a seat for no worker owes nothing, and any other at most what one worker may
  by-width : (j : ℕ) (d : Debtor) → get_elem? seats j ≡ some d
      → owed_to i d ≤ width_of (view_of d) * most
  by-width j d at = dite (ℕ_discrete (owed_to i d) 0)
      (λ (none : owed_to i d ≡ 0). omega (arith, none))
      (λ (ne : owed_to i d ≢ 0).
      let each = r.rule.state.widths.each j d.view (at_map view_of seats j d at) in
      let few : owed_to i d ≤ most
      = subst (λ (z : Setting). owed_to i d ≤ owed_part z + amount_of true) each.shape ((r.owed j d at).few i) in
      multiple d.view.width (owed_to i d) most few (λ (zero : d.view.width ≡ 0).
      let a = which-add i d.owed (omega (arith, ne)) in
      let h : IsSeenWord d.view a.0.word = (r.owed j d at).seen a.0 a.1 in
      let spent : d.view ≡ spent_view s = each.spent zero in
      let root : h.node ≡ root_at s = eqb-true h.node (root_at s)
      (subst (λ (u : SeatView). is_known u h.node ≡ true) spent h.known) in
      h.below (root ∙ ap (λ (u : SeatView). root_at u.shape) (sym spent))))

  -- so all of them owe it at most 64 visits and one a worker
  pub owed-little : owed_in i seats ≤ MOST_OWED_VISITS * VISIT + s.knobs.workers * amount_of true
  owed-little = omega (
    arith,
    total_le (owed_to i) (λ d. width_of (view_of d) * most) seats by-width,
    total-widths most seats,
    ap (λ (n : ℕ). n * most) r.rule.state.widths.sum,
    split s.knobs.workers (owed_part s) (amount_of true),
    mul-div-le (MOST_OWED_VISITS * VISIT) s.knobs.workers,
  )
    where
      split : (w a b : ℕ) → w * (a + b) ≡ w * a + w * b
      split w a b = omega arith
