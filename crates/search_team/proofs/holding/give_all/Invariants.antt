-- The slots so far have no sum.
use Rattle.std.proofs.Common.{◌≡◌, ℕ, ◌<◌}
use Rattle.std.specs.Prelude.{slice_index}
use Rattle.tree_rule.specs.Seats.{IsOf}
use Rattle.search_team.specs.Debts.{HoldsDebts}
use Rattle.search_team.proofs.holding.give_all.Given as goal

abbrev pub invariant-slots : goal.invariant-slots
invariant-slots l = record {
  own : IsOf l.tree l.seat;
  view : l.seat.view ≡ l.fn.seat.view;
  debts : HoldsDebts l.tree.shape l.sums l.seat.owed;
  zero : (j : ℕ) → j < l.i → slice_index l.sums.sums j ≡ 0;
}
