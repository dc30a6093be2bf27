-- The entries from `left` on that are marked have those that they name marked.
use Rattle.std.proofs.Common.{◌≡◌, ◌≤◌, ℕ, Bool, length, true}
use Rattle.win_cert.specs.Cutting.{AreInside, HasPremises, IsClosedFrom, is_marked}
use Rattle.win_cert.proofs.marking.mark_premises.Given as goal

abbrev pub invariant-entries : goal.invariant-entries
invariant-entries l = record {
  number : length l.marks.items ≡ length l.entries;
  left : l.left ≤ length l.entries;
  kept : (i : ℕ) → is_marked l.initial.marks.items i ≡ true → is_marked l.marks.items i ≡ true;
  closed : IsClosedFrom l.entries l.marks.items l.left;
  least : (set : ℕ → Bool) → HasPremises l.entries set → AreInside l.initial.marks.items set
      → AreInside l.marks.items set;
}

abbrev pub decreases-entries : goal.decreases-entries
decreases-entries l = l.left
