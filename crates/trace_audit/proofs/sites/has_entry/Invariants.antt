use Rattle.std.proofs.Common.{◌≡◌, ℕ, ◌<◌, ◌≤◌}
use Rattle.std.specs.Prelude.{slice_index}
use Rattle.trace_audit.proofs.sites.has_entry.Given as goal

abbrev pub invariant-words : goal.invariant-words
invariant-words l = (i : ℕ) → l.from ≤ i → i < l.i → slice_index l.index i ≡ 0
