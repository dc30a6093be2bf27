use Rattle.std.proofs.Common.{◌<◌, All, length}
use Rattle.hex_plan.proofs.losses.needed_of.Given as goal

abbrev pub invariant-places : goal.invariant-places
invariant-places l = All (λ n. n < length l.store.entries) l.needed.items
