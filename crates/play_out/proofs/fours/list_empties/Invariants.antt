use Rattle.std.proofs.Common.{◌≡◌, ◌*◌, ◌/◌, ◌^◌}
use Rattle.play_out.proofs.Listing.{Listed}
use Rattle.play_out.proofs.fours.list_empties.Given as goal

abbrev pub invariant-loop-k : goal.invariant-loop-k
invariant-loop-k l = record {
  listed : Listed l.initial.rest l.cells l.count (4 * l.k);
  rest : l.rest ≡ l.initial.rest / 2 ^ (4 * l.k);
}
