use Rattle.std.proofs.Common.{◌≡◌, Contains}
use Rattle.std.specs.List.{AllWithin}
use Rattle.look_ahead.specs.Looked.{rank_of}
use Rattle.look_ahead.proofs.Ranks.{AreAtMost}
use Rattle.look_ahead.proofs.searches.Look.best_of.Given as goal

abbrev pub invariant-rows : goal.invariant-rows
invariant-rows l = record {
  one : Contains l.rows l.best;
  rank : l.top ≡ rank_of l.best;
  most : AllWithin (AreAtMost l.top) l.rows 0 l.place;
}
