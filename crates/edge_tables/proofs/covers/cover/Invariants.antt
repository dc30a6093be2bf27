use Rattle.std.proofs.Common.{◌≢◌, vec_len}
use Rattle.edge_tables.specs.Covers.{IsCover}
use Rattle.edge_tables.proofs.covers.cover.Given as goal

abbrev pub invariant-loop-start : goal.invariant-loop-start
invariant-loop-start g l = record {
  cover : IsCover l.carriers l.region l.best.items;
  several : vec_len l.best ≢ 1;
}
