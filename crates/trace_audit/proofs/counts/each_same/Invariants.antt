use Rattle.std.proofs.Common.{ℕ, ◌<◌}
use Rattle.std.specs.Prelude.{slice_index_or}
use Rattle.trace_audit.specs.declared.sites.Site.{Site}
use Rattle.trace_audit.specs.Points.{HasSums}
use Rattle.trace_audit.proofs.counts.each_same.Given as goal

abbrev pub invariant-sites : goal.invariant-sites
invariant-sites l = (k : ℕ) (d : Site) → k < l.i
    → HasSums l.words l.sums (slice_index_or l.table.sites.items k d)
