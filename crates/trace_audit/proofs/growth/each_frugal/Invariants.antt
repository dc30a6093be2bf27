use Rattle.std.proofs.Common.{ℕ, ◌<◌}
use Rattle.std.specs.Prelude.{slice_index_or}
use Rattle.trace_audit.specs.declared.sites.Site.{Site}
use Rattle.trace_audit.specs.Points.{AreFrugal}
use Rattle.trace_audit.proofs.growth.each_frugal.Given as goal

abbrev pub invariant-sites : goal.invariant-sites
invariant-sites l = (k : ℕ) (d : Site) → k < l.i
    → AreFrugal l.words l.sums l.most (slice_index_or l.table.sites.items k d)
