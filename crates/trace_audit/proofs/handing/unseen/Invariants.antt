use Rattle.std.proofs.Common.{◌≡◌, length}
use Rattle.trace_audit.specs.Gains.{AreUnseen}
use Rattle.trace_audit.proofs.handing.unseen.Given as goal

abbrev pub invariant-nodes : goal.invariant-nodes
invariant-nodes l = (length l.unseen ≡ 121) × AreUnseen l.words l.sums l.block l.place l.unseen
