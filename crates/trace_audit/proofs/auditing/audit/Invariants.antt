use Rattle.std.proofs.Common.{◌*◌, ◌-◌, ◌≤◌, length, drop}
use Rattle.trace_audit.specs.Verdicts.{AreTexts}
use Rattle.trace_audit.proofs.auditing.audit.Given as goal

abbrev pub invariant-texts : goal.invariant-texts
invariant-texts l = (l.at ≤ length l.bytes) × (128 * l.tree ≤ l.at)
    × AreTexts l.tree (drop l.at l.bytes) l.bytes

abbrev pub decreases-texts : goal.decreases-texts
decreases-texts l = length l.bytes - l.at
