-- The numbers of the flaws.
use Rattle.std.specs.Prelude.{ℕ}
use Rattle.trace_audit.specs.declared.types.Flaw.{Flaw}
use Rattle.trace_audit.specs.declared.types.Flaw.TheVariants.{BadForm, Block, Record, Count, End}
use Rattle.trace_audit.specs.declared.types.Flaw.TheVariants.{Growth}

-- the number of a flaw, in the order in which flaws are looked for
abbrev pub flaw_number : Flaw → ℕ
flaw_number BadForm = 1
flaw_number Block = 2
flaw_number Record = 3
flaw_number Count = 4
flaw_number End = 5
flaw_number Growth = 6
