use Rattle.std.proofs.Common.{◌/◌, ◌+◌, ap, ◌∙◌}
use Rattle.trace_audit.specs.Slots.{entries_from}
use Rattle.trace_audit.proofs.Slots.{entries_none}
use Rattle.trace_audit.proofs.index.Index.empty.Goals as goal

pub returns : goal.returns
returns c = ap (entries_from 0 c.args.len) c.in_ok-slots.ensures
    ∙ entries_none c.args.len (c.args.len / 4 + 1)
