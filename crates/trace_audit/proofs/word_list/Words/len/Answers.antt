use Rattle.std.proofs.Common.{length, sym, ap, ◌∙◌}
use Rattle.trace_audit.proofs.FromBytes.{from_long}
use Rattle.trace_audit.proofs.word_list.Words.len.Goals as goal

pub returns : goal.returns
returns c = sym (ap length (sym c.self.view_is) ∙ from_long c.self.inside.len c.self.inside.bytes.now)
