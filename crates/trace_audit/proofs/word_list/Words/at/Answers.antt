use Rattle.std.proofs.Common.{◌<◌, length, sym, ap, ◌∙◌, arith}
use Rattle.std.specs.Prelude.{slice_index}
use Rattle.trace_audit.proofs.FromBytes.{from_long, from_past, from_read}
use Rattle.trace_audit.proofs.word_list.Words.at.Goals as goal

pub overflow_mul-from : goal.overflow_mul-from
overflow_mul-from c
    = omega (arith, c.requires, ap length c.self.view_is, from_long c.self.inside.len c.self.inside.bytes.now, c.self.invariant)

pub word_at-requires : goal.word_at-requires
word_at-requires c = omega (arith, c.requires, c.self.invariant, c.if-bytes-from.false)

pub returns-then-bytes-from : goal.returns-then-bytes-from
returns-then-bytes-from c
    = sym (ap (λ l. slice_index l c.args.at) (sym c.self.view_is) ∙ from_past c.self.inside.len c.args.at
    c.self.inside.bytes.now (omega (arith, c.if-bytes-from.true)))

pub returns : goal.returns
returns c =
    let long : c.args.at < c.self.inside.len
    = omega (arith, c.requires, ap length c.self.view_is, from_long c.self.inside.len c.self.inside.bytes.now) in
    from_read c.self.inside.len c.args.at c.word_at.result c.self.inside.bytes.now long c.word_at.ensures.range
    c.word_at.ensures.bytes ∙ ap (λ l. slice_index l c.args.at) c.self.view_is
