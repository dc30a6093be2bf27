use Rattle.std.proofs.Common.{ℕ, subst, sym, arith}
use Rattle.win_cert.specs.Writable.{IsLineOf}
use Rattle.win_cert.proofs.writing.push_lines.Goals as goal

pub push_line-requires : goal.push_line-requires
push_line-requires c = subst (λ line. (x : ℕ) × IsLineOf x c.args.size line) (sym c.line-item.is)
    (c.requires c.loop-line.line-index c.line-item.result (omega arith))
