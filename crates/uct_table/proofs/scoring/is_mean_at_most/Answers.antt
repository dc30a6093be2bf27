use Rattle.std.proofs.Common.{◌+◌, ◌*◌, arith}
use Rattle.std.proofs.lemmas.Nat.{mul-le}
use Rattle.uct_table.proofs.Means.{mean_is_low}
use Rattle.uct_table.proofs.scoring.is_mean_at_most.Goals as goal

pub overflow_mul-result-3 : goal.overflow_mul-result-3
overflow_mul-result-3 c =
    let inner = mul-le (c.args.v + 64) c.args.a 1048640 1048576 (omega (arith, c.requires.visits)) c.requires.seen in
    let whole = mul-le (c.args.floor + 1) ((c.args.v + 64) * c.args.a) 1048576 (1048640 * 1048576) (omega (arith, c.requires.floor)) inner in
    rw (c.from-3.ensures, c.from-seen.ensures) (omega (arith, whole))

pub returns : goal.returns
returns c t = mean_is_low c.args.floor c.args.v c.args.w c.args.a c.args.b (grind (arith, t))
