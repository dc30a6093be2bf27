use Rattle.std.proofs.Common.{ℕ, arith}
use Rattle.std.proofs.lemmas.Grind.{common_steps}
use Rattle.std.proofs.lemmas.Int.Digits.{digits_value_more}
use Rattle.htp_line.proofs.request.read_number.Goals as goal

pub loop-b-preserved : goal.loop-b-preserved
loop-b-preserved c =
    let i : ℕ = c.loop-b.b-index in
    let word = c.args.word.now in
    let more = digits_value_more 10 word i (omega arith) in
    record {
      value = grind (arith, common_steps, more);
      bound = grind (arith, common_steps);
      digits = grind (arith, common_steps);
    }
