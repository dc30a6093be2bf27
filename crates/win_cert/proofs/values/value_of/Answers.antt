use Rattle.std.proofs.Common.{arith, ℕ}
use Rattle.std.proofs.lemmas.Grind.{common_steps}
use Rattle.std.proofs.lemmas.Int.Digits.{digits_more, digits_value_more}
use Rattle.std.proofs.lemmas.Str.Parse.{digit_at}
use Rattle.win_cert.proofs.values.value_of.Goals as goal

pub returns-then-not-is_ascii_digit : goal.returns-then-not-is_ascii_digit
returns-then-not-is_ascii_digit c = λ digits.
    let digit = digit_at c.args.word.now c.loop-b.b-index digits (omega arith) in
    grind (arith, common_steps, digit)

pub loop-b-preserved : goal.loop-b-preserved
loop-b-preserved c =
    let i : ℕ = c.loop-b.b-index in
    let word = c.args.word.now in
    let more = digits_value_more 10 word i (omega arith) in
    record {
      value = grind (arith, common_steps, more);
      bound = grind (arith, common_steps);
      digits = digits_more 10 word i (omega arith) c.loop-b.invariant.digits
          (grind (arith, common_steps));
    }
