use Rattle.std.proofs.Common.{sym, inl, inr, arith}
use Rattle.win_cert.proofs.NumberWords.{named_none_by_length, named_none_by_zero, named_value}
use Rattle.win_cert.proofs.NumberWords.{named_zero}
use Rattle.win_cert.proofs.values.read_number.Goals as goal

pub returns-then-word-eq0 : goal.returns-then-word-eq0
returns-then-word-eq0 c = sym (named_none_by_length c.args.word.now (inl c.if-word-eq0.true))

pub returns-then-word-gt-MOST_DIGITS : goal.returns-then-word-gt-MOST_DIGITS
returns-then-word-gt-MOST_DIGITS c =
    sym (named_none_by_length c.args.word.now (inr c.if-word-gt-MOST_DIGITS.true))

pub returns-then-word-eq1 : goal.returns-then-word-eq1
returns-then-word-eq1 c = sym (named_zero c.args.word.now c.if-word-eq48.true c.if-word-eq1.true)

pub returns-then-word-eq48 : goal.returns-then-word-eq48
returns-then-word-eq48 c =
    sym (named_none_by_zero c.args.word.now c.if-word-eq48.true c.if-word-eq1.false)

pub returns : goal.returns
returns c = named_value c.args.word.now c.if-word-eq0.false (omega arith) c.if-word-eq48.false
    c.value_of.result c.value_of.ensures
