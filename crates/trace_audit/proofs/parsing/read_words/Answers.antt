use Rattle.std.proofs.Common.{◌∙◌, get_or-set_other, arith}
use Rattle.trace_audit.proofs.WordBytes.{more_words, set_words}
use Rattle.trace_audit.proofs.parsing.read_words.Goals as goal

pub words-preserved : goal.words-preserved
words-preserved c = (
  more_words c.args.bytes.now c.words.words c.args.at c.words.i c.word_at.result
      (omega (arith, c.words-test.true, c.requires.room, c.words.auto.words)) c.words.invariant.0 c.word_at.ensures.bytes,
  λ i l. get_or-set_other c.words.words c.words.i i c.word_at.result 0 (λ z. omega (arith, z, l))
      ∙ c.words.invariant.1 i (omega (arith, l)),
  λ a. set_words c.words.words c.words.i c.word_at.result
      (c.words.invariant.2 a) c.word_at.ensures.range,
)
