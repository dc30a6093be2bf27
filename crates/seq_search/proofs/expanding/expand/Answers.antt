use Rattle.std.proofs.Common.{◌+◌, ◌*◌, length, ap, sym, ◌∙◌, arith}
use Rattle.std.proofs.Math.ListN.{length-set}
use Rattle.tree_words.specs.Words.{next_in, tally_in}
use Rattle.play_out.specs.Fills.{empties_of}
use Rattle.tree_words.proofs.Walks.Asking.{gets-made, gets-none, gets-past}
use Rattle.seq_search.proofs.LeafBlocks.{grows-none, grows-past, grows-made}
use Rattle.seq_search.proofs.expanding.expand.Goals as goal

pub returns-then-not-asks_for_block-clause-told : goal.returns-then-not-asks_for_block-clause-told
returns-then-not-asks_for_block-clause-told c p e
    = sym (gets-none c.args.shape.now (next_in c.args.words.now) (tally_in c.args.words.now c.args.leaf) p (sym (c.asks_for_block.ensures p e)
    ∙ c.if-not-asks_for_block.true))

pub returns-then-not-asks_for_block-clause-words : goal.returns-then-not-asks_for_block-clause-words
returns-then-not-asks_for_block-clause-words c p e
    = grows-none c.args.shape.now c.args.leaf p c.args.words.now
    (sym (c.asks_for_block.ensures p e) ∙ c.if-not-asks_for_block.true)

pub returns-then-words-past-clause-told : goal.returns-then-words-past-clause-told
returns-then-words-past-clause-told c p e
    = sym (gets-past c.args.shape.now (next_in c.args.words.now) (tally_in c.args.words.now c.args.leaf) p (sym (c.asks_for_block.ensures p e)
    ∙ c.if-not-asks_for_block.false)
    (omega (
      arith,
      c.if-words-past.true,
      c.empty_count.ensures.value,
      ap (λ b. length (empties_of b)) e,
      c.requires.long,
      length-set c.args.words.now 0 (next_in c.args.words.now + 4 + 4 * c.empty_count.result),
    )))

pub returns-then-words-past-clause-words : goal.returns-then-words-past-clause-words
returns-then-words-past-clause-words c p e
    = grows-past c.args.shape.now c.args.leaf
    (next_in c.args.words.now + 4 + 4 * c.empty_count.result) p c.args.words.now
    (sym (c.asks_for_block.ensures p e) ∙ c.if-not-asks_for_block.false)
    (omega (
      arith,
      c.if-words-past.true,
      c.empty_count.ensures.value,
      ap (λ b. length (empties_of b)) e,
      c.requires.long,
      length-set c.args.words.now 0 (next_in c.args.words.now + 4 + 4 * c.empty_count.result),
    ))
    (omega (arith, c.empty_count.ensures.value, ap (λ b. length (empties_of b)) e))
    (omega (arith, c.requires.leaf))

pub returns-clause-told : goal.returns-clause-told
returns-clause-told c p e
    = sym (gets-made c.args.shape.now (next_in c.args.words.now) (tally_in c.args.words.now c.args.leaf) p (sym (c.asks_for_block.ensures p e)
    ∙ c.if-not-asks_for_block.false)
    (omega (
      arith,
      c.if-words-past.false,
      c.empty_count.ensures.value,
      ap (λ b. length (empties_of b)) e,
      c.requires.long,
      length-set c.args.words.now 0 (next_in c.args.words.now + 4 + 4 * c.empty_count.result),
    )))

pub returns-clause-words : goal.returns-clause-words
returns-clause-words c p e
    = grows-made c.args.shape.now c.args.leaf
    (next_in c.args.words.now + 4 + 4 * c.empty_count.result) p c.args.words.now c.link_block.new.words (sym (c.asks_for_block.ensures p e)
    ∙ c.if-not-asks_for_block.false)
    (omega (
      arith,
      c.if-words-past.false,
      c.empty_count.ensures.value,
      ap (λ b. length (empties_of b)) e,
      c.requires.long,
      length-set c.args.words.now 0 (next_in c.args.words.now + 4 + 4 * c.empty_count.result),
    ))
    (omega (arith, c.empty_count.ensures.value, ap (λ b. length (empties_of b)) e))
    (omega (arith, c.requires.leaf)) (omega (arith, c.requires.next)) (c.link_block.ensures p e)
