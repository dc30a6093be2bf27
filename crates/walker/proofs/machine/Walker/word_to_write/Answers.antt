-- The halves of the set of the empty cells.
use Rattle.std.proofs.Common.{◌/◌, ◌%◌, ◌^◌, sym, ap, ◌∙◌}
use Rattle.walker.specs.Machine.{word_of_block, own_block}
use Rattle.walker.proofs.CellLaws.{empties-number}
use Rattle.walker.proofs.machine.Walker.word_to_write.Goals as goal

pub returns-in-1 : goal.returns-in-1
returns-in-1 c =
    ap (λ n. n % 2 ^ 64)
    (c.bits-bits.ensures.value ∙ empties-number c.empties.result c.args.self.now.board c.empties.ensures)
    ∙ sym (ap (word_of_block (own_block c.args.self.now)) (sym c.saturating_sub.ensures ∙ c.in-1.is))

pub returns-in-2 : goal.returns-in-2
returns-in-2 c =
    ap (λ n. n / 2 ^ 64)
    (c.bits-bits.ensures.value ∙ empties-number c.empties.result c.args.self.now.board c.empties.ensures)
    ∙ sym (ap (word_of_block (own_block c.args.self.now)) (sym c.saturating_sub.ensures ∙ c.in-2.is))
