use Rattle.std.proofs.Common.{sym, ◌∙◌}
use Rattle.std.proofs.lemmas.Bool.{eq-eqb, ne_eqb}
use Rattle.tree_words.specs.Words.{root_at}
use Rattle.trace_audit.proofs.Standing.{cells_root, cells_inner}
use Rattle.trace_audit.proofs.blocks.cells_below.Goals as goal

pub returns-then-parent-root : goal.returns-then-parent-root
returns-then-parent-root c
    = cells_root c.args.shape.now c.args.board.now c.args.parent c.allowed.result c.requires c.allowed.ensures.value
    (eq-eqb c.args.parent (root_at c.args.shape.now) (c.if-parent-root.true ∙ c.root.ensures))

pub returns-else-parent-root : goal.returns-else-parent-root
returns-else-parent-root c
    = cells_inner c.args.shape.now c.args.board.now c.args.parent c.empties.result c.empties.ensures
    (ne_eqb c.args.parent (root_at c.args.shape.now) (λ z. c.if-parent-root.false (z ∙ sym c.root.ensures)))
