-- The root's cells are the allowed ones, those of other nodes the empty ones.
use Rattle.std.proofs.Common.{◌≡◌, List, [], ◌∷◌, refl, ◌∙◌}
use Rattle.hex_board.specs.Positions.{Position}
use Rattle.play_out.specs.Fills.{empties_of}
use Rattle.tree_words.specs.Settings.{Setting}
use Rattle.tree_words.proofs.Blocks.BlockLaws.{clash}
use Rattle.tree_words.specs.Complete.{set_of}
use Rattle.walker.specs.declared.ways.Level.{Level}
use Rattle.walker.specs.Machine.{set_below}
use Rattle.walker.proofs.CellLaws.{empties-number}
use Rattle.walker.proofs.machine.Walker.cells.Goals as goal

-- below the root's block the empty cells
deeper : (way : List Level) (s : Setting) (p : Position) → (way ≡ [] → ⊥)
    → set_of (empties_of p) ≡ set_below way s p
deeper [] s p ne = absurd (ne refl)
deeper (l ∷ way) s p ne = refl

pub returns-else-is_none-clause-value : goal.returns-else-is_none-clause-value
returns-else-is_none-clause-value c =
    empties-number c.empties.result c.args.self.now.board c.empties.ensures
    ∙ deeper c.args.self.now.way c.args.self.now.shape c.args.self.now.board
    (λ e. clash c.is_none.result (c.is_none.ensures.1 e) c.if-is_none.false)
