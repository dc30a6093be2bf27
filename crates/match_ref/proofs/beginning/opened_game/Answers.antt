-- The opening's stone is a legal step on the empty board.
use Rattle.std.proofs.Common.{◌≡◌, ℕ, ◌<◌, ◌*◌, true, Some, sym, ap, subst, ◌∙◌}
use Rattle.hex_cells.specs.declared.colours.Colour.TheVariants.{Black}
use Rattle.hex_game.specs.Games.{GameData, IsOnBoard, board_of, is_legal, new_game}
use Rattle.hex_game.specs.Moves.{step_of}
use Rattle.hex_game.specs.declared.moves.Move.TheVariants.{Stone}
use Rattle.match_ref.specs.declared.settings.Match.{Match}
use Rattle.match_ref.specs.Matches.{IsMatch, opening_of}
use Rattle.match_ref.proofs.Legal.{first_is_legal, first_on_board, opening_on}
use Rattle.match_ref.proofs.ListLaws.{IsOn}
use Rattle.match_ref.proofs.beginning.opened_game.Goals as goal

-- the cell of an opening is on the board
within : (m : Match) (i cell : ℕ) → IsMatch m → opening_of m i ≡ Some cell → cell < m.size * m.size
within m i cell is e = subst (IsOn m.size) e (opening_on m i is)

pub put_stone-requires-clause-on_board : goal.put_stone-requires-clause-on_board
put_stone-requires-clause-on_board c =
    let setup : Match = c.args.setup.now in
    subst (λ (g : GameData). IsOnBoard (board_of g) (Stone c.in-Some.cell))
    (sym (c.in_ok-game.ensures ∙ ap new_game c.empty-bare.ensures.value))
    (first_on_board setup.size c.in-Some.cell
    (within setup c.args.number c.in-Some.cell c.requires (sym c.opening_of.ensures ∙ c.in-Some.is)))

pub put_stone-requires-clause-legal : goal.put_stone-requires-clause-legal
put_stone-requires-clause-legal c =
    let setup : Match = c.args.setup.now in
    subst (λ (g : GameData). is_legal g (step_of Black (Stone c.in-Some.cell)) ≡ true)
    (sym (c.in_ok-game.ensures ∙ ap new_game c.empty-bare.ensures.value))
    (first_is_legal setup.size c.in-Some.cell Black
    (within setup c.args.number c.in-Some.cell c.requires (sym c.opening_of.ensures ∙ c.in-Some.is)))
