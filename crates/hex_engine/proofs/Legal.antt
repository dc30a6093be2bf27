-- The cell of a good turn that is next makes a legal move.
use Rattle.std.proofs.Common.{◌≡◌, true, false, ap, sym, ◌∙◌, subst}
use Rattle.std.specs.Prelude.{not, ◌&&◌}
use Rattle.std.proofs.lemmas.Bool.{and_parts, eqb-true}
use Rattle.hex_cells.specs.declared.colours.Colour.{Colour}
use Rattle.hex_board.specs.Positions.{Position, is_empty_at}
use Rattle.hex_game.specs.Moves.{step_of}
use Rattle.hex_game.specs.Games.{board_of, is_legal, is_over}
use Rattle.hex_game.specs.declared.moves.Move.TheVariants.{Stone}
use Rattle.hex_game.proofs.Over.{not_over}
use Rattle.hex_plan.specs.Good.{IsGood}
use Rattle.hex_plan.specs.Turns.{TurnData}
use Rattle.hex_engine.specs.EngineState.{EngineState}
use Rattle.hex_engine.specs.MoveReplies.{is_board, is_next}

pub same_board : (x z : Position) → is_board x z ≡ true → x ≡ z
same_board x z h =
    let p = and_parts _ _ h in
    let q = and_parts _ _ p.1 in
    λ i. record { size = eqb-true x.size z.size p.0 i; black = eqb-true x.black z.black q.0 i; white = eqb-true x.white z.white q.1 i }

-- its board is the game's
pub next_board : (at : EngineState) (colour : Colour) (turn : TurnData)
    → is_next at colour turn ≡ true → turn.board ≡ board_of at.game
next_board at colour turn next = same_board turn.board (board_of at.game) (and_parts _ _ next).0

pub next_is_legal : (at : EngineState) (colour : Colour) (turn : TurnData)
    → IsGood at.options.knobs at.options.means turn
    → is_next at colour turn ≡ true
    → is_legal at.game (step_of colour (Stone turn.cell)) ≡ true
next_is_legal at colour turn good next =
    let now : Position = board_of at.game in
    let board : turn.board ≡ now = next_board at colour turn next in
    let empty : is_empty_at now turn.cell ≡ true
    = subst (λ (p : Position). is_empty_at p turn.cell ≡ true) board good.empty in
    let going : is_over now ≡ false = ap is_over (sym board) ∙ not_over turn.board good.nobody in
    ap (λ o. not o && is_empty_at now turn.cell) going ∙ empty
