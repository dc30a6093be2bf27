-- A refusal is told exactly if a step is not legal.
use Rattle.std.proofs.Common.{◌≡◌, Bool, true, false, cond, not, ◌&&◌, List, Some, None, refl, ap}
use Rattle.std.proofs.Common.{sym, ◌∙◌}
use Rattle.hex_cells.specs.declared.colours.Colour.{Colour}
use Rattle.hex_board.specs.Positions.{Position, is_empty_at}
use Rattle.hex_game.specs.Games.{GameData, is_over, may_swap, is_legal_on, is_legal, refusal_on}
use Rattle.hex_game.specs.Games.{refusal, replay, board_of}
use Rattle.hex_game.specs.declared.moves.Move.{Move}
use Rattle.hex_game.specs.declared.moves.Move.TheVariants.{Stone, Swap}
use Rattle.hex_game.specs.declared.moves.Step.{Step}
use Rattle.hex_game.specs.declared.moves.PlayError.{PlayError}
use Rattle.hex_game.specs.declared.moves.PlayError.TheVariants.{Occupied, Over, BadSwap}

refused_by : (over fit : Bool) (first next cause : PlayError)
    → cond over (Some first) (cond fit None (Some next)) ≡ Some cause → (not over && fit) ≡ false
refused_by true fit first next cause e = refl
refused_by false true first next cause e = absurd (cc)
refused_by false false first next cause e = refl

allowed_by : (over fit : Bool) (first next : PlayError)
    → cond over (Some first) (cond fit None (Some next)) ≡ None → (not over && fit) ≡ true
allowed_by true fit first next e = absurd (cc)
allowed_by false true first next e = refl
allowed_by false false first next e = absurd (cc)

pub refused : (start : Position) (steps : List Step) (now : Position) (colour : Colour)
    (what : Move) (cause : PlayError)
    → refusal_on start steps now (record { colour = colour; what = what }) ≡ Some cause
    → is_legal_on start steps now (record { colour = colour; what = what }) ≡ false
refused start steps now colour (Stone cell) cause e
    = refused_by (is_over now) (is_empty_at now cell) Over Occupied cause e
refused start steps now colour Swap cause e
    = refused_by (is_over now) (may_swap start steps colour) Over BadSwap cause e

pub allowed : (start : Position) (steps : List Step) (now : Position) (colour : Colour)
    (what : Move)
    → refusal_on start steps now (record { colour = colour; what = what }) ≡ None
    → is_legal_on start steps now (record { colour = colour; what = what }) ≡ true
allowed start steps now colour (Stone cell) e
    = allowed_by (is_over now) (is_empty_at now cell) Over Occupied e
allowed start steps now colour Swap e
    = allowed_by (is_over now) (may_swap start steps colour) Over BadSwap e

-- a game as its parts and as a value
pub same_rule : (start : Position) (steps : List Step) (now : Position) (game : GameData)
    (step : Step)
    → record { start = start; steps = steps } ≡ game → now ≡ replay start steps
    → is_legal game step ≡ is_legal_on start steps now step
same_rule start steps now game step v e = ap (λ (g : GameData). is_legal g step) (sym v)
    ∙ ap (λ (p : Position). is_legal_on start steps p step) (sym e)

pub same_refusal : (start : Position) (steps : List Step) (now : Position) (game : GameData)
    (step : Step)
    → record { start = start; steps = steps } ≡ game → now ≡ replay start steps
    → refusal game step ≡ refusal_on start steps now step
same_refusal start steps now game step v e = ap (λ (g : GameData). refusal g step) (sym v)
    ∙ ap (λ (p : Position). refusal_on start steps p step) (sym e)

pub same_board : (start : Position) (steps : List Step) (now : Position) (game : GameData)
    → record { start = start; steps = steps } ≡ game → now ≡ replay start steps
    → now ≡ board_of game
same_board start steps now game v e = e ∙ ap (λ (g : GameData). board_of g) v
