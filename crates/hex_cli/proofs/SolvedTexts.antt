-- What a solver says of a game's board.
use Rattle.std.proofs.Common.{Bool, ℕ, ◌≡◌, subst, Some, None}
use Rattle.hex_cells.specs.declared.colours.Colour.{Colour}
use Rattle.hex_board.specs.Positions.{Position}
use Rattle.hex_board.proofs.Placed.{empty_on}
use Rattle.hex_game.specs.Games.{GameData, board_of}
use Rattle.hex_solve.specs.Solved.{BestIsEmpty, OpenIsFull, TooLongNeedsMany, UnknownNeedsMore}
use Rattle.hex_solve.specs.Solved.{WinnerWins, WonIsCertified}
use Rattle.hex_solve.specs.declared.answers.Solved.{Solved}
use Rattle.hex_solve.specs.declared.answers.Solved.TheVariants.{Won, Unknown, TooLong, Open}
use Rattle.hex_cli.specs.SolveTexts.{IsWritableAnswer, MayBeAnswered, next_mover}

-- what the solver promises of each answer
pub solved_by : (hsearch : Bool) (budget : ℕ) (p : Position) (mover : Colour) (solved : Solved)
    → WinnerWins p mover solved → WonIsCertified p mover solved
    → UnknownNeedsMore p mover hsearch budget solved → BestIsEmpty p solved
    → TooLongNeedsMany p mover solved → OpenIsFull p solved → MayBeAnswered budget p mover solved
solved_by hsearch budget p mover (Won winner cert) wins won unknown best long filled = (wins, won)
solved_by hsearch budget p mover (Unknown spent own cell) wins won unknown best long filled =
    (unknown.0, best)
solved_by hsearch budget p mover (TooLong winner lines) wins won unknown best long filled =
    (wins, long.0)
solved_by hsearch budget p mover (Open full) wins won unknown best long filled = filled

pub solved_of_game : (budget : ℕ) (game : GameData) (p : Position) (mover : Colour)
    (solved : Solved) → p ≡ board_of game → mover ≡ next_mover game.steps
    → MayBeAnswered budget p mover solved
    → MayBeAnswered budget (board_of game) (next_mover game.steps) solved
solved_of_game budget game p mover solved board next s =
    subst (λ (q : Position). MayBeAnswered budget q (next_mover game.steps) solved) board
    (subst (λ (m : Colour). MayBeAnswered budget p m solved) next s)

-- what the solver answers of a position can be written
pub can_be_written : (p : Position) (mover : Colour) (solved : Solved)
    → WonIsCertified p mover solved → BestIsEmpty p solved → IsWritableAnswer p.size solved
can_be_written p mover (Won winner cert) won best = won.writable
can_be_written p mover (Unknown spent own (Some cell)) won best = empty_on p cell best
can_be_written p mover (Unknown spent own None) won best = tt
can_be_written p mover (TooLong winner lines) won best = tt
can_be_written p mover (Open full) won best = tt
