-- Stones in turn lie on the board and apart.
use Rattle.std.proofs.Common.{◌≡◌, ℕ, List, [], ◌∷◌, sym, subst}
use Rattle.hex_cells.specs.Colours.{other_of}
use Rattle.hex_cells.specs.declared.colours.Colour.{Colour}
use Rattle.hex_board.specs.Positions.{Apart, Within, Position, placed, stones_of}
use Rattle.play_out.specs.Fills.{ListsEmpties, filled_by}
use Rattle.play_out.proofs.Turns.{first_empty, rest_empty, size_after}
use Rattle.hex_board.proofs.Placed.{placed_within, placed_apart}

pub within_after : (p : Position) (player owner : Colour) (cells : List ℕ) → ListsEmpties p cells
    → Within p.size (stones_of p owner)
    → Within (filled_by p player cells).size (stones_of (filled_by p player cells) owner)
unfolding filled_by
within_after p player owner [] f w = w
within_after p player owner (c ∷ cells) f w =
    within_after (placed p player c) (other_of player) owner cells (rest_empty p player c cells f)
    (placed_within p player owner c w (first_empty p c cells f))

pub apart_after : (p : Position) (player owner : Colour) (cells : List ℕ) → ListsEmpties p cells
    → Apart (stones_of p owner) (stones_of p (other_of owner))
    → Apart (stones_of (filled_by p player cells) owner)
    (stones_of (filled_by p player cells) (other_of owner))
unfolding filled_by
apart_after p player owner [] f a = a
apart_after p player owner (c ∷ cells) f a =
    apart_after (placed p player c) (other_of player) owner cells (rest_empty p player c cells f)
    (placed_apart p player owner c a (first_empty p c cells f))

-- a set of a player's stones, as the code makes it
pub stones_within : (p : Position) (player owner : Colour) (cells : List ℕ) (s : ℕ)
    → ListsEmpties p cells → Within p.size (stones_of p owner)
    → s ≡ stones_of (filled_by p player cells) owner → Within p.size s
stones_within p player owner cells s f w e =
    let r : Within p.size (stones_of (filled_by p player cells) owner) =
    subst (λ v. Within v (stones_of (filled_by p player cells) owner)) (size_after p player cells)
    (within_after p player owner cells f w) in
    subst (λ v. Within p.size v) (sym e) r
