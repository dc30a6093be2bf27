-- Cells that words name in rising order.
use Rattle.std.proofs.Common.{◌≡◌, ℕ, suc, bit_and, leb, true, cond, List, [], ◌∷◌, Some, None, ◌∙◌}
use Rattle.std.proofs.Common.{subst}
use Rattle.hex_cells.specs.Sets.{has, with_cell}
use Rattle.hex_cells.proofs.Bits.{has_and, has_none}
use Rattle.hex_board.specs.Positions.{Apart, Within}
use Rattle.win_cert.specs.Named.{cell_named, set_named}
use Rattle.win_cert.proofs.CellWords.{cell_means}
use Rattle.win_cert.proofs.Options.{some_of_test, some_of_then}
use Rattle.hex_board.proofs.Placed.{with_within}
use Rattle.std.proofs.lemmas.Bool.{and_from}

-- the cells that are named lie on the board
pub cells_within : (n s least : ℕ) (words : List (List ℕ)) (u : ℕ)
    → set_named n s least words ≡ Some u → Within n s → Within n u
cells_within n s least [] u e on = subst (Within n) (cc) on
cells_within n s least (word ∷ words) u e on =
    let found = some_of_then
    (λ k. cond (leb least k) (set_named n (with_cell s k) (suc k) words) None)
    (cell_named n word) u e in
    let rest = some_of_test (leb least found.0)
    (set_named n (with_cell s found.0) (suc found.0) words) u found.2 in
    let on_board = cell_means n word found.0 found.1 in
    cells_within n (with_cell s found.0) (suc found.0) words u rest.1
    (with_within n s found.0 on on_board.0)

-- sets whose common cells are none are apart
pub apart_of : (s t : ℕ) → bit_and s t ≡ 0 → Apart s t
apart_of s t e k in_s in_t =
    let none = has_none k in
    let both : has (bit_and s t) k ≡ true = has_and s t k
    ∙ and_from (has s k) (has t k) in_s in_t in
    absurd (cc)

-- the empty set lies on each board
pub none_within : (n : ℕ) → Within n 0
none_within n k h = let none = has_none k in absurd (cc)
