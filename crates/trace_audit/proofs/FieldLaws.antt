-- Sets on a board, and the words that tell them.
use Rattle.std.proofs.Common.{ℕ, ◌*◌, ◌<◌, ◌≤◌, ◌^◌, arith}
use Rattle.std.proofs.Math.Nat.{mul-le-mul}
use Rattle.hex_cells.proofs.Bits.{below_from_items}
use Rattle.hex_board.specs.Positions.{Within}
use Rattle.hex_board.proofs.Placed.{empty_on}
use Rattle.tree_words.specs.Settings.{Setting, IsSetting}

-- a set of cells of a board is below 2^121
pub on_small : (n set : ℕ) → n ≤ 11 → Within n set → set < 2 ^ 121
on_small n set l w
    = below_from_items set 121
    (λ k t. let most : n * n ≤ 11 * 11 = mul-le-mul l l in let on : k < n * n = w k t in omega (arith, most, on))

-- and so is the set of the allowed cells
pub allowed_small : (s : Setting) → IsSetting s → s.allowed < 2 ^ 121
allowed_small s h = on_small s.board.size s.allowed h.position.most
    (λ k t. empty_on s.board k (h.empty k t))
