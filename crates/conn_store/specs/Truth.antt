-- What a player is sure of: a game of placing in turn inside a set of cells.
use Rattle.std.specs.Prelude.{◌≡◌, ℕ, ◌⊎◌, true, zero, suc}
use Rattle.hex_cells.specs.Sets.{has, members, with_cell, without_cell}
use Rattle.hex_cells.specs.declared.board_size.TheConstants.{MOST_CELLS}
use Rattle.conn_store.specs.declared.entries.Kind.{Kind}
use Rattle.conn_store.specs.declared.entries.Kind.TheVariants.{Full, Semi}

-- The player with the stones s is sure of a goal inside the cells c, of which at most `fuel` are
-- used up, if both players place there in turn, first the opponent (full) or himself (semi): he has
-- it; or he is sure of it after each stone of the opponent, if there is one, or after some stone of
-- his own.
abbrev pub IsSureIn : ℕ → Kind → (ℕ → Type 0) → ℕ → ℕ → Type 0
IsSureIn zero kind goal s c = goal s
IsSureIn (suc fuel) Full goal s c =
    goal s ⊎ (((k : ℕ) × (has c k ≡ true))
    × ((k : ℕ) → has c k ≡ true → IsSureIn fuel Semi goal s (without_cell c k)))
IsSureIn (suc fuel) Semi goal s c =
    goal s ⊎ ((k : ℕ) × (has c k ≡ true)
    × IsSureIn fuel Full goal (with_cell s k) (without_cell c k))

-- the same, by recursion on the number of cells in c
abbrev pub IsSure : Kind → (ℕ → Type 0) → ℕ → ℕ → Type 0
IsSure kind goal s c = IsSureIn (members c MOST_CELLS) kind goal s c
