-- What the plain search finds of a position. Only private clauses cite this.
use Rattle.std.specs.Prelude.{◌≡◌, ℕ, ◌+◌, ◌*◌, ◌<◌, ◌≤◌, Bool, true, false, zero, suc, Result, Ok}
use Rattle.std.specs.Prelude.{Err, Some}
use Rattle.hex_cells.specs.Colours.{other_of}
use Rattle.hex_cells.specs.declared.colours.Colour.{Colour}
use Rattle.hex_board.specs.Joined.{is_joined}
use Rattle.hex_board.specs.Positions.{Position, stones_of}
use Rattle.hex_board.specs.Wins.{empty_count}
use Rattle.conn_store.specs.declared.entries.Kind.{Kind}
use Rattle.conn_store.specs.declared.entries.Kind.TheVariants.{Full, Semi}
use Rattle.hex_solve.specs.Deciding.{first, lines_needed, positions_needed}
use Rattle.hex_solve.specs.Ledgers.{CountsBy, GrowsBy, LedgerData, ShowsWin, count_of}
use Rattle.win_cert.specs.Showing.{Keeps}
use Rattle.hex_solve.specs.Solved.{IsOpenBoard}
use Rattle.hex_solve.specs.declared.plain_search.Found.{Found}
use Rattle.hex_solve.specs.declared.plain_search.SearchEnd.{SearchEnd}
use Rattle.hex_solve.specs.declared.plain_search.SearchEnd.TheVariants.{Spent, Open, Memory}

-- p is searched with `mover` to place, over a ledger of his and one of the other's, of one board
-- whose stones p keeps, and the mover is not joined
pub record IsPairOfLedgers (p : Position) (mover : Colour) (own other : LedgerData) : Type 0 where
  pub own_player : own.base.player ≡ mover
  pub other_player : other.base.player ≡ other_of mover
  pub board : other.base.board ≡ own.base.board
  pub keeps : Keeps own.base.board p
  pub unjoined : is_joined p.size mover (stones_of p mover) ≡ false

-- the most lines for a position with so many empty cells that the winner shows by an entry of
-- that kind: two for the position, and those for the one position after a stone of his, or for each
-- after a stone of the other's
abbrev pub tree_lines : Kind → ℕ → ℕ
tree_lines kind zero = 2
tree_lines Semi (suc m) = 2 + tree_lines Full m
tree_lines Full (suc m) = 2 + suc m * tree_lines Semi m

-- the winner's ledger grew by the lines that show that he wins p, at most two for each position
-- that was entered, and no more than a tree has; the other ledger is as before
abbrev pub IsShownBy : Bool → Position → Colour → ℕ → LedgerData × LedgerData
    → LedgerData × LedgerData → Type 0
IsShownBy true p mover line old new = GrowsBy (2 * positions_needed p mover) old.0 new.0
    × ShowsWin new.0 p Semi line × (new.1 ≡ old.1) × (first p mover ≡ Some mover)
    × (count_of new.0 ≤ count_of old.0 + tree_lines Semi (empty_count p))
    × CountsBy (lines_needed mover p mover) old.0 new.0
IsShownBy false p mover line old new = GrowsBy (2 * positions_needed p mover) old.1 new.1
    × ShowsWin new.1 p Full line × (new.0 ≡ old.0) × (first p mover ≡ Some (other_of mover))
    × (count_of new.1 ≤ count_of old.1 + tree_lines Full (empty_count p))
    × CountsBy (lines_needed (other_of mover) p mover) old.1 new.1

-- why a search stopped that may enter `left` positions: they are fewer than it needs, or a board is
-- open, or memory ran out
abbrev pub IsSearchEnd : Position → Colour → ℕ → SearchEnd → Type 0
IsSearchEnd p mover left Spent = left < positions_needed p mover
IsSearchEnd p mover left (Open full) = IsOpenBoard p full
IsSearchEnd p mover left Memory = Unit {0}

-- what a search answers that may enter `left` positions: who wins, by a line, and how many it may
-- enter then; or why it stopped
abbrev pub IsSearch : Position → Colour → ℕ → ℕ → LedgerData × LedgerData
    → LedgerData × LedgerData → Result Found SearchEnd → Type 0
IsSearch p mover left rest old new (Ok found) = (rest + positions_needed p mover ≡ left)
    × IsShownBy found.by_mover p mover found.line old new
IsSearch p mover left rest old new (Err stop) = IsSearchEnd p mover left stop
