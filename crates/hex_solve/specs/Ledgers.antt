-- The lines kept for a player while a search goes on. No clause of a public call cites this.
use Rattle.std.specs.Prelude.{◌≡◌, ℕ, ◌+◌, ◌-◌, ◌^◌, ◌<◌, ◌≤◌, ◌⊎◌, List, [], ◌∷◌, ◌++◌, All, None}
use Rattle.std.specs.Prelude.{true, length, min, nat_lt}
use Rattle.std.specs.Prelude.{if◌then◌else◌}
use Rattle.hex_cells.specs.Colours.{other_of}
use Rattle.hex_board.specs.Elements.{PlayerBoard}
use Rattle.hex_board.specs.Positions.{Position, is_empty_at, placed}
use Rattle.conn_store.specs.declared.entries.Kind.{Kind}
use Rattle.conn_store.specs.declared.entries.Kind.TheVariants.{Semi}
use Rattle.win_cert.specs.Entries.{Context}
use Rattle.win_cert.specs.Reasons.{reason_against}
use Rattle.win_cert.specs.declared.statements.Statement.TheVariants.{Derivation}
use Rattle.win_cert.specs.Writable.{IsLineOf}
use Rattle.win_cert.specs.declared.certs.TheConstants.{MOST_LINES, SECOND_VERSION}
use Rattle.win_cert.specs.declared.lines.Line.{Line}
use Rattle.win_cert.specs.Contexts.{AreClear, after_lines, first_context}
use Rattle.win_cert.specs.Showing.{Shows, scope_of}

-- the lines of a player's certificate on a board, and how many more there were no room for
pub record LedgerData : Type 0 where
  pub base : PlayerBoard
  pub lines : List Line
  pub lost : ℕ

-- what the next line is read over
abbrev pub read_of : LedgerData → Context
read_of d = after_lines (first_context d.base.board d.base.player) d.lines

-- the lines are clear and can be written, they are not too many, and if some had no room all
-- the room is taken
pub record IsLedger (d : LedgerData) : Type 0 where
  pub clear : AreClear (first_context d.base.board d.base.player) d.lines
  pub form : All (IsLineOf SECOND_VERSION d.base.board.size) d.lines
  pub few : length d.lines ≤ MOST_LINES
  pub full : 0 < d.lost → length d.lines ≡ MOST_LINES
  pub small : d.lost < 2 ^ 64

-- how many lines it would have
abbrev pub count_of : LedgerData → ℕ
count_of d = length d.lines + d.lost

-- the ledger with one line more, or one more that there is no room for
abbrev pub with_one_line : LedgerData → Line → LedgerData
with_one_line d line =
    if nat_lt (length d.lines) MOST_LINES then record d { lines = d.lines ++ line ∷ [] }
    else record d { lost = min (d.lost + 1) (2 ^ 64 - 1) }

-- the line may stand after the others
abbrev pub MayStandNext : LedgerData → Line → Type 0
MayStandNext d line = (reason_against (read_of d) (Derivation line) ≡ None)
    × IsLineOf SECOND_VERSION d.base.board.size line

-- new is old with more lines, at most so many
pub record GrowsBy (most : ℕ) (old new : LedgerData) : Type 0 where
  pub base : new.base ≡ old.base
  pub more : List Line
  pub lines : new.lines ≡ old.lines ++ more
  pub lost : old.lost ≤ new.lost
  pub count : count_of new ≤ count_of old + most

-- so many lines came to old as new has more, unless those that had no room are too many to count
abbrev pub CountsBy : ℕ → LedgerData → LedgerData → Type 0
CountsBy more old new = new.lost < 2 ^ 64 - 1 → count_of new ≡ count_of old + more

-- if there was room for all lines, line i shows that the player wins p
abbrev pub ShowsWin : LedgerData → Position → Kind → ℕ → Type 0
ShowsWin d p kind i = d.lost ≡ 0 → Shows (read_of d) p kind (scope_of d.base p) i

-- the cell is one of these
abbrev pub IsAmong : ℕ → List ℕ → Type 0
IsAmong k [] = ⊥
IsAmong k (j ∷ cells) = (k ≡ j) ⊎ IsAmong k cells

-- each number shows that the player wins p after a stone of the other's on one of the cells
abbrev pub AreAnswers : LedgerData → Position → List ℕ → List ℕ → Type 0
AreAnswers d p [] [] = Unit {0}
AreAnswers d p [] (k ∷ cells) = ⊥
AreAnswers d p (i ∷ numbers) [] = ⊥
AreAnswers d p (i ∷ numbers) (k ∷ cells) =
    ShowsWin d (placed p (other_of d.base.player) k) Semi i × (is_empty_at p k ≡ true)
    × AreAnswers d p numbers cells

-- each stone of the other's on p is answered by one of the numbers
abbrev pub AnswerAll : LedgerData → Position → List ℕ → Type 0
AnswerAll d p numbers = (cells : List ℕ) × AreAnswers d p numbers cells
    × ((k : ℕ) → is_empty_at p k ≡ true → IsAmong k cells)
