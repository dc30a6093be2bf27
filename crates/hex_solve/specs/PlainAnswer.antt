-- What the search without connections leaves at its end, and what it tells. Only private clauses
-- cite this.
use Rattle.std.specs.Prelude.{◌≡◌, ℕ, ◌*◌, ◌-◌, ◌^◌, ◌<◌, ◌≤◌, Option, Some, length}
use Rattle.hex_cells.specs.declared.colours.Colour.{Colour}
use Rattle.hex_board.specs.Positions.{Position}
use Rattle.hex_board.specs.Wins.{Wins, empty_count}
use Rattle.conn_store.specs.Stores.{StoreData}
use Rattle.conn_store.specs.declared.entries.Kind.{Kind}
use Rattle.win_cert.specs.Verdicts.{Accepted}
use Rattle.win_cert.specs.Writable.{IsWritable}
use Rattle.win_cert.specs.declared.certs.Cert.{Cert}
use Rattle.win_cert.specs.declared.certs.TheConstants.{MOST_LINES, SECOND_VERSION}
use Rattle.hex_solve.specs.Deciding.{first, lines_needed, positions_needed}
use Rattle.hex_solve.specs.Ledgers.{LedgerData, ShowsWin, count_of}
use Rattle.hex_solve.specs.PlainSearch.{tree_lines}
use Rattle.hex_found.specs.Found.{IsCertifiedWinner, claim_for}
use Rattle.hex_solve.specs.Solved.{IsCellToTry, IsOpenBoard, few_cells}
use Rattle.hex_solve.specs.declared.answers.Solved.{Solved}
use Rattle.hex_solve.specs.declared.answers.Solved.TheVariants.{Won, Unknown, TooLong, Open}

-- the certificate is one of the ledger's lines, has version 2, is accepted and can be written
pub record IsCertOf (d : LedgerData) (claim : Kind) (cert : Cert) : Type 0 where
  pub version : cert.version ≡ SECOND_VERSION
  pub board : cert.board ≡ d.base.board
  pub player : cert.player ≡ d.base.player
  pub claims : cert.claim ≡ claim
  pub lines : cert.lines ≡ d.lines
  pub writable : IsWritable cert
  pub accepted : Accepted cert

-- a line of the ledger shows that its player wins its board, which is p
pub record IsToldBy (p : Position) (mover : Colour) (claim : Kind) (line : ℕ)
    (d : LedgerData) : Type 0 where
  pub board : d.base.board ≡ p
  pub claims : claim ≡ claim_for d.base.player mover
  pub first_is : first p mover ≡ Some d.base.player
  pub shows : ShowsWin d d.base.board claim line
  pub entered : count_of d ≤ 2 * positions_needed p mover
  pub tree : count_of d ≤ tree_lines claim (empty_count p)
  pub counted : d.lost < 2 ^ 64 - 1 → count_of d ≡ lines_needed d.base.player p mover

-- the winner wins p, and his certificate has too many lines
pub record IsOverlong (p : Position) (mover winner : Colour) (lines : ℕ) : Type 0 where
  pub wins : Wins winner p mover
  pub long : MOST_LINES < lines
  pub fewer : lines ≤ 2 * positions_needed p mover
  pub large : few_cells < empty_count p
  pub counted : lines < 2 ^ 64 - 1 → lines ≡ lines_needed winner p mover

-- what a search tells that was handed this report and may enter so many positions
abbrev pub IsPlainAnswer : Position → Colour → Option StoreData → ℕ → Solved → Type 0
IsPlainAnswer p mover own budget (Won winner cert) =
    IsCertifiedWinner p mover winner cert × (length cert.lines ≤ 2 * positions_needed p mover)
IsPlainAnswer p mover own budget (Unknown spent left best) =
    (spent ≡ budget) × (budget < positions_needed p mover) × (left ≡ own) × IsCellToTry p best
IsPlainAnswer p mover own budget (TooLong winner lines) = IsOverlong p mover winner lines
IsPlainAnswer p mover own budget (Open full) = IsOpenBoard p full

-- the same with connections, of a certificate of any length
abbrev pub IsSolverAnswer : Position → Colour → Option StoreData → ℕ → Solved → Type 0
IsSolverAnswer p mover own budget (Won winner cert) = IsCertifiedWinner p mover winner cert
IsSolverAnswer p mover own budget (Unknown spent left best) =
    (spent ≡ budget) × (budget < positions_needed p mover) × (left ≡ own) × IsCellToTry p best
IsSolverAnswer p mover own budget (TooLong winner lines) = IsOverlong p mover winner lines
IsSolverAnswer p mover own budget (Open full) = IsOpenBoard p full
