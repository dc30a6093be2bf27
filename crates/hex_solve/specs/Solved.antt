-- What the solver tells of a position p with `mover` to place next: a clause for each answer.
use Rattle.std.specs.Prelude.{◌≡◌, ℕ, ◌*◌, ◌-◌, ◌^◌, ◌<◌, ◌≤◌, Bool, true, false, Option}
use Rattle.std.specs.Prelude.{Some, None, length}
use Rattle.hex_cells.specs.declared.colours.Colour.{Colour}
use Rattle.hex_board.specs.Joined.{is_joined}
use Rattle.hex_board.specs.Positions.{Position, is_empty_at, stones_of}
use Rattle.hex_board.specs.Wins.{Wins, empty_count}
use Rattle.conn_store.specs.Stores.{StoreData}
use Rattle.conn_store.specs.declared.entries.Entry.{Entry}
use Rattle.conn_store.specs.declared.entries.Kind.TheVariants.{Semi}
use Rattle.hsearch.specs.Closed.{IsReportOf}
use Rattle.win_cert.specs.Cuts.{IsEdgeEntryAt}
use Rattle.win_cert.specs.declared.certs.Cert.{Cert}
use Rattle.win_cert.specs.declared.certs.TheConstants.{MOST_LINES}
use Rattle.hex_found.specs.Found.{Certifies}
use Rattle.hex_solve.specs.Deciding.{lines_needed, positions_needed}
use Rattle.win_cert.specs.Showing.{Keeps}
use Rattle.hex_solve.specs.declared.answers.Solved.{Solved}
use Rattle.hex_solve.specs.declared.answers.Solved.TheVariants.{Won, Unknown, TooLong, Open}

-- ---- a winner

-- whoever is told to win does, whatever the other does
abbrev pub WinnerWins : Position → Colour → Solved → Type 0
WinnerWins p mover (Won winner cert) = Wins winner p mover
WinnerWins p mover (Unknown spent own best) = Unit {0}
WinnerWins p mover (TooLong winner lines) = Wins winner p mover
WinnerWins p mover (Open full) = Unit {0}

-- a winner's certificate shows it
abbrev pub WonIsCertified : Position → Colour → Solved → Type 0
WonIsCertified p mover (Won winner cert) = Certifies p mover winner cert
WonIsCertified p mover (Unknown spent own best) = Unit {0}
WonIsCertified p mover (TooLong winner lines) = Unit {0}
WonIsCertified p mover (Open full) = Unit {0}

-- without connections it has at most two lines for each position that the search needs
abbrev pub WonIsShort : Position → Colour → Bool → Solved → Type 0
WonIsShort p mover hsearch (Won winner cert) =
    hsearch ≡ false → length cert.lines ≤ 2 * positions_needed p mover
WonIsShort p mover hsearch (Unknown spent own best) = Unit {0}
WonIsShort p mover hsearch (TooLong winner lines) = Unit {0}
WonIsShort p mover hsearch (Open full) = Unit {0}

-- with this many empty cells or fewer a certificate is never too long
abbrev pub few_cells : ℕ
few_cells = 9

-- the winner's certificate had more lines than one may have, at most two for each position that the
-- search without connections needs; and more cells are empty than a few
abbrev pub TooLongNeedsMany : Position → Colour → Solved → Type 0
TooLongNeedsMany p mover (Won winner cert) = Unit {0}
TooLongNeedsMany p mover (Unknown spent own best) = Unit {0}
TooLongNeedsMany p mover (TooLong winner lines) =
    (MOST_LINES < lines) × (lines ≤ 2 * positions_needed p mover) × (few_cells < empty_count p)
TooLongNeedsMany p mover (Open full) = Unit {0}

-- the winner's certificate by the search without connections has so many lines, or more if this is
-- the greatest number of 64 bits
abbrev pub TooLongIsCounted : Position → Colour → Solved → Type 0
TooLongIsCounted p mover (Won winner cert) = Unit {0}
TooLongIsCounted p mover (Unknown spent own best) = Unit {0}
TooLongIsCounted p mover (TooLong winner lines) =
    lines < 2 ^ 64 - 1 → lines ≡ lines_needed winner p mover
TooLongIsCounted p mover (Open full) = Unit {0}

-- ---- none

-- no semi entry of the store is between the player's two edges
abbrev pub IsUndecided : StoreData → Type 0
IsUndecided d = (n : ℕ) (a : Entry) → IsEdgeEntryAt d n a → ¬ (a.kind ≡ Semi)

-- with connections the mover's report, which does not show that he wins; without, none
abbrev pub IsOwnReport : Position → Colour → Bool → Option StoreData → Type 0
IsOwnReport p mover true own =
    (d : StoreData) × (own ≡ Some d) × IsReportOf p mover d × IsUndecided d
IsOwnReport p mover false own = own ≡ None

-- the budget is spent, and the search needs more
abbrev pub UnknownNeedsMore : Position → Colour → Bool → ℕ → Solved → Type 0
UnknownNeedsMore p mover hsearch budget (Won winner cert) = Unit {0}
UnknownNeedsMore p mover hsearch budget (Unknown spent own best) =
    (spent ≡ budget) × (budget < positions_needed p mover) × IsOwnReport p mover hsearch own
UnknownNeedsMore p mover hsearch budget (TooLong winner lines) = Unit {0}
UnknownNeedsMore p mover hsearch budget (Open full) = Unit {0}

-- the cell that is thought best is empty; there is none only if no cell is
abbrev pub IsCellToTry : Position → Option ℕ → Type 0
IsCellToTry p (Some cell) = is_empty_at p cell ≡ true
IsCellToTry p None = (k : ℕ) → is_empty_at p k ≡ false

-- the cell that is told if the winner isn't
abbrev pub BestIsEmpty : Position → Solved → Type 0
BestIsEmpty p (Won winner cert) = Unit {0}
BestIsEmpty p (Unknown spent own best) = IsCellToTry p best
BestIsEmpty p (TooLong winner lines) = Unit {0}
BestIsEmpty p (Open full) = Unit {0}

-- the board is full, keeps the stones of p, and nobody is joined on it
pub record IsOpenBoard (p full : Position) : Type 0 where
  pub keeps : Keeps p full
  pub filled : (k : ℕ) → is_empty_at full k ≡ false
  pub unjoined : (c : Colour) → is_joined full.size c (stones_of full c) ≡ false

-- an open board is one
abbrev pub OpenIsFull : Position → Solved → Type 0
OpenIsFull p (Won winner cert) = Unit {0}
OpenIsFull p (Unknown spent own best) = Unit {0}
OpenIsFull p (TooLong winner lines) = Unit {0}
OpenIsFull p (Open full) = IsOpenBoard p full
