-- How a cut goes. Only private clauses cite this.
use Rattle.std.specs.Prelude.{◌≡◌, ℕ, ◌<◌, ◌≤◌, ◌==◌, Bool, true, false, List, Option, Some, All}
use Rattle.std.specs.Prelude.{length, get_or, map, take, if◌then◌else◌}
use Rattle.std.specs.List.{slice_get}
use Rattle.hex_cells.specs.Colours.{other_of}
use Rattle.hex_board.specs.Elements.{PlayerBoard}
use Rattle.hex_board.specs.Positions.{Apart, Within, stones_of}
use Rattle.conn_store.specs.declared.entries.Cause.{Cause}
use Rattle.conn_store.specs.declared.entries.Cause.TheVariants.{Adjacent, AndGroup, AndEmpty, Or}
use Rattle.conn_store.specs.Stores.{StoreData}
use Rattle.conn_store.specs.declared.entries.Entry.{Entry}
use Rattle.win_cert.specs.Contexts.{AreClear, after_lines, first_context}
use Rattle.win_cert.specs.Cuts.{entries_numbered, premises, scoped}
use Rattle.win_cert.specs.Entries.{Context, ScopedEntry, end_element, entry_at}
use Rattle.win_cert.specs.Statements.{is_other_stone}
use Rattle.win_cert.specs.Writable.{IsEndOn, IsLineOf}
use Rattle.win_cert.specs.declared.certs.TheConstants.{FIRST_VERSION}
use Rattle.win_cert.specs.declared.lines.End.{End}
use Rattle.win_cert.specs.declared.lines.Line.{Line}
use Rattle.win_cert.specs.declared.lines.Line.TheVariants.{Adj, And, Key, Or2, Or3}

-- whether entry i is marked
abbrev pub is_marked : List Bool → ℕ → Bool
is_marked marks i = get_or marks i false

-- the premises of each entry are earlier ones
abbrev pub NameEarlier : List Entry → Type 0
NameEarlier entries =
    (i : ℕ) (a : Entry) → slice_get entries i ≡ Some a → All (λ j. j < i) (premises a.cause)

-- the premises of a marked entry from number i on are marked
abbrev pub IsClosedFrom : List Entry → List Bool → ℕ → Type 0
IsClosedFrom entries marks i =
    (j : ℕ) (a : Entry) → i ≤ j → is_marked marks j ≡ true → slice_get entries j ≡ Some a
    → All (λ k. is_marked marks k ≡ true) (premises a.cause)

-- the marked entries are in the set
abbrev pub AreInside : List Bool → (ℕ → Bool) → Type 0
AreInside marks set = (i : ℕ) → is_marked marks i ≡ true → set i ≡ true

-- the set has with each entry its premises
abbrev pub HasPremises : List Entry → (ℕ → Bool) → Type 0
HasPremises entries set = (i : ℕ) (a : Entry) → set i ≡ true → slice_get entries i ≡ Some a
    → All (λ j. set j ≡ true) (premises a.cause)

-- each mark, and with each marked entry its premises; the marked entries are in each set that has
-- the old ones, and with each entry its premises
pub record IsClosureOf (entries : List Entry) (old new : List Bool) : Type 0 where
  pub number : length new ≡ length entries
  pub kept : (i : ℕ) → is_marked old i ≡ true → is_marked new i ≡ true
  pub closed : IsClosedFrom entries new 0
  pub least : (set : ℕ → Bool) → HasPremises entries set → AreInside old set → AreInside new set

-- the entries with these numbers are marked, and with each marked entry its premises, and no more
pub record AreMarks (entries : List Entry) (numbers : List ℕ) (marks : List Bool) : Type 0 where
  pub number : length marks ≡ length entries
  pub asked : All (λ i. is_marked marks i ≡ true) numbers
  pub closed : IsClosedFrom entries marks 0
  pub least : (set : ℕ → Bool) → All (λ i. set i ≡ true) numbers → HasPremises entries set
      → AreInside marks set

-- marks, and the entries of these numbers that are marked after them
pub record IsMarkedBy (old : List Bool) (numbers : List ℕ) (new : List Bool) : Type 0 where
  pub number : length new ≡ length old
  pub kept : (i : ℕ) → is_marked old i ≡ true → is_marked new i ≡ true
  pub more : All (λ i. is_marked new i ≡ true) numbers
  pub least : (set : ℕ → Bool) → All (λ i. set i ≡ true) numbers → AreInside old set
      → AreInside new set
  pub rest : (m i : ℕ) → All (λ j. j < m) numbers → m ≤ i → is_marked new i ≡ is_marked old i

-- the player's stones lie on the board, apart from the opponent's
pub record AreStonesOn (e : PlayerBoard) : Type 0 where
  pub own : Within e.board.size (stones_of e.board e.player)
  pub apart : Apart (stones_of e.board e.player) (stones_of e.board (other_of e.player))

-- the end is on the board, and one of element x
pub record IsEndFor (e : PlayerBoard) (x : ℕ) (end : End) : Type 0 where
  pub element : end_element e end ≡ Some x
  pub place : IsEndOn e.board.size end
  pub other : is_other_stone e end ≡ false

-- the line for an entry with that cause, where the line of entry i has the number `renamed`
abbrev pub IsLineFor : PlayerBoard → List ℕ → Entry → Cause → Line → Type 0
IsLineFor e renamed a Adjacent line =
    (x : End) × (y : End) × (line ≡ Adj x y) × IsEndFor e a.x x × IsEndFor e a.y y
IsLineFor e renamed a (AndGroup i j) line = line ≡ And (get_or renamed i 0) (get_or renamed j 0)
IsLineFor e renamed a (AndEmpty i j) line = line ≡ Key (get_or renamed i 0) (get_or renamed j 0)
IsLineFor e renamed a (Or numbers count) line = (length numbers ≡ 3) × (line ≡
    (if count == 2
    then Or2 (get_or renamed (get_or numbers 0 0) 0) (get_or renamed (get_or numbers 1 0) 0)
    else Or3 (get_or renamed (get_or numbers 0 0) 0) (get_or renamed (get_or numbers 1 0) 0)
    (get_or renamed (get_or numbers 2 0) 0)))

-- what the first line of a certificate of the store's entries is read over
abbrev pub report_context : StoreData → Context
report_context d = first_context d.elements.board d.elements.player

-- what the line for an entry gives
abbrev pub given : Entry → Option ScopedEntry
given a = Some (scoped 0 a)

-- lines of the first version for the marked ones of the store's first n entries: there is no reason
-- against any, they set no scope, and they give these entries. For each of the n entries `renamed`
-- has the number of its line, or of the next line if it has none
pub record AreLinesFor (d : StoreData) (marks : List Bool) (n : ℕ) (lines : List Line)
    (renamed : List ℕ) : Type 0 where
  pub number : length renamed ≡ n
  pub few : length lines ≤ n
  pub form : All (IsLineOf FIRST_VERSION d.elements.board.size) lines
  pub clear : AreClear (report_context d) lines
  pub scope : (after_lines (report_context d) lines).scope ≡ 0
  pub gives : (after_lines (report_context d) lines).earlier ≡ map given
      (entries_numbered (is_marked marks) (take n d.entries))
  pub places : (i : ℕ) (a : Entry) → i < n → is_marked marks i ≡ true
      → slice_get d.entries i ≡ Some a
      → entry_at (after_lines (report_context d) lines) (get_or renamed i 0) ≡ given a
