-- Turns as plain data.
use Rattle.std.specs.Prelude.{◌≡◌, ℕ, true, None, Some, IfSome}
use Rattle.std.specs.Option.{ForSome}
use Rattle.std.specs.declared.option.Option.{Option}
use Rattle.hex_cells.specs.Sets.{has, with_cell}
use Rattle.hex_cells.specs.declared.colours.Colour.{Colour}
use Rattle.hex_board.specs.Positions.{Position, is_empty_at}
use Rattle.tree_words.specs.Closing.{ClosedTree}
use Rattle.tree_words.specs.Roots.{IsBest}
use Rattle.look_ahead.specs.Looked.{IsLookOf, LookedData}
use Rattle.win_cert.specs.Writable.{IsWritable}
use Rattle.win_cert.specs.declared.certs.Cert.{Cert}
use Rattle.hex_plan.specs.declared.types.Plan.{Plan}
use Rattle.hex_plan.specs.declared.types.Plan.TheVariants.{Win, Search}
use Rattle.hex_plan.specs.declared.plans.Planned.{Planned}

-- the certificate of a win, or beside a search that of a loss, if there is one
abbrev pub certificate_of : Plan → Option Cert → Option Cert
certificate_of (Win cert cell) loss = Some cert
certificate_of (Search threats allowed lost) loss = loss

-- a turn, as a value: the board, the player to move there, the turn's number, what was planned,
-- what the look-ahead found, if there was one and the plan is a search, the tree that was searched
-- for it, if one was, and the cell that was chosen
pub record TurnData : Type 0 where
  pub board : Position
  pub player : Colour
  pub number : ℕ
  pub planned : Planned
  pub looked : Option LookedData
  pub closed : Option ClosedTree
  pub cell : ℕ

-- the cells that are searched if a plan allows these: all, or the one that the look-ahead chose
abbrev pub searched_cells : ℕ → Option LookedData → ℕ
searched_cells allowed None = allowed
searched_cells allowed (Some looked) = with_cell 0 looked.cell

-- the look-ahead, if there was one, chose one of these cells
abbrev pub ChoseAmong : ℕ → Option LookedData → Type 0
ChoseAmong allowed looked = ForSome looked (λ l. has allowed l.cell ≡ true)

-- what the look-ahead found, if there was one, is a look-ahead's of these cells, on which the
-- player on the board may place, with this budget: it chose one of them
abbrev pub IsLookedAt : Position → Colour → ℕ → ℕ → Option LookedData → Type 0
IsLookedAt board player allowed budget None = Unit {0}
IsLookedAt board player allowed budget (Some looked) =
    IsLookOf board player allowed budget looked

-- the plan is a search, and after this look-ahead these cells are searched
abbrev pub IsSearchedBy : Plan → Option LookedData → ℕ → Type 0
IsSearchedBy (Win cert cell) looked set = ⊥
IsSearchedBy (Search threats allowed lost) looked set =
    ChoseAmong allowed looked × (set ≡ searched_cells allowed looked)

-- the turn with this number whose plan is a win, with this cell: it keeps no look-ahead, and has no
-- tree
abbrev pub turn_of_win : Position → Colour → ℕ → Planned → ℕ → TurnData
turn_of_win board player number planned cell = record {
  board = board;
  player = player;
  number = number;
  planned = planned;
  looked = None;
  closed = None;
  cell = cell;
}

-- the turn with this number whose plan is a search, with what the look-ahead found, and this cell:
-- its board and player are those of the tree
abbrev pub turn_of_search : ClosedTree → ℕ → Planned → Option LookedData → ℕ → TurnData
turn_of_search tree number planned looked cell = record {
  board = tree.shape.board;
  player = tree.shape.player;
  number = number;
  planned = planned;
  looked = looked;
  closed = Some tree;
  cell = cell;
}

-- the tree is one of the turn's board and player and of the cells that are searched if these are
-- allowed, and its best cell is the turn's
pub record Decides (t : TurnData) (cells : ℕ) (closed : ClosedTree) : Type 0 where
  pub board : closed.shape.board ≡ t.board
  pub player : closed.shape.player ≡ t.player
  pub allowed : closed.shape.allowed ≡ searched_cells cells t.looked
  pub chosen : ChoseAmong cells t.looked
  pub best : IsBest closed.shape closed.words t.cell

-- the plan decides the turn: a win by its cell, a search by its tree
abbrev pub DecidesBy : TurnData → Plan → Type 0
DecidesBy t (Win cert cell) = (t.looked ≡ None) × (t.closed ≡ None) × (t.cell ≡ cell)
DecidesBy t (Search threats allowed lost) = ForSome t.closed (Decides t allowed)

-- the certificate, if there is one, can be written
abbrev pub CanBeWritten : Option Cert → Type 0
CanBeWritten cert = IfSome cert IsWritable

-- what holds of each turn: its cell is empty, its plan decides it, and its certificate can be
-- written
pub record IsDecided (t : TurnData) : Type 0 where
  pub empty : is_empty_at t.board t.cell ≡ true
  pub decided : DecidesBy t t.planned.plan
  pub written : CanBeWritten (certificate_of t.planned.plan t.planned.loss)
