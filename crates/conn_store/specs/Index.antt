-- The index of a store: for each pair and kind the numbers of its entries. Only private clauses
-- cite this.
use Rattle.std.specs.Prelude.{◌≡◌, ℕ, ◌+◌, ◌-◌, ◌*◌, ◌/◌, ◌<◌, ◌≤◌, true, List, Some, slice_index}
use Rattle.std.specs.Prelude.{slice_index_or, All, length, sum_by}
use Rattle.std.specs.List.{slice_get}
use Rattle.hex_cells.specs.Sets.{has}
use Rattle.hex_cells.specs.declared.colours.Colour.{Colour}
use Rattle.hex_cells.specs.declared.board_size.TheConstants.Size.{MAX}
use Rattle.hex_board.specs.Elements.{PlayerBoard, element_count}
use Rattle.hex_board.specs.declared.numbering.TheConstants.{MOST_ELEMENTS}
use Rattle.hex_board.specs.Positions.{Position, Within, stones_of}
use Rattle.conn_store.specs.Stores.{StoreData, IsSound, AreFew, held_of, most_of, numbers_of}
use Rattle.conn_store.specs.declared.entries.Entry.{Entry}
use Rattle.conn_store.specs.declared.entries.Held.{Held}
use Rattle.conn_store.specs.declared.entries.Kind.{Kind}
use Rattle.conn_store.specs.declared.entries.Kind.TheVariants.{Full, Semi}

-- how many pairs n elements make
abbrev pub pairs_among : ℕ → ℕ
pairs_among n = n * (n - 1) / 2

-- the number of the pair of x and y, the lesser first: the pairs of lesser elements come before
abbrev pub number_of_pair : ℕ → ℕ → ℕ
number_of_pair x y = pairs_among y + x

-- the table has at each pair the numbers of its entries of that kind, of which there are at most
-- the full number
pub record IsTable (d : StoreData) (kind : Kind) (table : List Held) : Type 0 where
  pub pairs : length table ≡ pairs_among (element_count d.elements)
  pub numbers : (x y : ℕ) (h : Held) → x < y → y < element_count d.elements
      → slice_index_or table (number_of_pair x y) h ≡ held_of (numbers_of d kind x y)
  pub few : All (λ (h : Held). h.count ≤ most_of kind) table

-- one of the entries with these numbers has its carrier inside c
abbrev pub AnyInside : List Entry → Held → ℕ → Type 0
AnyInside entries held c =
    (j : ℕ) × (a : Entry) × (j < held.count) × (slice_get entries (slice_index held.at j) ≡ Some a)
    × ((k : ℕ) → has a.carrier k ≡ true → has c k ≡ true)

-- how many numbers the table has
abbrev pub total_of : List Held → ℕ
total_of table = sum_by (λ (h : Held). h.count) table

-- a player's board of at most 121 cells, with his stones on it
pub record IsSmall (e : PlayerBoard) : Type 0 where
  pub size : e.board.size ≤ MAX
  pub stones : Within e.board.size (stones_of e.board e.player)

-- what a store keeps: the board and the player of its elements, sound entries, the two tables,
-- and room for all entries
pub record IsStored
    (board : Position) (player : Colour) (d : StoreData) (full semi : List Held) (room : ℕ)
    : Type 0 where
  pub same_board : d.elements.board ≡ board
  pub same_player : d.elements.player ≡ player
  pub small : IsSmall d.elements
  pub count : element_count d.elements ≤ MOST_ELEMENTS
  pub sound : IsSound d
  pub few : AreFew d
  pub full_table : IsTable d Full full
  pub semi_table : IsTable d Semi semi
  pub total : total_of full + total_of semi ≡ length d.entries
  pub space : 10 * pairs_among (element_count d.elements) ≤ room
