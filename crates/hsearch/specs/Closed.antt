-- Reports: stores that are closed under the four rules.
use Rattle.std.specs.Prelude.{◌≡◌, ℕ, ◌⊎◌, ◌<◌, Bool, true, List, Some, All, min}
use Rattle.std.specs.Prelude.{max}
use Rattle.std.specs.List.{slice_get}
use Rattle.hex_cells.specs.Sets.{with_cell}
use Rattle.hex_cells.specs.declared.colours.Colour.{Colour}
use Rattle.hex_board.specs.Elements.{PlayerBoard, edge_element, element_count}
use Rattle.hex_board.specs.Places.{is_near}
use Rattle.hex_board.specs.Positions.{Position}
use Rattle.conn_store.specs.Rules.{AndRule, IsCell, IsGroup, OrRule, both_of, union_of}
use Rattle.conn_store.specs.Stores.{IsCovered, IsPairFull, IsSound, StoreData}
use Rattle.conn_store.specs.declared.entries.Entry.{Entry}
use Rattle.conn_store.specs.declared.entries.Kind.{Kind}
use Rattle.conn_store.specs.declared.entries.Kind.TheVariants.{Full, Semi}

-- the entry is one of the store
abbrev pub IsKept : StoreData → Entry → Type 0
IsKept d a = (i : ℕ) × (slice_get d.entries i ≡ Some a)

-- the pair of x and y has an entry of that kind with a carrier inside c, or its full number of
-- that kind
abbrev pub IsSettled : StoreData → Kind → ℕ → ℕ → ℕ → Type 0
IsSettled d kind x y c =
    IsCovered d kind (min x y) (max x y) c ⊎ IsPairFull d kind (min x y) (max x y)

-- element u holds an edge
abbrev pub HoldsEdge : PlayerBoard → ℕ → Type 0
HoldsEdge e u = (second : Bool) × (edge_element e second ≡ u)

-- what the rules of AND give of entries a of x and u, and b of u and y, is settled, if u holds
-- no edge
abbrev pub SettlesAnd : StoreData → Entry → Entry → ℕ → ℕ → ℕ → Type 0
SettlesAnd d a b x u y = AndRule d.elements a b x u y → ¬ (HoldsEdge d.elements u)
    → (IsGroup d.elements u → IsSettled d Full x y (both_of a b))
    × ((k : ℕ) → IsCell d.elements u k → IsSettled d Semi x y (with_cell (both_of a b) k))

-- what the rule of OR gives of these entries of x and y is settled
abbrev pub SettlesOr : StoreData → List Entry → ℕ → ℕ → Type 0
SettlesOr d ways x y = OrRule ways x y → IsSettled d Full x y (union_of ways)

-- each pair that lies side by side has an entry with the empty carrier, and what the rules of AND
-- and OR give of entries of the store is settled
pub record IsRuleClosed (d : StoreData) : Type 0 where
  pub near : (x y : ℕ) → x < y → y < element_count d.elements → is_near d.elements x y ≡ true
      → IsCovered d Full x y 0
  pub ands : (a b : Entry) (x u y : ℕ) → IsKept d a → IsKept d b → SettlesAnd d a b x u y
  pub ors : (ways : List Entry) (x y : ℕ) → All (IsKept d) ways → SettlesOr d ways x y

-- a report: each entry is valid and follows from earlier ones, and the store is closed
pub record IsReport (d : StoreData) : Type 0 where
  pub sound : IsSound d
  pub closed : IsRuleClosed d

-- the store is a report of the player on the board
pub record IsReportOf (board : Position) (player : Colour) (d : StoreData) : Type 0 where
  pub elements : d.elements ≡ record { board = board; player = player }
  pub report : IsReport d
