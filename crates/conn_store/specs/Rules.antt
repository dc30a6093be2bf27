-- The four rules by which an entry follows from others. An entry of a pair has the lesser element
-- first; the rules speak of the pair without an order.
use Rattle.std.specs.Prelude.{◌≡◌, ◌≢◌, ℕ, ◌⊎◌, Bool, true, false, List, [], ◌∷◌, Some, All, length}
use Rattle.std.specs.Prelude.{map, take, bit_or}
use Rattle.std.specs.List.{list_all, slice_get}
use Rattle.hex_cells.specs.Sets.{has, with_cell}
use Rattle.hex_board.specs.Elements.{PlayerBoard, HasCell}
use Rattle.hex_board.specs.Places.{is_near}
use Rattle.hex_board.specs.Positions.{Apart, is_empty_at}
use Rattle.conn_store.specs.Entries.{IsBetween, Misses}
use Rattle.conn_store.specs.declared.entries.Cause.{Cause}
use Rattle.conn_store.specs.declared.entries.Cause.TheVariants.{Adjacent, AndGroup, AndEmpty, Or}
use Rattle.conn_store.specs.declared.entries.Entry.{Entry}
use Rattle.conn_store.specs.declared.entries.Kind.{Kind}
use Rattle.conn_store.specs.declared.entries.Kind.TheVariants.{Full, Semi}

-- element u is the empty cell k
abbrev pub IsCell : PlayerBoard → ℕ → ℕ → Type 0
IsCell e u k = (is_empty_at e.board k ≡ true) × HasCell e u k

-- element u is a group: no empty cell
abbrev pub IsGroup : PlayerBoard → ℕ → Type 0
IsGroup e u = (k : ℕ) → ¬ (IsCell e u k)

-- entry a is one of x and u, and b one of u and y, and x and y differ
pub record IsChain (a b : Entry) (x u y : ℕ) : Type 0 where
  pub first : IsBetween a x u
  pub second : IsBetween b u y
  pub ends : x ≢ y

-- what the rules of AND ask of entries a of x and u, and b of u and y: both are full, no cell is
-- in both carriers, and neither carrier holds the other's end
pub record AndRule (e : PlayerBoard) (a b : Entry) (x u y : ℕ) : Type 0 where
  pub first_kind : a.kind ≡ Full
  pub second_kind : b.kind ≡ Full
  pub chain : IsChain a b x u y
  pub apart : Apart a.carrier b.carrier
  pub first_end : Misses e x b.carrier
  pub second_end : Misses e y a.carrier

-- both are semi entries of one pair
abbrev pub AreWays : Entry → Entry → Type 0
AreWays a b = (a.kind ≡ Semi) × (b.kind ≡ Semi) × (a.x ≡ b.x) × (a.y ≡ b.y)

-- the entry has this kind, these elements in either order, this carrier and this cause
pub record IsEntry (entry : Entry) (kind : Kind) (x y carrier : ℕ) (cause : Cause) : Type 0 where
  pub kind_is : entry.kind ≡ kind
  pub pair : IsBetween entry x y
  pub carrier_is : entry.carrier ≡ carrier
  pub cause_is : entry.cause ≡ cause

-- the entry of two elements that lie side by side, the lesser first
abbrev pub adjacent_entry : ℕ → ℕ → Entry
adjacent_entry x y = record { kind = Full; x = x; y = y; carrier = 0; cause = Adjacent }

-- the cells of both carriers
abbrev pub both_of : Entry → Entry → ℕ
both_of a b = bit_or a.carrier b.carrier

-- what the rules of AND give of a and b: a full entry over a group, and a semi one over an empty
-- cell
pub record IsAndOf (e : PlayerBoard) (a b : Entry) (x u y : ℕ) (entry : Entry) : Type 0 where
  pub pair : IsBetween entry x y
  pub group : IsGroup e u → (entry.kind ≡ Full) × (entry.carrier ≡ both_of a b)
  pub cell : (k : ℕ) → IsCell e u k
      → (entry.kind ≡ Semi) × (entry.carrier ≡ with_cell (both_of a b) k)

-- whether cell k is in all the carriers
abbrev pub is_in_all : List Entry → ℕ → Bool
is_in_all ways k = list_all (λ (a : Entry). has a.carrier k) ways

-- the cells of all the carriers
abbrev pub union_of : List Entry → ℕ
union_of [] = 0
union_of (a ∷ []) = a.carrier
union_of (a ∷ b ∷ ways) = bit_or a.carrier (union_of (b ∷ ways))

-- what the rule of OR asks: two or three semi entries of x and y, and no cell in all their carriers
pub record OrRule (ways : List Entry) (x y : ℕ) : Type 0 where
  pub number : (length ways ≡ 2) ⊎ (length ways ≡ 3)
  pub kinds : All (λ (a : Entry). a.kind ≡ Semi) ways
  pub pairs : All (λ (a : Entry). IsBetween a x y) ways
  pub free : (k : ℕ) → is_in_all ways k ≡ false

-- the entries with these numbers are the ways
abbrev pub AreAt : List Entry → List ℕ → List Entry → Type 0
AreAt entries numbers ways = map (slice_get entries) numbers ≡ map Some ways

-- the entry follows by the rule that the cause names from the entries whose numbers it has
abbrev pub FollowsBy : PlayerBoard → List Entry → Entry → Cause → Type 0
FollowsBy e entries entry Adjacent =
    (is_near e entry.x entry.y ≡ true) × (entry.kind ≡ Full) × (entry.carrier ≡ 0)
FollowsBy e entries entry (AndGroup i j) =
    (a : Entry) × (b : Entry) × (x : ℕ) × (u : ℕ) × (y : ℕ)
    × AreAt entries (i ∷ j ∷ []) (a ∷ b ∷ [])
    × AndRule e a b x u y × IsGroup e u × IsBetween entry x y × (entry.kind ≡ Full)
    × (entry.carrier ≡ both_of a b)
FollowsBy e entries entry (AndEmpty i j) =
    (a : Entry) × (b : Entry) × (x : ℕ) × (u : ℕ) × (y : ℕ) × (k : ℕ)
    × AreAt entries (i ∷ j ∷ []) (a ∷ b ∷ [])
    × AndRule e a b x u y × IsCell e u k × IsBetween entry x y × (entry.kind ≡ Semi)
    × (entry.carrier ≡ with_cell (both_of a b) k)
FollowsBy e entries entry (Or numbers count) =
    (ways : List Entry) × AreAt entries (take count numbers) ways × OrRule ways entry.x entry.y
    × (entry.kind ≡ Full) × (entry.carrier ≡ union_of ways)

-- the entry follows from these entries by the rule that its cause names
abbrev pub FollowsFrom : PlayerBoard → List Entry → Entry → Type 0
FollowsFrom e entries entry = FollowsBy e entries entry entry.cause
