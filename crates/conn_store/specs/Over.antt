-- Full entries over one of their elements, the middle.
use Rattle.std.specs.Prelude.{◌≡◌, ◌≢◌, ℕ, ◌↔◌, [], ◌∷◌, IsTrue, MatchOption, Some}
use Rattle.std.specs.List.{slice_get}
use Rattle.hex_cells.specs.Sets.{has}
use Rattle.hex_board.specs.Elements.{PlayerBoard, HasCell}
use Rattle.hex_board.specs.Positions.{Apart}
use Rattle.conn_store.specs.Entries.{IsBetween, Misses}
use Rattle.conn_store.specs.Rules.{AndRule, AreAt, IsCell, IsGroup}
use Rattle.conn_store.specs.Stores.{StoreData}
use Rattle.conn_store.specs.declared.entries.Entry.{Entry}
use Rattle.conn_store.specs.declared.entries.Kind.TheVariants.{Full}
use Rattle.conn_store.specs.declared.rules.EntryOver.{EntryOver}

-- the entry is a full one of x and u
pub record IsFullOf (a : Entry) (x u : ℕ) : Type 0 where
  pub kind : a.kind ≡ Full
  pub pair : IsBetween a x u

-- element u is the empty cell k, and no other
abbrev pub IsOneCell : PlayerBoard → ℕ → ℕ → Type 0
IsOneCell e u k = IsCell e u k × ((j : ℕ) → IsCell e u j → k ≡ j)

-- it is an entry of the store over its middle
pub record IsOver (d : StoreData) (v : EntryOver) : Type 0 where
  pub entry : (a : Entry) × (slice_get d.entries v.number ≡ Some a) × IsFullOf a v.end v.middle
      × (a.carrier ≡ v.carrier)
  pub cells : (k : ℕ) → IsTrue (has v.cells k) ↔ HasCell d.elements v.end k
  pub middle : MatchOption v.cell (IsGroup d.elements v.middle) (IsOneCell d.elements v.middle)

-- what the rules of AND ask of an entry over its middle and of a second one, which ends at y: it is
-- full too, the ends differ, and neither carrier has a cell of the other or of the other's end
pub record AreDisjoint (e : PlayerBoard) (v : EntryOver) (b : Entry) (y : ℕ) : Type 0 where
  pub kind : b.kind ≡ Full
  pub ends : y ≢ v.end
  pub carriers : Apart v.carrier b.carrier
  pub first_end : Misses e v.end b.carrier
  pub second_end : Misses e y v.carrier

-- a rule of AND applies to the entries with these numbers over the middle u
abbrev pub CanAnd : StoreData → ℕ → ℕ → ℕ → Type 0
CanAnd d i j u =
    (a : Entry) × (b : Entry) × (x : ℕ) × (y : ℕ) × AreAt d.entries (i ∷ j ∷ []) (a ∷ b ∷ [])
    × AndRule d.elements a b x u y
