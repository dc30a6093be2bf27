-- Stores: a player's entries in the order in which they came, and what becomes of one more.
use Rattle.std.specs.Prelude.{◌≡◌, ℕ, ◌-◌, ◌≤◌, ◌==◌, ◌&&◌, Bool, true, false, suc, List, [], ◌∷◌}
use Rattle.std.specs.Prelude.{◌++◌, Some, count_by, length, take, replicate, if◌then◌else◌}
use Rattle.std.specs.List.{slice_get}
use Rattle.hex_cells.specs.Sets.{has}
use Rattle.hex_cells.specs.declared.colours.Colour.{Colour}
use Rattle.hex_board.specs.Elements.{PlayerBoard}
use Rattle.hex_board.specs.Positions.{Position}
use Rattle.conn_store.specs.Entries.{IsValid, IsTrueEntry}
use Rattle.conn_store.specs.Rules.{AndRule, AreAt, FollowsBy, FollowsFrom, IsAndOf, OrRule}
use Rattle.conn_store.specs.declared.entries.Entry.{Entry}
use Rattle.conn_store.specs.declared.entries.Held.{Held}
use Rattle.conn_store.specs.declared.entries.Kind.{Kind}
use Rattle.conn_store.specs.declared.entries.Kind.TheVariants.{Full, Semi}
use Rattle.conn_store.specs.declared.entries.TheConstants.{MOST_FULL, MOST_SEMI}
use Rattle.conn_store.specs.declared.entries.Put.{Put}
use Rattle.conn_store.specs.declared.entries.Put.TheVariants.{Added, Dominated, PairFull}

-- a store without where it lies in memory: the board and the player of whose elements it speaks,
-- and the entries
pub record StoreData : Type 0 where
  pub elements : PlayerBoard
  pub entries : List Entry

-- the store of the player's elements on the board, without entries
abbrev pub empty_store : Position → Colour → StoreData
empty_store board player =
    record { elements = record { board = board; player = player }; entries = [] }

-- the number of entries of one pair that a store takes of a kind
abbrev pub most_of : Kind → ℕ
most_of Full = MOST_FULL
most_of Semi = MOST_SEMI

abbrev pub same_kind : Kind → Kind → Bool
same_kind Full Full = true
same_kind Full Semi = false
same_kind Semi Full = false
same_kind Semi Semi = true

-- whether the entry is of that kind and of elements x and y, the lesser first
abbrev pub is_of : Kind → ℕ → ℕ → Entry → Bool
is_of kind x y entry = same_kind entry.kind kind && (entry.x == x && entry.y == y)

-- the numbers of the entries of that kind and pair, in rising order, if the first entry has
-- the number n
abbrev pub numbers_from : ℕ → Kind → ℕ → ℕ → List Entry → List ℕ
numbers_from n kind x y [] = []
numbers_from n kind x y (a ∷ entries) =
    if is_of kind x y a then n ∷ numbers_from (suc n) kind x y entries
    else numbers_from (suc n) kind x y entries

-- the numbers of the store's entries of that kind and pair, in rising order
abbrev pub numbers_of : StoreData → Kind → ℕ → ℕ → List ℕ
numbers_of d kind x y = numbers_from 0 kind x y d.entries

-- these numbers, and zeros in the places that are left
abbrev pub held_of : List ℕ → Held
held_of numbers =
    record { count = length numbers; at = numbers ++ replicate (MOST_SEMI - length numbers) 0 }

-- an entry of that kind and pair has its carrier inside c
abbrev pub IsCovered : StoreData → Kind → ℕ → ℕ → ℕ → Type 0
IsCovered d kind x y c =
    (i : ℕ) × (a : Entry) × (slice_get d.entries i ≡ Some a) × (is_of kind x y a ≡ true)
    × ((k : ℕ) → has a.carrier k ≡ true → has c k ≡ true)

-- an entry of the same kind and pair has its carrier inside the entry's
abbrev pub IsDominated : StoreData → Entry → Type 0
IsDominated d entry = IsCovered d entry.kind entry.x entry.y entry.carrier

-- the pair has its full number of entries of that kind; no store has more
abbrev pub IsPairFull : StoreData → Kind → ℕ → ℕ → Type 0
IsPairFull d kind x y = most_of kind ≤ count_by (is_of kind x y) d.entries

-- the store with the entry at its end
abbrev pub with_entry : StoreData → Entry → StoreData
with_entry d entry = record d { entries = d.entries ++ entry ∷ [] }

-- the entry may be added: it is valid, and it follows from entries of the store
abbrev pub MayBeAdded : StoreData → Entry → Type 0
MayBeAdded d entry = IsValid d.elements entry × FollowsFrom d.elements d.entries entry

-- the entry is what the rules of AND give of the entries with these numbers
abbrev pub GivesAnd : StoreData → ℕ → ℕ → Entry → Type 0
GivesAnd d i j entry =
    (a b : Entry) (x u y : ℕ) → AreAt d.entries (i ∷ j ∷ []) (a ∷ b ∷ [])
    → AndRule d.elements a b x u y → IsAndOf d.elements a b x u y entry

-- the rule of OR applies to the entries with these numbers
abbrev pub CanOr : StoreData → List ℕ → Type 0
CanOr d numbers =
    (ways : List Entry) × (x : ℕ) × (y : ℕ) × AreAt d.entries numbers ways × OrRule ways x y

-- what stands after an answer: one entry more, or the store as before
abbrev pub after_put : StoreData → Entry → Put → StoreData
after_put d entry (Added n) = with_entry d entry
after_put d entry Dominated = d
after_put d entry PairFull = d

-- each entry is valid, and follows from earlier ones
pub record IsSound (d : StoreData) : Type 0 where
  pub valid : (i : ℕ) (a : Entry) → slice_get d.entries i ≡ Some a → IsValid d.elements a
  pub follows : (i : ℕ) (a : Entry) → slice_get d.entries i ≡ Some a
      → FollowsBy d.elements (take i d.entries) a a.cause

-- each entry is true
abbrev pub AreTrue : StoreData → Type 0
AreTrue d = (i : ℕ) (a : Entry) → slice_get d.entries i ≡ Some a → IsTrueEntry d.elements a

-- each pair has at most its full number of entries
abbrev pub AreFew : StoreData → Type 0
AreFew d = (kind : Kind) (x y : ℕ) → length (numbers_of d kind x y) ≤ most_of kind
