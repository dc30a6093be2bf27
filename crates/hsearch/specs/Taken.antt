-- Stores on their way to a report. Only private clauses cite this.
use Rattle.std.specs.Prelude.{◌≡◌, ℕ, ◌<◌, Bool, true, false, List, [], ◌∷◌, ◌++◌, Some, length}
use Rattle.std.specs.Prelude.{slice_index, slice_index_or}
use Rattle.std.specs.List.{Contains, slice_get}
use Rattle.hex_board.specs.Places.{is_near}
use Rattle.conn_store.specs.Rules.{AreAt}
use Rattle.conn_store.specs.Stores.{IsCovered, StoreData}
use Rattle.conn_store.specs.declared.entries.Entry.{Entry}
use Rattle.conn_store.specs.declared.entries.Kind.TheVariants.{Full}
use Rattle.hsearch.specs.Closed.{SettlesAnd, SettlesOr}

-- f is the store d with more entries at its end
pub record Extends (d f : StoreData) : Type 0 where
  pub elements : f.elements ≡ d.elements
  pub entries : (more : List Entry) × (f.entries ≡ d.entries ++ more)

-- what the rules of AND give of entries i and j is answered
abbrev pub IsAndSettled : StoreData → ℕ → ℕ → Type 0
IsAndSettled d i j =
    (a b : Entry) (x u y : ℕ) → AreAt d.entries (i ∷ j ∷ []) (a ∷ b ∷ []) → SettlesAnd d a b x u y

-- the same if the middle is u
abbrev pub IsAndSettledOver : StoreData → ℕ → ℕ → ℕ → Type 0
IsAndSettledOver d i j u =
    (a b : Entry) (x y : ℕ) → AreAt d.entries (i ∷ j ∷ []) (a ∷ b ∷ []) → SettlesAnd d a b x u y

-- what the rule of OR gives of the entries with these numbers is answered
abbrev pub IsOrSettled : StoreData → List ℕ → Type 0
IsOrSettled d numbers =
    (ways : List Entry) (x y : ℕ) → AreAt d.entries numbers ways → SettlesOr d ways x y

-- entry i was taken
abbrev pub IsMarked : List Bool → ℕ → Type 0
IsMarked taken i = slice_index_or taken i false ≡ true

-- what the rule of OR gives of entry n and one of those among the first m that were taken is
-- answered
abbrev pub AreTwosSettled : StoreData → ℕ → List Bool → ℕ → Type 0
AreTwosSettled d m taken n = (i : ℕ) → i < m → IsMarked taken i → IsOrSettled d (n ∷ i ∷ [])

-- the same of entry n and any two of those
abbrev pub AreThreesSettled : StoreData → ℕ → List Bool → ℕ → Type 0
AreThreesSettled d m taken n = (i j : ℕ) → i < m → j < m → IsMarked taken i → IsMarked taken j
    → IsOrSettled d (n ∷ i ∷ j ∷ [])

-- the same of entry n, the number at this place of a list, and one at a place before it that was
-- taken
abbrev pub AreThirdsSettled : StoreData → ℕ → List ℕ → ℕ → List Bool → Type 0
AreThirdsSettled d n list place taken = (q : ℕ) → q < place → IsMarked taken (slice_index list q)
    → IsOrSettled d (n ∷ slice_index list place ∷ slice_index list q ∷ [])

-- what the rules give of entry n and of those among the first m entries that were taken is answered
pub record IsCombined (d : StoreData) (m : ℕ) (taken : List Bool) (n : ℕ) : Type 0 where
  pub ands : (i : ℕ) → i < m → IsMarked taken i → IsAndSettled d n i
  pub twos : AreTwosSettled d m taken n
  pub threes : AreThreesSettled d m taken n

-- w marks what v marks
abbrev pub IsGrown : List Bool → List Bool → Type 0
IsGrown v w = (i : ℕ) → slice_index_or w i false ≡ slice_index_or v i false

-- each entry that is not marked as taken waits
abbrev pub AreMarked : StoreData → List Bool → List ℕ → Type 0
AreMarked d taken waiting =
    (i : ℕ) → i < length d.entries → slice_index_or taken i false ≡ false → Contains waiting i

-- entry i does not wait
abbrev pub IsTaken : StoreData → List ℕ → ℕ → Type 0
IsTaken d waiting i = (i < length d.entries) × (¬ Contains waiting i)

-- what the rules give of the entries that do not wait is answered
pub record AreTaken (d : StoreData) (waiting : List ℕ) : Type 0 where
  pub ands : (i j : ℕ) → IsTaken d waiting i → IsTaken d waiting j → IsAndSettled d i j
  pub twos : (i j : ℕ) → IsTaken d waiting i → IsTaken d waiting j → IsOrSettled d (i ∷ j ∷ [])
  pub threes : (i j k : ℕ) → IsTaken d waiting i → IsTaken d waiting j → IsTaken d waiting k
      → IsOrSettled d (i ∷ j ∷ k ∷ [])

-- each entry has the empty carrier
abbrev pub AreBare : StoreData → Type 0
AreBare d = (i : ℕ) (a : Entry) → slice_get d.entries i ≡ Some a → a.carrier ≡ 0

-- of the pairs of an element below y that lie side by side each has an entry with the empty carrier
abbrev pub AreNearBelow : StoreData → ℕ → Type 0
AreNearBelow d n =
    (x y : ℕ) → x < y → y < n → is_near d.elements x y ≡ true → IsCovered d Full x y 0

-- entry n is of elements x and y
abbrev pub IsOfPair : StoreData → ℕ → ℕ → ℕ → Type 0
IsOfPair d n x y = (a : Entry) → slice_get d.entries n ≡ Some a → (a.x ≡ x) × (a.y ≡ y)
