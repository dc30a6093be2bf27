-- The full entries that were taken, listed for each element. Only private clauses cite this.
use Rattle.std.specs.Prelude.{◌≡◌, ℕ, ◌⊎◌, ◌<◌, ◌≤◌, Bool, List, [], ◌∷◌, ◌++◌, Some, length}
use Rattle.std.specs.Prelude.{slice_index_or, slice_set}
use Rattle.std.specs.List.{Contains, slice_get}
use Rattle.hex_board.specs.Elements.{element_count}
use Rattle.conn_store.specs.Over.{IsFullOf}
use Rattle.conn_store.specs.Stores.{StoreData}
use Rattle.conn_store.specs.declared.entries.Entry.{Entry}
use Rattle.hsearch.specs.Taken.{IsMarked}

-- entry n is a full one of x and u
abbrev pub IsFullAt : StoreData → ℕ → ℕ → ℕ → Type 0
IsFullAt d n x u = (a : Entry) → slice_get d.entries n ≡ Some a → IsFullOf a x u

-- number i is listed for element u
abbrev pub Lists : List (List ℕ) → ℕ → ℕ → Type 0
Lists lists u i = Contains (slice_index_or lists u []) i

-- each element has a list, of numbers of entries; each full entry that was taken is listed for both
-- of its elements
pub record AreListed (d : StoreData) (taken : List Bool) (lists : List (List ℕ)) : Type 0 where
  pub count : element_count d.elements ≤ length lists
  pub within : (u i : ℕ) → Lists lists u i → i < length d.entries
  pub listed : (i x u : ℕ) (a : Entry) → slice_get d.entries i ≡ Some a → IsFullOf a x u
      → IsMarked taken i → Lists lists u i

-- w is v with number n at the end of the list of element u
abbrev pub IsListedAt : List (List ℕ) → ℕ → ℕ → List (List ℕ) → Type 0
IsListedAt v u n w = w ≡ slice_set v u (slice_index_or v u [] ++ n ∷ [])

-- w is v with number n listed for both elements of the entry, if it is full
pub record IsEnlisted (v : List (List ℕ)) (n : ℕ) (a : Entry) (w : List (List ℕ)) : Type 0 where
  pub count : length w ≡ length v
  pub kept : (u i : ℕ) → Lists v u i → Lists w u i
  pub others : (u i : ℕ) → Lists w u i → Lists v u i ⊎ (i ≡ n)
  pub full : (x u : ℕ) → IsFullOf a x u → Lists w u n
