-- Numbers that wait in queues. Only private clauses cite this.
use Rattle.std.specs.Prelude.{◌≡◌, ℕ, ◌+◌, ◌-◌, ◌<◌, ◌≤◌, ◌⊎◌, List, [], ◌∷◌, ◌++◌, length}
use Rattle.std.specs.Prelude.{slice_index_or}
use Rattle.std.specs.List.{Contains}
use Rattle.hex_cells.specs.declared.board_size.TheConstants.{MOST_CELLS}

-- w is the list v with n at some place
abbrev pub IsWith : List ℕ → ℕ → List ℕ → Type 0
IsWith v n w =
    (front : List ℕ) × (back : List ℕ) × (v ≡ front ++ back) × (w ≡ front ++ n ∷ back)

-- w has what v has and the numbers from m up to n, and nothing else, and so many more
pub record IsWithRange (v w : List ℕ) (m n : ℕ) : Type 0 where
  pub kept : (i : ℕ) → Contains v i → Contains w i
  pub added : (i : ℕ) → m ≤ i → i < n → Contains w i
  pub others : (i : ℕ) → Contains w i → Contains v i ⊎ ((m ≤ i) × (i < n))
  pub count : length w ≡ length v + (n - m)

-- of the queues at the places from m up to n each is empty
abbrev pub AreEmpty : List (List ℕ) → ℕ → ℕ → Type 0
AreEmpty queues m n = (k : ℕ) → m ≤ k → k < n → slice_index_or queues k [] ≡ []

-- a queue for each size of a carrier; those of less than the least size are empty
pub record IsQueued (queues : List (List ℕ)) (least : ℕ) : Type 0 where
  pub sizes : length queues ≡ MOST_CELLS + 1
  pub within : least ≤ length queues
  pub empty : AreEmpty queues 0 least

-- n is the first place from m on at which a queue has a number, or there is none
pub record AreFilledFrom (queues : List (List ℕ)) (m n : ℕ) : Type 0 where
  pub empty : AreEmpty queues m n
  pub within : n ≤ length queues
  pub filled : n < length queues → ¬ (slice_index_or queues n [] ≡ [])
