-- An index with one slot for four words. No clause of a public call cites this.
use Rattle.std.specs.Prelude.{◌≡◌, ◌≢◌, ◌⊎◌, ℕ, zero, suc, ◌+◌, ◌*◌, ◌/◌, ◌%◌, ◌<◌, ◌≤◌, ◌==◌}
use Rattle.std.specs.Prelude.{if◌then◌else◌}
use Rattle.std.specs.Prelude.{List, [], ◌∷◌, length, slice_index}

-- the number of word i: its slot has four times the number and the place of the word
abbrev pub entry_in : List ℕ → ℕ → ℕ
entry_in slots i = let n = slice_index slots (i / 4) in if n % 4 == i % 4 then n / 4 else 0

-- the numbers of n words, from word i on
unfoldable pub entries_from : ℕ → ℕ → List ℕ → List ℕ
entries_from i zero slots = []
entries_from i (suc n) slots = entry_in slots i ∷ entries_from (i + 1) n slots

-- there are slots for so many words, and each that is not 0 has a number and is a word's of these
pub record AreSlots (len : ℕ) (slots : List ℕ) : Type 0 where
  pub many : len < 4 * length slots
  pub used : (k : ℕ) → (slice_index slots k ≡ 0)
      ⊎ ((4 ≤ slice_index slots k) × (4 * k + slice_index slots k % 4 < len))

-- another word, fewer than four from this one, has a number
abbrev pub IsNearTaken : List ℕ → ℕ → Type 0
IsNearTaken index at = (j : ℕ) × (j ≢ at) × (j < at + 4) × (at < j + 4) × (0 < slice_index index j)
