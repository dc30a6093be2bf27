-- What a worker's table has of what its seat owes. No clause of a public call cites this.
use Rattle.std.specs.Prelude.{◌≡◌, ◌⊎◌, ℕ, ◌+◌, ◌*◌, ◌/◌, ◌%◌, ◌<◌, ◌≤◌, ◌==◌, if◌then◌else◌}
use Rattle.std.specs.Prelude.{List, length, slice_index}
use Rattle.tree_words.specs.declared.layout.TheConstants.{NODE_WORDS, VISIT}
use Rattle.tree_words.specs.Settings.{Setting}
use Rattle.arena_rule.specs.Adds.{CountAdd, amount_at}
use Rattle.arena_rule.specs.Owing.{owed_part}
use Rattle.search_team.specs.declared.holding.Sums.{Sums}
use Rattle.search_team.specs.declared.holding.TheConstants.{SLOTS, MOST_HELD}

-- the slot of a seen word
abbrev pub slot_of : ℕ → ℕ
slot_of w = w / NODE_WORDS % SLOTS

-- the sum that the table has for the word
abbrev pub sum_at : Sums → ℕ → ℕ
sum_at t w = if slice_index t.words (slot_of w) == w then slice_index t.sums (slot_of w) else 0

-- The table has for each word what is owed to it: a sum stands in the slot of its word. A sum has
-- at most one visit more than `most`, which is at most what a seat of the tree may owe.
pub record HoldsDebts (s : Setting) (t : Sums) (owed : List CountAdd) : Type 0 where
  pub words : length t.words ≡ SLOTS
  pub sums : length t.sums ≡ SLOTS
  pub most : t.most ≤ MOST_HELD
  pub part : t.most ≤ owed_part s
  pub few : (i : ℕ) → slice_index t.sums i < t.most + 2 * VISIT
  pub placed : (i : ℕ) → (slice_index t.sums i ≡ 0) ⊎ (slot_of (slice_index t.words i) ≡ i)
  pub owes : (w : ℕ) → amount_at w owed ≡ sum_at t w
