-- The fields of a text, one by one. No clause of a public call cites this.
use Rattle.std.specs.Prelude.{◌≡◌, ℕ, ◌+◌, ◌<◌, ◌≤◌, ◌^◌, List, slice_index}
use Rattle.hex_cells.specs.declared.board_size.TheConstants.{MOST_CELLS}
use Rattle.hex_board.specs.Positions.{IsPosition, Position}
use Rattle.tree_words.specs.Settings.{AreInRange, IsSetting, Setting}
use Rattle.tree_words.specs.declared.settings.Knobs.{Knobs}
use Rattle.trace_audit.specs.Traces.{low_word, high_word, colour_number}
use Rattle.trace_audit.specs.declared.places.TheConstants.{ALLOWED_FIELD, BLACK_FIELD}
use Rattle.trace_audit.specs.declared.places.TheConstants.{EXPAND_FIELD, PLAYER_FIELD}
use Rattle.trace_audit.specs.declared.places.TheConstants.{PLAYOUTS_FIELD, SEED_FIELD}
use Rattle.trace_audit.specs.declared.places.TheConstants.{SIZE_FIELD, WEIGHT_FIELD, WHITE_FIELD}
use Rattle.trace_audit.specs.declared.places.TheConstants.{WORDS_FIELD, WORKERS_FIELD}

-- the two words are those of the set of cells
abbrev pub AreOfSet : ℕ → ℕ → ℕ → Type 0
AreOfSet low high set = (low ≡ low_word set) × (high ≡ high_word set)

-- the field of this place and the next are those of the set of cells
abbrev pub TellSet : List ℕ → ℕ → ℕ → Type 0
TellSet fields at set = AreOfSet (slice_index fields at) (slice_index fields (at + 1)) set

-- the two words are those of no set of cells
abbrev pub AreOfNoSet : ℕ → ℕ → Type 0
AreOfNoSet low high = (set : ℕ) → set < 2 ^ MOST_CELLS → ¬ (AreOfSet low high set)

-- the number is in the range
abbrev pub IsWithin : ℕ → ℕ → ℕ → Type 0
IsWithin least most n = (least ≤ n) × (n ≤ most)

-- the fields tell the board
pub record TellBoard (fields : List ℕ) (p : Position) : Type 0 where
  pub size : slice_index fields SIZE_FIELD ≡ p.size
  pub black : TellSet fields BLACK_FIELD p.black
  pub white : TellSet fields WHITE_FIELD p.white

-- the fields tell no board
abbrev pub TellNoBoard : List ℕ → Type 0
TellNoBoard fields =
    (p : Position) → IsPosition p.size p.black p.white → ¬ (TellBoard fields p)

-- the fields tell the knobs
pub record TellKnobs (fields : List ℕ) (k : Knobs) : Type 0 where
  pub workers : slice_index fields WORKERS_FIELD ≡ k.workers
  pub playouts : slice_index fields PLAYOUTS_FIELD ≡ k.playouts
  pub seed : slice_index fields SEED_FIELD ≡ k.seed
  pub words : slice_index fields WORDS_FIELD ≡ k.words
  pub expand : slice_index fields EXPAND_FIELD ≡ k.expand
  pub weight : slice_index fields WEIGHT_FIELD ≡ k.weight

-- the fields tell no knobs that are in their ranges
abbrev pub TellNoKnobs : List ℕ → Type 0
TellNoKnobs fields = (k : Knobs) → AreInRange k → ¬ (TellKnobs fields k)

-- the fields tell the shape
pub record TellShape (fields : List ℕ) (s : Setting) : Type 0 where
  pub board : TellBoard fields s.board
  pub player : slice_index fields PLAYER_FIELD ≡ colour_number s.player
  pub allowed : TellSet fields ALLOWED_FIELD s.allowed
  pub knobs : TellKnobs fields s.knobs

-- the fields tell no shape that can be searched
abbrev pub TellNoShape : List ℕ → Type 0
TellNoShape fields = (s : Setting) → IsSetting s → ¬ (TellShape fields s)
