-- The points of a closed tree, block by block. No clause of a public call cites this.
use Rattle.std.specs.Prelude.{◌≡◌, ℕ, ◌+◌, ◌*◌, ◌<◌, ◌≤◌, true, List, length, slice_index}
use Rattle.std.specs.Prelude.{slice_index_or, false, Bool, MatchBool}
use Rattle.hex_board.specs.Positions.{Position, is_empty_at, placed}
use Rattle.tree_words.specs.Settings.{Setting}
use Rattle.tree_words.specs.Words.{next_in, nodes_in, tally_in, seen_in, cell_in, node_at}
use Rattle.tree_words.specs.Blocks.{block_size}
use Rattle.tree_words.specs.Growth.{root_end}
use Rattle.tree_words.specs.declared.layout.TheConstants.{MOST_BLOCK_WORDS}
use Rattle.hex_cells.specs.declared.board_size.TheConstants.{MOST_CELLS}
use Rattle.trace_audit.specs.declared.sites.Site.{Site}
use Rattle.trace_audit.specs.declared.sites.Table.{Table}

-- the node at x has the same counts in both
abbrev pub AreSame : List ℕ → List ℕ → ℕ → Type 0
AreSame words sums x = (tally_in words x ≡ tally_in sums x) × (seen_in words x ≡ seen_in sums x)

-- the visits of the node of place k of the block at b
abbrev pub place_visits : List ℕ → ℕ → ℕ → ℕ
place_visits words b k = (tally_in words (node_at b k)).visits

-- the node of place k of the site's block is the leaf of at most so many records, if its board
-- has an empty cell
abbrev pub IsFrugal : List ℕ → List ℕ → Site → ℕ → ℕ → Type 0
IsFrugal words sums p most k = let x = node_at p.start k in
    (c : ℕ) → is_empty_at (placed p.board p.player (cell_in (slice_index words x))) c ≡ true
    → slice_index sums x ≤ most

-- NEXT is at most the end of the root's block, for each worker so many words, and for each worker
-- a largest block
abbrev pub IsNextBounded : Setting → List ℕ → ℕ → Type 0
IsNextBounded s words others = next_in words ≤ root_end s words + s.knobs.workers * others
    + MOST_BLOCK_WORDS * s.knobs.workers

-- if a node of the block at b has no visits, none has more than so many
abbrev pub IsFirst : List ℕ → ℕ → ℕ → Type 0
IsFirst words most b = (i j : ℕ) → i < nodes_in words b → j < nodes_in words b
    → place_visits words b j ≡ 0 → place_visits words b i ≤ most

-- each site of the table is so
abbrev pub EachSite : Table → (Site → Type 0) → Type 0
EachSite t P = (k : ℕ) (d : Site) → k < length t.sites.items
    → P (slice_index_or t.sites.items k d)

-- a site of the table is so
abbrev pub SomeSite : Table → (Site → Type 0) → Type 0
SomeSite t P = (k : ℕ) × (d : Site) × (k < length t.sites.items)
    × P (slice_index_or t.sites.items k d)

-- the site's block lies within the words
abbrev pub LiesWithin : List ℕ → Site → Type 0
LiesWithin words p = p.start + block_size (nodes_in words p.start) ≤ length words

-- the cells of the nodes of the site's block are empty on its board
abbrev pub HasCells : List ℕ → Site → Type 0
HasCells words p = (k : ℕ) → k < nodes_in words p.start
    → let cell = cell_in (slice_index words (node_at p.start k)) in
    (cell < MOST_CELLS) × (is_empty_at p.board cell ≡ true)

-- the counts of all nodes of the block at b are the sums
abbrev pub AreAllSame : List ℕ → List ℕ → ℕ → Type 0
AreAllSame words sums b = (k : ℕ) → k < nodes_in words b → AreSame words sums (node_at b k)

-- the counts of a node of the block at b are not the sums
abbrev pub IsSomeOther : List ℕ → List ℕ → ℕ → Type 0
IsSomeOther words sums b =
    (k : ℕ) × (k < nodes_in words b) × ¬ (AreSame words sums (node_at b k))

-- the counts of all nodes of the site's block are the sums
abbrev pub HasSums : List ℕ → List ℕ → Site → Type 0
HasSums words sums p = AreAllSame words sums p.start

-- each node of the site's block is the leaf of few records
abbrev pub AreFrugal : List ℕ → List ℕ → ℕ → Site → Type 0
AreFrugal words sums most p =
    (k : ℕ) → k < nodes_in words p.start → IsFrugal words sums p most k

-- a node of the site's block is the leaf of more records, though its board has an empty cell
abbrev pub IsSomeWasteful : List ℕ → List ℕ → ℕ → Site → Type 0
IsSomeWasteful words sums most p =
    (k : ℕ) × (k < nodes_in words p.start) × ¬ (IsFrugal words sums p most k)

-- a node of the block at b has no visits
abbrev pub IsSomeUnvisited : List ℕ → ℕ → Type 0
IsSomeUnvisited words b = (k : ℕ) × (k < nodes_in words b) × (place_visits words b k ≡ 0)

-- each node of the block at b has visits
abbrev pub AreVisited : List ℕ → ℕ → Type 0
AreVisited words b = (k : ℕ) → k < nodes_in words b → 0 < place_visits words b k

-- a node of the block at b has more visits than so many
abbrev pub IsSomeAbove : List ℕ → ℕ → ℕ → Type 0
IsSomeAbove words b most = (k : ℕ) × (k < nodes_in words b) × (most < place_visits words b k)

-- each node of the block at b has at most so many visits
abbrev pub AreUpTo : List ℕ → ℕ → ℕ → Type 0
AreUpTo words b most = (k : ℕ) → k < nodes_in words b → place_visits words b k ≤ most

-- the board has an empty cell
abbrev pub IsOpen : Position → Type 0
IsOpen p = (c : ℕ) × (is_empty_at p c ≡ true)

-- the board has no empty cell
abbrev pub IsFull : Position → Type 0
IsFull p = (c : ℕ) → is_empty_at p c ≡ false

-- the answer says whether each site of the table is so, or a site is not
abbrev pub TellsEach : Table → Bool → (Site → Type 0) → Type 0
TellsEach t answer P = MatchBool answer (EachSite t P) (SomeSite t (λ p. ¬ (P p)))
