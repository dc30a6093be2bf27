-- The parts of the arena rule that bound the growth of the tree.
use Rattle.std.specs.Prelude.{◌≡◌, ◌⊎◌, ℕ, ◌+◌, ◌*◌, ◌≤◌, ◌==◌, ◌&&◌, not, if◌then◌else◌, true}
use Rattle.std.specs.Prelude.{List, sum_by, Option, Some, None}
use Rattle.hex_board.specs.Positions.{is_empty_at}
use Rattle.tree_words.specs.Settings.{Setting}
use Rattle.tree_words.specs.Words.{root_at, end_of, next_in, tally_in, visits_in}
use Rattle.tree_words.specs.Blocks.{LinkedBlock, In, has_node, is_node, link_of, size}
use Rattle.tree_words.specs.Paths.{node_board}
use Rattle.tree_words.specs.Opening.{opening_next}
use Rattle.tree_words.specs.declared.layout.TheConstants.{TALLY_WORD, SEEN_WORD, MOST_BLOCK_WORDS}
use Rattle.arena_rule.specs.Views.{SeatView, HeldBlock}
use Rattle.arena_rule.specs.Lookups.{is_known, load_of, recorded_through, walks_through, walks_at}
use Rattle.arena_rule.specs.Parts.{Each, full_width}

-- what a view has loaded: tallies and seen words of known nodes; a tally's visits are now at least
-- those loaded, and these are at least the view's recorded walks through the node
pub record HasLoaded (words : List ℕ) (v : SeatView) : Type 0 where
  pub counts : (w n : ℕ) → load_of v.loads w ≡ Some n
      → (x : ℕ) × (is_known v x ≡ true) × ((w ≡ x + TALLY_WORD) ⊎ (w ≡ x + SEEN_WORD))
  pub less : (x n : ℕ) → is_known v x ≡ true → load_of v.loads (x + TALLY_WORD) ≡ Some n
      → visits_in n ≤ (tally_in words x).visits
  pub own : (x n : ℕ) → is_known v x ≡ true → load_of v.loads (x + TALLY_WORD) ≡ Some n
      → recorded_through v x ≤ visits_in n

-- Loaded: so is it with each view
abbrev pub AreLoads : List ℕ → List SeatView → Type 0
AreLoads words views = Each (HasLoaded words) views

-- FirstVisits: in a block that has a child without visits, the walks of a view that go through a
-- child are at most its width
abbrev pub FirstVisits : List LinkedBlock → List ℕ → List SeatView → Type 0
FirstVisits bs words views = (b : LinkedBlock) (x y : ℕ)
    → In b bs → has_node b x ≡ true → has_node b y ≡ true → (tally_in words y).visits ≡ 0
    → Each (λ v. walks_through v x ≤ v.width) views

-- LeafBound: while NEXT is at most the area's end, the walks of a view whose leaf is a given node
-- with an empty cell on its board are at most its width times T
abbrev pub LeafBound : Setting → List LinkedBlock → List ℕ → List SeatView → Type 0
LeafBound s bs words views = next_in words ≤ end_of s → (x c : ℕ) → is_node (root_at s) bs x ≡ true
    → is_empty_at (node_board s bs x) c ≡ true
    → Each (λ v. walks_at v x ≤ v.width * s.knobs.expand) views

-- the words of the linked blocks whose links the view knows, but the root's, each block counted
-- once
abbrev pub words_known : Setting → List LinkedBlock → SeatView → ℕ
words_known s bs v = sum_by (λ b.
    if not (b.parent == root_at s) && not (link_of v.known b.parent == 0) then size b else 0) bs

-- the words that the view holds
abbrev pub words_held : Option HeldBlock → ℕ
words_held None = 0
words_held (Some h) = h.size

abbrev pub claimed_of : SeatView → ℕ
claimed_of v = v.claimed

-- Room: NEXT is at most the end of the root's block, which begins the area, what all views claimed,
-- and a largest block for each worker of the full views; and a view claimed at most its width times
-- the words of the blocks that it knows, and what it holds
pub record Room (s : Setting) (bs : List LinkedBlock)
    (words : List ℕ) (views : List SeatView) : Type 0 where
  pub next : next_in words
      ≤ opening_next s + sum_by claimed_of views + MOST_BLOCK_WORDS * sum_by full_width views
  pub claimed : Each (λ v. v.claimed ≤ v.width * words_known s bs v + words_held v.held) views
