-- The writes of a new block. No clause of a public call cites this.
use Rattle.std.specs.Prelude.{◌≡◌, ℕ, ◌+◌, ◌-◌, ◌≤◌, ◌&&◌, if◌then◌else◌, true, false, List, length}
use Rattle.std.specs.Prelude.{slice_index, slice_set}
use Rattle.tree_words.specs.Settings.{Setting}
use Rattle.tree_words.specs.Words.{next_in, tally_in}
use Rattle.tree_words.specs.Blocks.{LinkedBlock, covers, is_header_or_move, header_or_move}
use Rattle.tree_words.specs.Complete.{HasEmpties}
use Rattle.tree_words.specs.Paths.{NodeState}
use Rattle.tree_words.specs.Sequence.{gets_block, next_after}
use Rattle.play_out.specs.Fills.{empties_of}
use Rattle.tree_words.specs.declared.layout.TheConstants.{LINK_WORD, NEXT_AT, TICKET_AT}

-- the block below a leaf of this spot: it begins at NEXT
abbrev pub block_below : ℕ → ℕ → ℕ → NodeState → LinkedBlock
block_below next leaf empties p =
    record { start = next; parent = leaf; empties = empties; cells = empties_of p.board }

-- the block is written, its parent's link names it, and no other word changes
pub record LinksBlock (b : LinkedBlock) (before after : List ℕ) : Type 0 where
  pub long : length after ≡ length before
  pub link : slice_index after (b.parent + LINK_WORD) ≡ b.start
  pub each : (i : ℕ) → (i ≡ b.parent + LINK_WORD → ⊥)
      → slice_index after i
      ≡ (if covers i b && is_header_or_move (i - b.start) then header_or_move b (i - b.start)
      else slice_index before i)

-- a block with the empty cells of this spot is written so
abbrev pub LinksBelow : ℕ → ℕ → NodeState → List ℕ → List ℕ → Type 0
LinksBelow start leaf p before after =
    (empties : ℕ) × HasEmpties empties p.board
    × LinksBlock (block_below start leaf empties p) before after

-- The leaf of this spot gets its block if it is to have one, and NEXT grows if it asks for
-- one; no other word changes.
pub record Grows (s : Setting) (leaf : ℕ) (p : NodeState) (before after : List ℕ) : Type 0 where
  pub next : next_in after ≡ next_after s (next_in before) (tally_in before leaf) p
  pub made : gets_block s (next_in before) (tally_in before leaf) p ≡ true
      → let next = next_after s (next_in before) (tally_in before leaf) p in
      LinksBelow (next_in before) leaf p (slice_set before NEXT_AT next) after
  pub none : gets_block s (next_in before) (tally_in before leaf) p ≡ false
      → (length after ≡ length before)
      × ((i : ℕ) → TICKET_AT ≤ i → slice_index after i ≡ slice_index before i)
