-- The opening words.
use Rattle.std.specs.Prelude.{◌≡◌, ℕ, ◌+◌, ◌-◌, ◌<◌, ◌==◌, ◌&&◌, if◌then◌else◌, List, [], ◌∷◌}
use Rattle.std.specs.Prelude.{length, map, slice_index}
use Rattle.tree_words.specs.Settings.{Setting}
use Rattle.tree_words.specs.Words.{root_at, area_at, end_of}
use Rattle.tree_words.specs.Blocks.{LinkedBlock, block_size, size, covers, is_header_or_move}
use Rattle.tree_words.specs.Blocks.{header_or_move}
use Rattle.tree_words.specs.Complete.{HasEmpties, HaveNodes, Linked, allowed_cells, set_of}
use Rattle.tree_words.specs.declared.layout.TheConstants.{NEXT_AT, LINK_WORD}
use Rattle.std.specs.List.{range_with_len}
use Rattle.play_out.specs.Fills.{empties_of}

-- the root's block, if the empty cells of the board are this set
abbrev pub root_block : Setting → ℕ → LinkedBlock
root_block s empties =
    record { start = area_at s; parent = root_at s; empties = empties; cells = allowed_cells s }

-- NEXT of the opening words: the word after the root's block, which begins the area
abbrev pub opening_next : Setting → ℕ
opening_next s = area_at s + block_size (length (allowed_cells s))

-- word i: NEXT is the word after the root's block, the root's link names it, its header and moves
-- stand there, and each other word is 0
abbrev pub opening_word : Setting → ℕ → ℕ → ℕ
opening_word s empties i = let b = root_block s empties in
    if i == NEXT_AT then b.start + size b
    else (if i == root_at s + LINK_WORD then b.start
    else (if covers i b && is_header_or_move (i - b.start) then header_or_move b (i - b.start)
    else 0))

-- the opening words of a setting
pub record AreOpening (s : Setting) (words : List ℕ) : Type 0 where
  pub long : length words ≡ end_of s
  pub empties : ℕ
  pub set : HasEmpties empties s.board
  pub each : (i : ℕ) → i < end_of s → slice_index words i ≡ opening_word s empties i

-- the opening words, as a function of the setting
unfoldable pub opening_words : Setting → List ℕ
opening_words s = map (opening_word s (set_of (empties_of s.board))) (range_with_len 0 (end_of s))

-- the words show one block, the root's, which has a node
pub record ShowRootBlock (s : Setting) (words : List ℕ) : Type 0 where
  pub linked : Linked s words (root_block s (set_of (empties_of s.board)) ∷ [])
  pub nodes : HaveNodes (root_block s (set_of (empties_of s.board)) ∷ [])
