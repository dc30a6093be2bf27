-- Where the root's block ends.
use Rattle.std.proofs.Common.{◌≡◌, ℕ, ◌+◌, ◌<◌, Bool, cond, List, [], length, refl, ap, ◌∙◌, arith}
use Rattle.std.proofs.lemmas.Bool.{eq-eqb}
use Rattle.play_out.specs.Fills.{empties_of}
use Rattle.tree_words.specs.Settings.{Setting, IsSetting}
use Rattle.tree_words.specs.Words.{root_at, area_at, link_in, nodes_in}
use Rattle.tree_words.specs.Blocks.{LinkedBlock, block_size, In}
use Rattle.tree_words.specs.Complete.{Linked, allowed_cells}
use Rattle.tree_words.specs.Growth.{root_end}
use Rattle.tree_words.specs.Opening.{opening_next}
use Rattle.tree_words.specs.Paths.{node_board}
use Rattle.tree_words.specs.Told.{told_block}
use Rattle.tree_words.proofs.Blocks.BlockLaws.{root_node}
use Rattle.tree_words.proofs.Blocks.Within.{told-real}

module _ (s : Setting) (words : List ℕ) (bs : List LinkedBlock) (set : IsSetting s)
    (linked : Linked s words bs) where
  -- the block that the root's link names has a node for each allowed cell
  pub root-nodes : (b : ℕ) → link_in words (root_at s) ≡ b → 0 < b
      → nodes_in words b ≡ length (allowed_cells s)
  root-nodes b link some =
      let here : In (told_block s [] (root_at s) b) bs
      = told-real s words bs [] (root_at s) b linked tt
      (root_node (root_at s) []) set.position.most link some in
      let cells : length (told_block s [] (root_at s) b).cells ≡ length (allowed_cells s)
      = ap (λ (t : Bool). length (cond t (allowed_cells s) (empties_of (node_board s [] (root_at s))))) (eq-eqb (root_at s) (root_at s) refl) in
      linked.shows.blocks (told_block s [] (root_at s) b) 3 here (omega arith) refl ∙ cells

  -- if it begins the area, it ends where the opening words' block does
  pub root-end-first : link_in words (root_at s) ≡ area_at s → root_end s words ≡ opening_next s
  root-end-first link =
      let nodes = root-nodes (area_at s) link (omega arith) in
      ap (λ (b : ℕ). b + block_size (nodes_in words b)) link
      ∙ ap (λ (n : ℕ). area_at s + block_size n) nodes
