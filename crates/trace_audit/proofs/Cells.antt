-- The nodes of a linked block: their cells, and where they lead.
use Rattle.std.proofs.Common.{◌≡◌, ℕ, ◌+◌, ◌*◌, ◌<◌, ◌≤◌, true, List, length, ap, ◌∙◌, arith}
use Rattle.std.specs.Prelude.{slice_index}
use Rattle.std.proofs.Math.Nat.{mul-le-mul}
use Rattle.hex_board.specs.Positions.{is_empty_at}
use Rattle.hex_board.proofs.Placed.{empty_on}
use Rattle.tree_words.specs.Settings.{Setting, IsSetting}
use Rattle.tree_words.specs.Words.{root_at, cell_in, place_in, move_word}
use Rattle.tree_words.specs.Blocks.{LinkedBlock, has_node, place, cell_at, In, InOrder}
use Rattle.tree_words.specs.Paths.{root_state, state_after, node_state, node_board}
use Rattle.tree_words.specs.Complete.{AreComplete, cells_below}
use Rattle.tree_words.proofs.Blocks.BlockLaws.{has-here, move-stays, move-word}
use Rattle.tree_words.proofs.Blocks.GameLaws.{whole-in, up-in}
use Rattle.tree_words.proofs.Boards.EmptyLaws.{below-empty, cell-of-move}
use Rattle.tree_words.proofs.Walks.Asking.{spot-size}
use Rattle.trace_audit.specs.Tables.{ShowBlock}

-- what a node's move word says
pub record IsMove (s : Setting) (words : List ℕ) (bs : List LinkedBlock) (b : LinkedBlock)
    (k : ℕ) : Type 0 where
  pub cell : cell_in (slice_index words (b.start + 4 + 4 * k)) ≡ cell_at b k
  pub place : place_in (slice_index words (b.start + 4 + 4 * k)) ≡ k
  pub empty : is_empty_at (node_board s bs b.parent) (cell_at b k) ≡ true
  pub small : cell_at b k < 121
  pub node : has_node b (b.start + 4 + 4 * k) ≡ true
  pub state : node_state s bs (b.start + 4 + 4 * k) ≡ state_after (node_state s bs b.parent)
      (cell_at b k)

pub move_is : (s : Setting) (words : List ℕ) (next : ℕ) (bs : List LinkedBlock) (b : LinkedBlock)
    (k : ℕ) → IsSetting s → InOrder (root_at s) bs → AreComplete s next bs → In b bs
    → ShowBlock words b → k < length b.cells
    → IsMove s words bs b k
move_is s words next bs b k h order complete i shown l =
    let at : b.start + 4 + 4 * k ≡ b.start + (4 + 4 * k) = omega arith in
    let word : slice_index words (b.start + 4 + 4 * k) ≡ move_word k (cell_at b k)
    = ap (slice_index words) at ∙ shown (4 + 4 * k) (omega (arith, l)) (move-stays k)
    ∙ move-word b k in
    let w = whole-in s next bs b order complete i in
    let cells : b.cells ≡ cells_below s bs b.parent = w.cells in
    let long = ap length cells in
    let empty : is_empty_at (node_board s bs b.parent) (cell_at b k) ≡ true
    = ap (λ (c : List ℕ). is_empty_at (node_board s bs b.parent) (slice_index c k)) cells
    ∙ below-empty s bs b.parent k h order (omega (arith, l, long)) in
    let on = empty_on (node_board s bs b.parent) (cell_at b k) empty in
    let size : (node_board s bs b.parent).size ≤ 11 = let most = h.position.most in
    omega (arith, spot-size s bs b.parent, most) in
    let most : (node_board s bs b.parent).size * (node_board s bs b.parent).size ≤ 11 * 11
    = mul-le-mul size size in
    let small : cell_at b k < 121 = omega (arith, on, most) in
    let here : has_node b (b.start + 4 + 4 * k) ≡ true = ap (has_node b) at ∙ has-here b k l in
    let number : place b (b.start + 4 + 4 * k) ≡ k = omega arith in
    record {
      cell = ap cell_in word ∙ cell-of-move k (cell_at b k) (omega (arith, small));
      place = ap place_in word ∙ omega (arith, small);
      empty = empty;
      small = small;
      node = here;
      state = up-in (root_state s) (λ c z above. state_after above (cell_at c (place c z)))
          (root_at s) bs b (b.start + 4 + 4 * k) order i here
          ∙ ap (λ n. state_after (node_state s bs b.parent) (cell_at b n)) number;
    }
