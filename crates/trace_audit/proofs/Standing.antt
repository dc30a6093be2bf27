-- A block in the words, and the one that is written for comparison.
use Rattle.std.proofs.Common.{◌≡◌, ℕ, zero, suc, ◌+◌, ◌-◌, ◌*◌, ◌/◌, ◌%◌, ◌^◌, ◌<◌, ◌≤◌, Bool, true}
use Rattle.std.proofs.Common.{false, cond, List, length, refl, sym, ap, ◌∙◌, arith}
use Rattle.std.specs.Prelude.{slice_index, ◌&&◌, ◌==◌}
use Rattle.hex_cells.specs.Sets.{has}
use Rattle.hex_cells.proofs.Bits.{same_set}
use Rattle.hex_board.specs.Positions.{Position, is_empty_at}
use Rattle.play_out.specs.Fills.{empties_of}
use Rattle.tree_words.specs.Settings.{Setting}
use Rattle.tree_words.specs.Words.{root_at}
use Rattle.tree_words.specs.Blocks.{LinkedBlock, size, block_size, covers, header_or_move}
use Rattle.tree_words.specs.Blocks.{is_header_or_move}
use Rattle.tree_words.specs.Complete.{allowed_cells, set_of}
use Rattle.tree_words.specs.Writing.{WritesBlock, listed}
use Rattle.tree_words.proofs.Blocks.BlockLaws.{covers_if}
use Rattle.tree_words.proofs.Boards.RootLaws.{few_cells}
use Rattle.tree_words.proofs.Boards.EmptyLaws.{empties-listed}
use Rattle.tree_words.proofs.Boards.SetNumbers.{set_empties}
use Rattle.tree_words.proofs.NewBlocks.Openings.{allowed-listed}
use Rattle.trace_audit.specs.Tables.{block_at, ShowBlock}

-- header and moves go by the parent, the empty cells and the cells
pub head_same : (a b : LinkedBlock) (i : ℕ) → a.parent ≡ b.parent → a.empties ≡ b.empties
    → a.cells ≡ b.cells → header_or_move a i ≡ header_or_move b i
head_same a b zero p e c = p
head_same a b (suc zero) p e c = ap (λ (n : ℕ). n % 2 ^ 64) e
head_same a b (suc (suc zero)) p e c = ap (λ (n : ℕ). n / 2 ^ 64) e
head_same a b (suc (suc (suc zero))) p e c = ap length c
head_same a b (suc (suc (suc (suc i)))) p e c
    = ap (λ (l : List ℕ). 256 * (i / 4) + slice_index l (i / 4)) c

-- a board's listed cells are few
pub few_listed : (n set : ℕ) → n ≤ 11 → block_size (length (listed n set)) ≤ 488
few_listed n set l = let few = few_cells n (has set) l in omega (arith, few)

-- the cells of the block, at the root and below
pub cells_root : (s : Setting) (p : Position) (x set : ℕ) → p.size ≡ s.board.size → set ≡ s.allowed
    → (x == root_at s) ≡ true → listed p.size set ≡ (block_at s p x 0).cells
cells_root s p x set e a t = allowed-listed s p.size set e a
    ∙ sym (ap (λ (u : Bool). cond u (allowed_cells s) (empties_of p)) t)

pub cells_inner : (s : Setting) (p : Position) (x set : ℕ) → ((k : ℕ) → has set k ≡ is_empty_at p k)
    → (x == root_at s) ≡ false → listed p.size set ≡ (block_at s p x 0).cells
cells_inner s p x set e t = empties-listed set p e
    ∙ sym (ap (λ (u : Bool). cond u (allowed_cells s) (empties_of p)) t)

module _ (s : Setting) (p : Position) (x at e : ℕ) (cs before block : List ℕ)
    (empties : (k : ℕ) → has e k ≡ is_empty_at p k) (cells : cs ≡ (block_at s p x at).cells)
    (w : WritesBlock (record { start = 0; parent = x; empties = e; cells = cs }) before block) where
  -- what was written is the block's
  written_is : (i : ℕ) → i < size (block_at s p x at) → is_header_or_move i ≡ true
      → slice_index block i ≡ header_or_move (block_at s p x at) i
  written_is i l h =
      let made : LinkedBlock = record { start = 0; parent = x; empties = e; cells = cs } in
      let long : length cs ≡ length (block_at s p x at).cells = ap length cells in
      let in-block : covers i made ≡ true
      = covers_if i made (omega arith) (omega (arith, l, long)) in
      let same : e ≡ set_of (empties_of p)
      = same_set e (set_of (empties_of p)) (λ k. empties k ∙ sym (set_empties p k)) in
      let none : i - 0 ≡ i = omega arith in
      w.each i
      ∙ (λ j. cond (in-block j && is_header_or_move (none j)) (header_or_move made (none j)) (slice_index before i))
      ∙ ap (λ (t : Bool). cond t (header_or_move made i) (slice_index before i)) h
      ∙ head_same made (block_at s p x at) i refl same cells

  pub stands_is : (words : List ℕ)
      → ((i : ℕ) → i < size (block_at s p x at) → is_header_or_move i ≡ true → slice_index words (at + i) ≡ slice_index
      block i) → ShowBlock words (block_at s p x at)
  stands_is words h i l t = h i l t ∙ written_is i l t

  pub stands_not : (words : List ℕ) → ShowBlock words (block_at s p x at) → (i : ℕ)
      → i < size (block_at s p x at) → is_header_or_move i ≡ true
      → slice_index words (at + i) ≡ slice_index block i
  stands_not words h i l t = h i l t ∙ sym (written_is i l t)
