-- The opening words.
use Rattle.std.proofs.Common.{◌≡◌, ℕ, ◌+◌, ◌-◌, ◌*◌, ◌≤◌, Bool, cond, List, length, replicate}
use Rattle.std.proofs.Common.{get_or, get_or-set_same, get_or-set_other, sym, ap, ◌∙◌, subst}
use Rattle.std.proofs.Common.{⊎_elim, arith}
use Rattle.std.specs.Prelude.{◌==◌, ◌&&◌}
use Rattle.std.specs.List.{filter}
use Rattle.std.proofs.Math.ListN.{set as set_word, length-set}
use Rattle.std.proofs.lemmas.List.{length-replicate, get_or-replicate}
use Rattle.std.proofs.lemmas.Bool.{cases_eq, eq-eqb, ne_eqb}
use Rattle.hex_cells.specs.Sets.{has as has_cell}
use Rattle.hex_board.specs.Joined.{cells_of}
use Rattle.tree_words.specs.Settings.{Setting, IsSetting}
use Rattle.tree_words.specs.Words.{root_at, area_at, end_of}
use Rattle.tree_words.specs.Blocks.{LinkedBlock, size, block_size, covers, is_header_or_move}
use Rattle.tree_words.specs.Blocks.{header_or_move}
use Rattle.tree_words.specs.Complete.{HasEmpties, allowed_cells}
use Rattle.tree_words.specs.Opening.{root_block, opening_word, AreOpening}
use Rattle.tree_words.proofs.Boards.RootLaws.{few_cells}
use Rattle.tree_words.specs.Writing.{listed, WritesBlock}
use Rattle.tree_words.proofs.NewBlocks.Writes.{block_of}

pub allowed-listed : (s : Setting) (size set : ℕ) → size ≡ s.board.size → set ≡ s.allowed
    → listed size set ≡ allowed_cells s
unfolding allowed_cells
allowed-listed s size set e f = ap (λ (n : ℕ). filter (has_cell set) (cells_of n)) e
    ∙ ap (λ (z : ℕ). filter (has_cell z) (cells_of s.board.size)) f

-- the root's block fits into the area
pub root-fits : (s : Setting) → IsSetting s
    → area_at s + block_size (length (allowed_cells s)) ≤ end_of s
unfolding allowed_cells
root-fits s h
    = omega (arith, few_cells s.board.size (has_cell s.allowed) h.position.most, h.ranges.words.0)

pub few-allowed : (s : Setting) → IsSetting s → length (allowed_cells s) ≤ 121
unfolding allowed_cells
few-allowed s h = few_cells s.board.size (has_cell s.allowed) h.position.most

-- the opening words, if the root's block is written over words that are 0, and then its link and
-- NEXT
pub opening-written : (s : Setting) (root e count : ℕ) (cells before words : List ℕ) → IsSetting s
    → before ≡ replicate (end_of s) 0 → root ≡ root_at s → cells ≡ allowed_cells s
    → HasEmpties e s.board
    → WritesBlock (block_of (root + 4) root e cells) before words → count ≡ length cells
    → AreOpening s (set_word (set_word words (root + 1) (root + 4)) 0 (root + 4 + 4 + 4 * count))
opening-written s root e count cells before words h zeros at is set w many =
    let b : LinkedBlock = root_block s e in
    let start : root + 4 ≡ area_at s = omega (arith, at) in
    let v : WritesBlock b before words
    = subst (λ (r : ℕ). WritesBlock (block_of (area_at s) r e (allowed_cells s)) before words) at
    (subst (λ (a : ℕ). WritesBlock (block_of a root e (allowed_cells s)) before words) start
    (subst (λ (l : List ℕ). WritesBlock (block_of (root + 4) root e l) before words) is w)) in
    let long : length words ≡ end_of s = w.long ∙ ap length zeros ∙ length-replicate (end_of s) 0 in
    let w1 : List ℕ = set_word words (root + 1) (root + 4) in
    let w2 : List ℕ = set_word w1 0 (root + 4 + 4 + 4 * count) in
    let l1 : length w1 ≡ length words = length-set words (root + 1) (root + 4) in
    record {
      long = length-set w1 0 (root + 4 + 4 + 4 * count) ∙ l1 ∙ long;
      empties = e;
      set = set;
      each = λ i l. ⊎_elim
          (λ (q : i ≡ 0).
          let n : root + 4 + 4 + 4 * count ≡ b.start + size b
          = omega (arith, at, many, ap length is) in
          ap (λ (z : ℕ). get_or w2 z 0) q ∙ get_or-set_same w1 0 (root + 4 + 4 + 4 * count) 0
          (omega (arith, l1, long)) ∙ n
          ∙ sym (ap (opening_word s e) q))
          (λ (d : i ≡ 0 → ⊥).
          let rest : ℕ = cond (covers i b && is_header_or_move (i - b.start))
          (header_or_move b (i - b.start)) 0 in
          let first : opening_word s e i ≡ cond (i == root_at s + 1) b.start rest
          = ap (λ (t : Bool). cond t (b.start + size b) (cond (i == root_at s + 1) b.start rest))
          (ne_eqb i 0 d) in
          get_or-set_other w1 0 i (root + 4 + 4 + 4 * count) 0 d ∙ ⊎_elim
          (λ (q : i ≡ root + 1).
          ap (λ (z : ℕ). get_or w1 z 0) q
          ∙ get_or-set_same words (root + 1) (root + 4) 0
          (omega (arith, long, at, h.ranges.words.0)) ∙ start
          ∙ sym (first ∙ ap (λ (t : Bool). cond t b.start rest) (eq-eqb i (root_at s + 1) (q ∙ ap (λ (z : ℕ). z + 1) at))))
          (λ (n : i ≡ root + 1 → ⊥).
          get_or-set_other words (root + 1) i (root + 4) 0 n ∙ v.each i
          ∙ ap (λ (z : ℕ). cond (covers i b && is_header_or_move (i - b.start)) (header_or_move b (i - b.start)) z) (ap (λ (x : List ℕ). get_or x i 0) zeros
          ∙ get_or-replicate (end_of s) i 0 0 l)
          ∙ sym (first ∙ ap (λ (t : Bool). cond t b.start rest) (ne_eqb i (root_at s + 1) (λ z. n (z ∙ ap (λ (u : ℕ). u + 1) (sym at))))))
          (cases_eq i (root + 1)))
          (cases_eq i 0);
    }
