-- How the words grow below a leaf that asks for no block, asks in vain, or gets its block.
use Rattle.std.proofs.Common.{◌≡◌, ℕ, ◌+◌, ◌-◌, ◌<◌, ◌≤◌, nat_lt, nat_le, Bool, true, false, cond}
use Rattle.std.proofs.Common.{List, length, set, get_or, get_or-set_same, get_or-set_other, refl}
use Rattle.std.proofs.Common.{sym, ap, ◌∙◌, subst, arith}
use Rattle.std.specs.Prelude.{◌&&◌}
use Rattle.std.proofs.Math.ListN.{length-set}
use Rattle.std.proofs.lemmas.Bool.Decides.{nat_tests}
use Rattle.play_out.specs.Fills.{empties_of}
use Rattle.tree_words.specs.Settings.{Setting}
use Rattle.tree_words.specs.Words.{end_of, next_in, tally_in}
use Rattle.tree_words.specs.Blocks.{LinkedBlock, size, is_header_or_move, header_or_move}
use Rattle.tree_words.specs.Paths.{NodeState}
use Rattle.tree_words.specs.Sequence.{asks, gets_block, next_after, size_below}
use Rattle.tree_words.specs.Writing.{WritesBlock}
use Rattle.seq_search.specs.Writing.{LinksBlock, LinksBelow, Grows, block_below}
use Rattle.tree_words.proofs.NewBlocks.Writes.{block_of}
use Rattle.tree_words.proofs.Blocks.BlockLaws.{clash}
use Rattle.tree_words.proofs.Walks.Asking.{gets-made, gets-past, gets-none, next-asked, next-stays}

-- the block is written and named by the leaf's link
pub link-written : (start leaf e : ℕ) (p : NodeState) (cells before words : List ℕ)
    → WritesBlock (block_of start leaf e cells) before words → cells ≡ empties_of p.board
    → leaf + 4 ≤ length before
    → LinksBlock (block_below start leaf e p) before (set words (leaf + 1) start)
link-written start leaf e p cells before words w is l =
    let v : WritesBlock (block_below start leaf e p) before words
    = subst (λ (x : List ℕ). WritesBlock (block_of start leaf e x) before words) is w in
    record {
      long = length-set words (leaf + 1) start ∙ v.long;
      link = get_or-set_same words (leaf + 1) start 0 (omega (arith, v.long));
      each = λ i d. get_or-set_other words (leaf + 1) i start 0 d ∙ v.each i;
    }

pub grows-none : (s : Setting) (leaf : ℕ) (p : NodeState) (words : List ℕ)
    → asks s (next_in words) (tally_in words leaf) p ≡ false → Grows s leaf p words words
grows-none s leaf p words e = record {
  next = sym (next-stays s (next_in words) (tally_in words leaf) p e);
  made = λ t. absurd
      (clash (gets_block s (next_in words) (tally_in words leaf) p) t (gets-none s (next_in words) (tally_in words leaf) p e));
  none = λ t. (refl, λ i l. refl);
}

pub grows-past : (s : Setting) (leaf m : ℕ) (p : NodeState) (words : List ℕ)
    → asks s (next_in words) (tally_in words leaf) p ≡ true
    → end_of s < next_in words + size_below p
    → m ≡ next_in words + size_below p → 0 < length words → Grows s leaf p words (set words 0 m)
grows-past s leaf m p words e l is some = record {
  next = get_or-set_same words 0 m 0 some ∙ is
      ∙ sym (next-asked s (next_in words) (tally_in words leaf) p e);
  made = λ t. absurd
      (clash (gets_block s (next_in words) (tally_in words leaf) p) t (gets-past s (next_in words) (tally_in words leaf) p e l));
  none = λ t. (length-set words 0 m, λ i h. get_or-set_other words 0 i m 0 (λ z. omega arith));
}

pub grows-made : (s : Setting) (leaf m : ℕ) (p : NodeState) (words after : List ℕ)
    → asks s (next_in words) (tally_in words leaf) p ≡ true
    → next_in words + size_below p ≤ end_of s
    → m ≡ next_in words + size_below p → 0 < length words → 1 ≤ next_in words
    → LinksBelow (next_in words) leaf p (set words 0 m) after → Grows s leaf p words after
grows-made s leaf m p words after e l is some low w =
    let n : ℕ = next_in words in
    let b : LinkedBlock = block_below n leaf w.0 p in
    let all : m ≡ next_after s n (tally_in words leaf) p = is
    ∙ sym (next-asked s n (tally_in words leaf) p e) in
    record {
      next = w.2.each 0 (λ z. omega arith)
          ∙ ap (λ (t : Bool). cond (t && is_header_or_move (0 - n)) (header_or_move b (0 - n)) (get_or (set words 0 m) 0 0)) (before-it n (size b) low)
          ∙ get_or-set_same words 0 m 0 some ∙ all;
      made = λ t. subst (λ (z : ℕ). LinksBelow n leaf p (set words 0 z) after) all w;
      none = λ t. absurd
          (clash (gets_block s n (tally_in words leaf) p) (gets-made s n (tally_in words leaf) p e l) t);
    }
  where
    before-it : (a n : ℕ) → 1 ≤ a → (nat_le a 0 && nat_lt 0 (a + n)) ≡ false
    before-it a n l = grind (arith, nat_tests)
