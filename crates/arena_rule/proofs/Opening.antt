-- Fresh, Apart, Linked, Held and Known hold of the opening words and the first views.
use Rattle.std.proofs.Common.{◌≡◌, ℕ, ◌+◌, ◌≤◌, List, [], Option, sym, ap, ◌∙◌, subst, inr, arith}
use Rattle.std.specs.Prelude.{nat_lt, nat_le, ◌&&◌, sum_by, slice_index}
use Rattle.std.proofs.lemmas.Bool.Decides.{nat_tests}
use Rattle.std.proofs.lemmas.Option.{none-some}
use Rattle.play_out.specs.Fills.{empties_of}
use Rattle.tree_words.specs.Settings.{Setting, IsSetting}
use Rattle.tree_words.specs.Words.{root_at, area_at, end_of, next_in}
use Rattle.tree_words.specs.Blocks.{LinkedBlock, one_if, size}
use Rattle.tree_words.specs.Complete.{set_of}
use Rattle.tree_words.specs.Opening.{root_block, opening_next, opening_words, AreOpening}
use Rattle.tree_words.specs.Opening.{ShowRootBlock}
use Rattle.tree_words.specs.Told.{Knows}
use Rattle.tree_words.proofs.Blocks.BlockLaws.{cover-cons}
use Rattle.tree_words.proofs.NewBlocks.Openings.{root-fits}
use Rattle.tree_words.proofs.NewBlocks.OpeningLaws.{clear, link-is, next-is, root-word}
use Rattle.tree_words.proofs.NewBlocks.OpeningTold.{opening-are, opening-root}
use Rattle.arena_rule.specs.Views.{SeatView, HeldBlock}
use Rattle.arena_rule.specs.Lookups.{is_held}
use Rattle.arena_rule.specs.Parts.{Fresh, AreApart, AreLinked, AreWritten, Known, held_at}
use Rattle.arena_rule.proofs.Before.{AreFirst, opening_blocks}
use Rattle.arena_rule.proofs.Totals.{total_none}

-- the words of a block that lies below NEXT and inside the area
block-claimed : (low s next end i : ℕ) → next ≡ low + s → low + s ≤ end
    → one_if (nat_le low i && nat_lt i (low + s)) ≤ one_if
    (nat_le low i && (nat_lt i next && nat_lt i end))
block-claimed low s next end i e l = grind (arith, nat_tests)

module _ (s : Setting) (views : List SeatView) (set : IsSetting s) (first : AreFirst s views) where
  opening : AreOpening s (opening_words s)
  opening = opening-are s set

  next : next_in (opening_words s) ≡ opening_next s
  next = next-is s (opening_words s) opening.empties set opening.set opening.long
      (λ i l d. opening.each i l)

  pub fresh-first : Fresh s (opening_words s)
  fresh-first i low past high
      = clear s (opening_words s) opening.empties set opening.set opening.long
      (λ j l d. opening.each j l) i (omega arith) (λ e. omega (arith, e))
      (inr (omega (arith, past, next)))

  pub apart-first : AreApart s (opening_blocks s) (opening_words s) views
  apart-first i =
      let b : LinkedBlock = root_block s (set_of (empties_of s.board)) in
      let none : sum_by (held_at i) views ≡ 0
      = total_none (held_at i) views
      (λ j v e. ap (λ (h : Option HeldBlock). one_if (is_held h i)) (first.each j v e).1.held) in
      omega (arith, none, cover-cons i b [], block-claimed (area_at s) (size b) (next_in (opening_words s)) (end_of s) i next (root-fits s set))

  pub linked-first : AreLinked s (opening_blocks s) (opening_words s)
  linked-first =
      let root : ShowRootBlock s (opening_words s) = opening-root s (opening_words s) set opening in
      record {
        blocks = root.linked;
        nodes = root.nodes;
        link = link-is s (opening_words s) opening.empties set opening.set opening.long
            (λ i l d. opening.each i l);
        move = ap (slice_index (opening_words s)) (zero-more (root_at s))
            ∙ root-word s (opening_words s) opening.empties set opening.set opening.long
            (λ i l d. opening.each i l) 0 (omega arith) (λ e. omega (arith, e));
      }
    where
      zero-more : (n : ℕ) → n ≡ n + 0
      zero-more n = omega arith

  pub held-first : AreWritten (opening_words s) views
  held-first j v e h q = absurd (none-some h (sym (first.each j v e).1.held ∙ q))

  pub known-first : Known s (opening_blocks s) views
  known-first j v e = subst (Knows (root_at s) (opening_blocks s)) (sym (first.each j v e).2) tt
