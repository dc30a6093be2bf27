-- The opening words hold the first tree.
use Rattle.std.proofs.Common.{◌≡◌, ℕ, ◌<◌, List, [], ◌∷◌, length, get_or, ap, ◌∙◌, inr, arith}
use Rattle.tree_words.specs.Settings.{Setting, IsSetting}
use Rattle.tree_words.specs.Words.{end_of, tally_in, seen_in}
use Rattle.tree_words.specs.Complete.{HasEmpties}
use Rattle.tree_words.specs.Opening.{root_block, opening_word}
use Rattle.seq_search.specs.Steps.{Holds}
use Rattle.tree_words.proofs.NewBlocks.Openings.{root-fits}
use Rattle.tree_words.proofs.NewBlocks.OpeningLaws.{next-is, clear, root-word, no-counts}
use Rattle.tree_words.proofs.NewBlocks.OpeningLaws.{opening-linked, opening-nodes}
use Rattle.seq_search.proofs.Growing.{at-most-none}

-- the words are the opening words, whatever TICKET is
module _ (s : Setting) (words : List ℕ) (e : ℕ) (set : IsSetting s) (empties : HasEmpties e s.board)
    (long : length words ≡ end_of s)
    (each : (i : ℕ) → i < end_of s → (i ≡ 1 → ⊥) → get_or words i 0 ≡ opening_word s e i) where
  pub opening-holds : Holds s (root_block s e ∷ []) words 0
  opening-holds =
      let next = next-is s words e set empties long each in
      let fit = root-fits s set in
      record {
        long = long;
        linked = opening-linked s words e set empties long each;
        filled = opening-nodes s words e set empties long each;
        root = (
          ap (λ (z : ℕ). get_or words z 0) (omega arith) ∙ root-word s words e set empties long each 0 (omega arith) (λ z. omega arith),
          root-word s words e set empties long each 3 (omega arith) (λ z. omega arith),
        );
        next = (omega (arith, next), omega (arith, next, fit));
        fresh = λ i l. clear s words e set empties long each i (omega (arith, l, next))
            (λ z. omega (arith, l, next, z)) (inr (omega (arith, l, next)));
        counts = λ x n. let u = no-counts s words e set empties long each x n in
            (at-most-none 0 (tally_in words x) u.0, at-most-none 0 (seen_in words x) u.1);
      }
