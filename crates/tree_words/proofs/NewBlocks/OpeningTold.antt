-- The opening words are told by the setting.
use Rattle.std.proofs.Common.{◌≡◌, ℕ, ◌<◌, List, [], ◌∷◌, length, get_or, sym, ap, ◌∙◌, subst}
use Rattle.std.proofs.Common.{arith}
use Rattle.std.specs.List.{range_with_len}
use Rattle.std.proofs.lemmas.List.{ext_get_or, length-map}
use Rattle.std.proofs.lemmas.List.FromFn.{length-range_with_len, get_or-map-range_with_len}
use Rattle.hex_cells.proofs.Bits.{same_set}
use Rattle.play_out.specs.Fills.{empties_of}
use Rattle.tree_words.specs.Settings.{Setting, IsSetting}
use Rattle.tree_words.specs.Words.{end_of}
use Rattle.tree_words.specs.Complete.{HaveNodes, Linked, set_of}
use Rattle.tree_words.specs.Opening.{root_block, opening_word, opening_words, AreOpening}
use Rattle.tree_words.specs.Opening.{ShowRootBlock}
use Rattle.tree_words.proofs.NewBlocks.OpeningLaws.{opening-linked, opening-nodes}
use Rattle.tree_words.proofs.Boards.SetNumbers.{set-has_empties}

-- the set of a board's empty cells is one number
empties-one : (s : Setting) (words : List ℕ) → IsSetting s → (a : AreOpening s words)
    → a.empties ≡ set_of (empties_of s.board)
empties-one s words h a = same_set a.empties (set_of (empties_of s.board))
    (λ k. a.set.items k ∙ sym ((set-has_empties s.board h.position.most).items k))

long-words : (s : Setting) → length (opening_words s) ≡ end_of s
unfolding opening_words
long-words s
    = length-map (range_with_len 0 (end_of s)) (opening_word s (set_of (empties_of s.board)))
    ∙ length-range_with_len 0 (end_of s)

each-word : (s : Setting) (i : ℕ) → i < end_of s
    → get_or (opening_words s) i 0 ≡ opening_word s (set_of (empties_of s.board)) i
unfolding opening_words
each-word s i l = get_or-map-range_with_len (opening_word s (set_of (empties_of s.board))) 0
    (end_of s) i i 0 l (omega arith)

pub opening-are : (s : Setting) → IsSetting s → AreOpening s (opening_words s)
opening-are s h = record {
  long = long-words s;
  empties = set_of (empties_of s.board);
  set = set-has_empties s.board h.position.most;
  each = λ i l. each-word s i l;
}

pub opening-one : (s : Setting) (words : List ℕ) → IsSetting s → AreOpening s words
    → words ≡ opening_words s
opening-one s words h a = ext_get_or 0 words (opening_words s) (a.long ∙ sym (long-words s)) (λ i l.
    a.each i (omega (arith, a.long, l))
    ∙ ap (λ (e : ℕ). opening_word s e i) (empties-one s words h a)
    ∙ sym (each-word s i (omega (arith, a.long, l))))

pub opening-root : (s : Setting) (words : List ℕ) → IsSetting s → AreOpening s words
    → ShowRootBlock s words
opening-root s words h a =
    let e : a.empties ≡ set_of (empties_of s.board) = empties-one s words h a in
    record {
      linked = subst (λ (n : ℕ). Linked s words (root_block s n ∷ [])) e
          (opening-linked s words a.empties h a.set a.long (λ i l d. a.each i l));
      nodes = subst (λ (n : ℕ). HaveNodes (root_block s n ∷ [])) e
          (opening-nodes s words a.empties h a.set a.long (λ i l d. a.each i l));
    }
