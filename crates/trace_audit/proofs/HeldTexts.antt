-- The words of a text, where they stand in the bytes.
use Rattle.std.proofs.Common.{◌≡◌, ℕ, ◌+◌, ◌-◌, ◌*◌, ◌<◌, ◌≤◌, List, length, take, drop, sym, ap}
use Rattle.std.proofs.Common.{◌∙◌, subst, arith}
use Rattle.std.specs.Prelude.{slice_index}
use Rattle.std.proofs.lemmas.List.{length-take-le, length-drop}
use Rattle.std.proofs.Math.Seq.{take-length}
use Rattle.tree_words.specs.Settings.{Setting}
use Rattle.tree_words.specs.Words.{end_of}
use Rattle.trace_audit.specs.Told.{AreWords}
use Rattle.trace_audit.specs.Traces.{bytes_of}
use Rattle.trace_audit.specs.Texts.{IsHeader, StandAt}
use Rattle.trace_audit.specs.WordLists.{words_from}
use Rattle.trace_audit.proofs.FromBytes.{from_long, from_past, from_stand, from_words, taken_small}

-- behind the header of a text stand its q words, up to the byte `end`; n words are read from there
module _ (bytes : List ℕ) (small : (k : ℕ) → slice_index bytes k < 256) (s c : Setting)
    (q n end : ℕ) (f : IsHeader bytes s q) (ends : end ≡ 128 + 8 * q) (total : n ≡ end_of c)
    (enough : q ≤ end_of c) where
  abbrev pub held : List ℕ
  held = take (end - 128) (drop 128 bytes)

  pub held_long : length held ≡ 8 * q
  held_long = let long = f.long in length-take-le (end - 128) (drop 128 bytes)
      (omega (arith, ends, long, length-drop 128 bytes)) ∙ omega (arith, ends)

  held_small : (k : ℕ) → slice_index held k < 256
  held_small k = taken_small bytes small 128 (end - 128) k

  module _ (words : List ℕ) (is : words ≡ words_from n held) where
    pub text_long : length words ≡ end_of c
    text_long = ap length is ∙ from_long n held ∙ total

    pub text_range : AreWords words
    text_range = subst AreWords (sym is) (from_words held held_small n)

    pub text_stand : StandAt bytes 128 (take q words)
    text_stand =
        let len : length (take q words) ≡ q
        = length-take-le q words (omega (arith, text_long, enough)) in
        let all : end - 128 ≡ 8 * q = omega (arith, ends) in
        ap (λ (w : List ℕ). bytes_of (take q w)) is
        ∙ from_stand n q held held_small (omega (arith, total, enough)) (omega (arith, held_long))
        ∙ ap (λ (k : ℕ). take k held) (sym held_long) ∙ take-length held
        ∙ ap (λ (k : ℕ). take k (drop 128 bytes)) all
        ∙ ap (λ (k : ℕ). take (8 * k) (drop 128 bytes)) (sym len)

    pub text_rest : (i : ℕ) → q ≤ i → slice_index words i ≡ 0
    text_rest i l = ap (λ (w : List ℕ). slice_index w i) is
        ∙ from_past n i held (omega (arith, held_long, l))
