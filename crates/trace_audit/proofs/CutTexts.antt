-- What is read of a text, if its words end with the cut area.
use Rattle.std.proofs.Common.{◌≡◌, ℕ, ◌+◌, ◌-◌, ◌*◌, ◌≤◌, List, ◌++◌, length, take, drop, replicate}
use Rattle.std.proofs.Common.{refl, sym, ◌∙◌, subst, arith}
use Rattle.std.specs.Prelude.{slice_index, min}
use Rattle.std.proofs.lemmas.List.{take-append-le}
use Rattle.tree_words.specs.Settings.{Setting}
use Rattle.tree_words.specs.Words.{end_of, next_in}
use Rattle.tree_words.specs.Closing.{ClosedTree}
use Rattle.trace_audit.specs.Traces.{trace_text, written_count}
use Rattle.trace_audit.specs.Told.{AreWords, IsReadTree}
use Rattle.tree_words.specs.Areas.{IsCut, with_area, all_words}
use Rattle.tree_words.proofs.Areas.CutAreas.{all_long, zeros_behind}
use Rattle.trace_audit.specs.Texts.{StandAt, IsHeader}
use Rattle.trace_audit.specs.Verdicts.{BeginsWithTree}
use Rattle.trace_audit.proofs.TextWords.{text_is, text_none}

module _ (bytes words : List ℕ) (s c : Setting) (q : ℕ) (f : IsHeader bytes s q)
    (less : end_of c ≤ end_of s) (enough : q ≤ end_of c) (long : length words ≡ end_of c)
    (a : AreWords words) (stand : StandAt bytes 128 (take q words)) where
  abbrev zeros : List ℕ
  zeros = replicate (end_of s - length words) 0

  abbrev whole : List ℕ
  whole = all_words s words

  answers : (i : ℕ) → slice_index whole i ≡ slice_index words i
  answers i = zeros_behind words (end_of s - length words) i

  whole_long : length whole ≡ end_of s
  whole_long = all_long s words (omega (arith, long, less))

  whole_words : AreWords whole
  whole_words i = omega (arith, answers i, a i)

  whole_stand : StandAt bytes 128 (take q whole)
  whole_stand = subst (StandAt bytes 128)
      (sym (take-append-le q words zeros (omega (arith, long, enough)))) stand

  count : written_count whole ≡ min (next_in words) (end_of s)
  count i = min (answers 0 i) (whole_long i)

  pub cut_none : (min (next_in words) (end_of s) ≡ q → ⊥) → (t : ClosedTree)
      → BeginsWithTree t bytes → ⊥
  cut_none n = text_none bytes whole s q f whole_long whole_words whole_stand
      (λ e. n (sym count ∙ e))

  pub cut_text : (items : List ℕ) → items ≡ words → c ≡ with_area s c.knobs.words
      → ((i : ℕ) → q ≤ i → slice_index words i ≡ 0) → min (next_in words) (end_of s) ≡ q
      → IsReadTree (record { shape = s; words = all_words s items })
      × (bytes ≡ trace_text (record { shape = s; words = all_words s items }) ++ drop (128 + 8 * q) bytes) × IsCut s items c
  cut_text items same area z e =
      let t = text_is bytes whole whole s q refl f whole_long whole_words whole_stand
      (λ i l. answers i ∙ z i l) (count ∙ e) in
      let cut : IsCut s words c
      = record { area = area; long = long; less = less; enough = omega (arith, e, enough) } in
      subst (λ (ws : List ℕ). IsReadTree (record { shape = s; words = all_words s ws })
      × (bytes ≡ trace_text (record { shape = s; words = all_words s ws }) ++ drop (128 + 8 * q) bytes) × IsCut s ws c) (sym same) (t.0, t.1, cut)
