-- The first words of a tree: what all words tell, what its first words tell, and the same words as
-- those of a longer area.
use Rattle.std.proofs.Common.{◌≡◌, ℕ, zero, suc, ◌+◌, ◌-◌, ◌≤◌, List, [], ◌∷◌, ◌++◌, length, take}
use Rattle.std.proofs.Common.{replicate, refl, sym, ap, ◌∙◌, subst, arith, append-nil, append_assoc}
use Rattle.std.specs.Prelude.{slice_index, min}
use Rattle.std.proofs.lemmas.List.{replicate-append-replicate, take-append-le}
use Rattle.tree_words.specs.Settings.{Setting}
use Rattle.tree_words.specs.Words.{area_at, end_of, next_in}
use Rattle.tree_words.specs.Closing.{IsClosed}
use Rattle.tree_words.specs.Areas.{with_area, all_words, AreFirst, IsCut, IsNarrower}
use Rattle.tree_words.proofs.Areas.CutAreas.{all_long, cut_closed, zeros_behind}

-- if no word is left out, the first words are all
pub all_full : (s : Setting) (words : List ℕ) → length words ≡ end_of s → all_words s words ≡ words
all_full s words long =
    let none : end_of s - length words ≡ 0 = omega (arith, long) in
    ap (λ (n : ℕ). words ++ replicate n 0) none ∙ append-nil words

pub full_kept : (s : Setting) (words : List ℕ) → IsClosed s words
    → AreFirst s words × IsClosed s (all_words s words)
full_kept s words k =
    let long : length words ≡ end_of s = k.long in (
      record { least = omega (arith, long); most = omega (arith, long); written = omega (arith, long) },
      subst (IsClosed s) (sym (all_full s words long)) k,
    )

pub word_is : (s : Setting) (words : List ℕ) (i : ℕ)
    → slice_index (all_words s words) i ≡ slice_index words i
word_is s words i = zeros_behind words (end_of s - length words) i

pub none_behind : (words : List ℕ) (i : ℕ) → length words ≤ i → slice_index words i ≡ 0
none_behind [] i l = refl
none_behind (w ∷ ws) zero l = absurd (omega (arith, l))
none_behind (w ∷ ws) (suc i) l = none_behind ws i (omega (arith, l))

-- with zeros up to one end, and then up to a later one
pub all_longer : (s c : Setting) (words : List ℕ) → length words ≤ end_of c → end_of c ≤ end_of s
    → all_words s (all_words c words) ≡ all_words s words
all_longer s c words l m =
    let a : ℕ = end_of c - length words in
    let b : ℕ = end_of s - end_of c in
    let sum : a + b ≡ end_of s - length words = omega (arith, l, m) in
    let behind : all_words s (all_words c words) ≡ all_words c words ++ replicate b 0
    = ap (λ (n : ℕ). all_words c words ++ replicate (end_of s - n) 0) (all_long c words l) in
    let apart : all_words c words ++ replicate b 0 ≡ words ++ (replicate a 0 ++ replicate b 0)
    = append_assoc words (replicate a 0) (replicate b 0) in
    let zeros : replicate a 0 ++ replicate b 0 ≡ replicate (end_of s - length words) 0
    = replicate-append-replicate a b 0 ∙ ap (λ (n : ℕ). replicate n 0) sum in
    behind ∙ apart ∙ ap (λ (z : List ℕ). words ++ z) zeros

pub narrower_ends : (s c : Setting) → IsNarrower c s
    → (end_of c ≤ end_of s) × (area_at c ≡ area_at s)
narrower_ends s c n =
    let end : end_of c ≡ end_of (with_area s c.knobs.words) = ap end_of n.area in
    (omega (arith, end, n.less), ap area_at n.area)

-- the same words as first words of a shape whose area goes on, if none was written behind them
module _ (s c : Setting) (words : List ℕ) (n : IsNarrower c s) (f : AreFirst c words)
    (l : min (next_in words) (end_of s) ≤ length words) where
  less : end_of c ≤ end_of s
  less = (narrower_ends s c n).0

  next : next_in (all_words c words) ≡ next_in words
  next = word_is c words 0

  pub stays_inside : min (next_in (all_words c words)) (end_of s) ≤ end_of c
  stays_inside = omega (arith, next, l, f.most)

  pub widened_words : all_words s (all_words c words) ≡ all_words s words
  widened_words = all_longer s c words f.most less

  pub widened_kept : IsClosed c (all_words c words)
      → AreFirst s words × IsClosed s (all_words s words)
  widened_kept k =
      let cut : IsCut s (all_words c words) c
      = record { area = n.area; long = all_long c words f.most; less = less; enough = stays_inside } in
      let front : area_at c ≡ area_at s = (narrower_ends s c n).1 in (
        record { least = omega (arith, front, f.least); most = omega (arith, f.most, less); written = l },
        subst (IsClosed s) widened_words (cut_closed s c (all_words c words) cut k),
      )

-- how many words are written, and these, by the first words
module _ (s : Setting) (words : List ℕ) (f : AreFirst s words) where
  pub written_is : min (next_in (all_words s words)) (length (all_words s words)) ≡ min
      (next_in words) (length words)
  written_is = omega (arith, word_is s words 0, all_long s words f.most, f.written, f.most)

  pub front_is : (n : ℕ) → n ≤ length words → take n (all_words s words) ≡ take n words
  front_is n l = take-append-le n words (replicate (end_of s - length words) 0) l
