-- Words that are named, and the words that name something.
use Rattle.std.proofs.Common.{◌≡◌, ℕ, ◌+◌, ◌*◌, ◌/◌, ◌<◌, ◌≤◌, ◌^◌, inl, inr, false, cond, List, []}
use Rattle.std.proofs.Common.{◌∷◌, map, Some, None, refl, ap, sym, ◌∙◌, subst, codes, arith}
use Rattle.std.proofs.Math.Nat.{div-le_self, mul-le-mul}
use Rattle.std.proofs.lemmas.List.Elements.{All-cons, All-tail}
use Rattle.std.specs.Fmt.{decimal}
use Rattle.std.specs.Option.{option_and_then, option_map}
use Rattle.std.specs.Str.{bytes_eq}
use Rattle.std.specs.Str.Parse.{AllDigits}
use Rattle.std.specs.List.{All}
use Rattle.std.proofs.lemmas.Bool.{cases_Bool}
use Rattle.std.proofs.lemmas.Fmt.{decimal_is_IsNumeral}
use Rattle.std.proofs.lemmas.Slice.Eq.{bytes_eq-Decides}
use Rattle.hex_cells.specs.Vertices.{vertex_of}
use Rattle.win_cert.specs.Named.{after_word, alone, cell_named, end_named, first_cell, first_end}
use Rattle.win_cert.specs.Named.{first_number, number_named, numbers_named}
use Rattle.win_cert.specs.Texts.{end_word}
use Rattle.win_cert.specs.Writable.{IsEndOn}
use Rattle.win_cert.specs.declared.lines.End.{End}
use Rattle.win_cert.specs.declared.lines.End.TheVariants.{At, First, Second}
use Rattle.win_cert.specs.declared.lines.TheConstants.{MOST_NUMBER}
use Rattle.win_cert.proofs.CellWords.{cell_back, cell_means}
use Rattle.win_cert.proofs.NumberWords.{named_back, named_means}
use Rattle.win_cert.proofs.Options.{some_of_map, some_of_then}
use Rattle.std.proofs.lemmas.Option.{cond_some}

abbrev pub Words : Type 0
Words = List (List ℕ)

-- ---- what is left

pub alone_means : {A : Type 0} (a b : A) (words : Words) → alone a words ≡ Some b
    → (a ≡ b) × (words ≡ [])
alone_means a b [] e = (cc, refl)
alone_means a b (word ∷ words) e = cc

-- ---- a word that stands first

pub after_back : (name : List ℕ) (words : Words) → after_word name (name ∷ words) ≡ Some words
after_back name words = ap (λ b. cond b (Some words) None) ((bytes_eq-Decides name name).1 refl)

pub after_means : (name : List ℕ) (words rest : Words) → after_word name words ≡ Some rest
    → words ≡ name ∷ rest
after_means name [] rest e = cc
after_means name (word ∷ words) rest e =
    let found = cond_some (bytes_eq word name) words rest e in
    ap (λ w. w ∷ words) ((bytes_eq-Decides word name).0 found.0) ∙ ap (λ ws. name ∷ ws) found.1

-- ---- numbers

pub number_back : (i : ℕ) (words : Words) → i ≤ MOST_NUMBER
    → first_number (decimal i ∷ words) ≡ Some (i, words)
number_back i words few = ap (option_map (λ j. (j, words))) (named_back i few)

pub record IsFirst (i : ℕ) (words rest : Words) : Type 0 where
  pub few : i ≤ MOST_NUMBER
  pub is : words ≡ decimal i ∷ rest

pub number_means : (words : Words) (p : ℕ × Words) → first_number words ≡ Some p
    → IsFirst p.0 words p.1
number_means [] p e = cc
number_means (word ∷ words) p e =
    let found = some_of_map (λ j. (j, words)) (number_named word) p e in
    let means = named_means word found.0 found.1 in
    let same : found.0 ≡ p.0 = ap (λ (q : ℕ × Words). q.0) found.2 in
    let others : words ≡ p.1 = ap (λ (q : ℕ × Words). q.1) found.2 in
    record {
      few = subst (λ i. i ≤ MOST_NUMBER) same means.0;
      is = ap (λ w. w ∷ words) (means.1 ∙ ap decimal same) ∙ ap (λ ws. decimal p.0 ∷ ws) others;
    }

-- ---- cells

pub cell_first : (n k : ℕ) (words : Words) → n ≤ 11 → k < n * n
    → first_cell n (vertex_of n k ∷ words) ≡ Some (k, words)
cell_first n k words size on = ap (option_map (λ j. (j, words))) (cell_back n k size on)

pub cell_first_means : (n : ℕ) (words : Words) (p : ℕ × Words) → first_cell n words ≡ Some p
    → (p.0 < n * n) × (words ≡ vertex_of n p.0 ∷ p.1)
cell_first_means n [] p e = cc
cell_first_means n (word ∷ words) p e =
    let found = some_of_map (λ j. (j, words)) (cell_named n word) p e in
    let means = cell_means n word found.0 found.1 in
    let same : found.0 ≡ p.0 = ap (λ (q : ℕ × Words). q.0) found.2 in
    let others : words ≡ p.1 = ap (λ (q : ℕ × Words). q.1) found.2 in (
      subst (λ k. k < n * n) same means.0,
      ap (λ w. w ∷ words) (means.1 ∙ ap (vertex_of n) same)
          ∙ ap (λ ws. vertex_of n p.0 ∷ ws) others,
    )

-- ---- ends

pub row_small : (n k : ℕ) → n ≤ 11 → k < n * n → k / n + 1 < 2 ^ 64
row_small n k size on =
    let quotient = div-le_self k n in
    let square : n * n ≤ 11 * 11 = mul-le-mul size size in
    omega (arith, quotient, square)

-- no vertex is a word that has no digit after its letter
no_vertex : (n k : ℕ) (letter other : ℕ) (rest : List ℕ) → n ≤ 11 → k < n * n
    → ¬ (AllDigits 10 (other ∷ rest))
    → bytes_eq (vertex_of n k) (letter ∷ other ∷ rest) ≡ false
no_vertex n k letter other rest size on bad
    = elim (cases_Bool (bytes_eq (vertex_of n k) (letter ∷ other ∷ rest))) [
      | inl is_so ↦
          let same = (bytes_eq-Decides (vertex_of n k) (letter ∷ other ∷ rest)).0 is_so in
          let row : decimal (k / n + 1) ≡ other ∷ rest = cc in
          let small : k / n + 1 < 2 ^ 64 = row_small n k size on in
          absurd (bad (subst (AllDigits 10) row (decimal_is_IsNumeral (k / n + 1) small).0.1))
      | inr not_so ↦ not_so
    ]

pub end_back : (n : ℕ) (end : End) → n ≤ 11 → IsEndOn n end
    → end_named n (end_word n end) ≡ Some end
end_back n First size on = refl
end_back n Second size on = refl
end_back n (At k) size on =
    ap (λ b. cond b (Some First) (cond (bytes_eq (vertex_of n k) (codes "edge2")) (Some Second) (option_map At (cell_named n (vertex_of n k)))))
    (no_vertex n k 101 100 (codes "ge1") size on (λ d. omega (arith, d.0)))
    ∙ ap (λ b. cond b (Some Second) (option_map At (cell_named n (vertex_of n k))))
    (no_vertex n k 101 100 (codes "ge2") size on (λ d. omega (arith, d.0)))
    ∙ ap (option_map At) (cell_back n k size on)

pub end_means : (n : ℕ) (word : List ℕ) (end : End) → end_named n word ≡ Some end
    → IsEndOn n end × (word ≡ end_word n end)
end_means n word end e = elim (cases_Bool (bytes_eq word (codes "edge1"))) [
  | inl is_so ↦
      let is : Some First ≡ Some end
      = sym (ap (λ b. cond b (Some First) (cond (bytes_eq word (codes "edge2")) (Some Second) (option_map At (cell_named n word)))) is_so) ∙ e in
      let same : First ≡ end = cc in
      subst (λ end. IsEndOn n end × (word ≡ end_word n end)) same
      (tt, (bytes_eq-Decides word (codes "edge1")).0 is_so)
  | inr not_so ↦ elim (cases_Bool (bytes_eq word (codes "edge2"))) [
    | inl is_so ↦
        let is : Some Second ≡ Some end
        = sym (ap (λ b. cond b (Some First) (cond (bytes_eq word (codes "edge2")) (Some Second) (option_map At (cell_named n word)))) not_so
        ∙ ap (λ b. cond b (Some Second) (option_map At (cell_named n word))) is_so) ∙ e in
        let same : Second ≡ end = cc in
        subst (λ end. IsEndOn n end × (word ≡ end_word n end)) same
        (tt, (bytes_eq-Decides word (codes "edge2")).0 is_so)
    | inr other ↦
        let is : option_map At (cell_named n word) ≡ Some end
        = sym (ap (λ b. cond b (Some First) (cond (bytes_eq word (codes "edge2")) (Some Second) (option_map At (cell_named n word)))) not_so
        ∙ ap (λ b. cond b (Some Second) (option_map At (cell_named n word))) other) ∙ e in
        let cell = some_of_map At (cell_named n word) end is in
        subst (λ end. IsEndOn n end × (word ≡ end_word n end)) cell.2
        (cell_means n word cell.0 cell.1)
  ]
]

pub end_first : (n : ℕ) (end : End) (words : Words) → n ≤ 11 → IsEndOn n end
    → first_end n (end_word n end ∷ words) ≡ Some (end, words)
end_first n end words size on = ap (option_map (λ x. (x, words))) (end_back n end size on)

pub end_first_means : (n : ℕ) (words : Words) (p : End × Words) → first_end n words ≡ Some p
    → IsEndOn n p.0 × (words ≡ end_word n p.0 ∷ p.1)
end_first_means n [] p e = cc
end_first_means n (word ∷ words) p e =
    let found = some_of_map (λ x. (x, words)) (end_named n word) p e in
    let means = end_means n word found.0 found.1 in
    let same : found.0 ≡ p.0 = ap (λ (q : End × Words). q.0) found.2 in
    let others : words ≡ p.1 = ap (λ (q : End × Words). q.1) found.2 in (
      subst (IsEndOn n) same means.0,
      ap (λ w. w ∷ words) (means.1 ∙ ap (end_word n) same) ∙ ap (λ ws. end_word n p.0 ∷ ws) others,
    )

-- ---- lists of numbers

pub numbers_back : (numbers : List ℕ) → All (λ i. i ≤ MOST_NUMBER) numbers
    → numbers_named (map decimal numbers) ≡ Some numbers
numbers_back [] few = refl
numbers_back (i ∷ numbers) few =
    ap (option_and_then (λ i. option_map (λ rest. i ∷ rest) (numbers_named (map decimal numbers))))
    (named_back i (few 0 0 (omega arith)))
    ∙ ap (option_map (λ rest. i ∷ rest))
    (numbers_back numbers (All-tail (λ i. i ≤ MOST_NUMBER) i numbers few))

pub numbers_means : (words : Words) (numbers : List ℕ) → numbers_named words ≡ Some numbers
    → All (λ i. i ≤ MOST_NUMBER) numbers × (words ≡ map decimal numbers)
numbers_means [] numbers e =
    let same : [] ≡ numbers = cc in
    subst (λ numbers. All (λ i. i ≤ MOST_NUMBER) numbers × ([] ≡ map decimal numbers)) same
    ((λ k d l. absurd (omega (arith, l))), refl)
numbers_means (word ∷ words) numbers e =
    let first = some_of_then (λ i. option_map (λ rest. i ∷ rest) (numbers_named words))
    (number_named word) numbers e in
    let others = some_of_map (λ rest. first.0 ∷ rest) (numbers_named words) numbers first.2 in
    let means = named_means word first.0 first.1 in
    let rest = numbers_means words others.0 others.1 in
    subst (λ numbers. All (λ i. i ≤ MOST_NUMBER) numbers × (word ∷ words ≡ map decimal numbers)) others.2 (
      All-cons (λ i. i ≤ MOST_NUMBER) first.0 others.0 means.0 rest.0,
      ap (λ w. w ∷ words) means.1 ∙ ap (λ ws. decimal first.0 ∷ ws) rest.1,
    )
