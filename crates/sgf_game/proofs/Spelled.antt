-- The texts that a record is written with, as they are read again.
use Rattle.hex_cells.proofs.Ranges.{find_first}
use Rattle.std.proofs.Common.{◌≡◌, ◌≢◌, ℕ, ◌+◌, ◌*◌, ◌/◌, ◌%◌, ◌<◌, ◌≤◌, true, false, List, [], ◌∷◌}
use Rattle.std.proofs.Common.{◌++◌, Some, length, refl, sym, ap, ◌∙◌, subst, arith, inl, inr, zero}
use Rattle.std.proofs.Common.{suc, length-append}
use Rattle.std.specs.Prelude.{codes, option_map}
use Rattle.std.specs.Fmt.{decimal}
use Rattle.std.specs.Str.{bytes_eq, str_eq_ignore_ascii_case, str_to_ascii_lowercase}
use Rattle.std.proofs.lemmas.Bool.{cases_Bool, cases_lt, or_from}
use Rattle.std.proofs.lemmas.Bool.Decides.{nat_tests}
use Rattle.std.proofs.lemmas.Fmt.{decimal_digit, decimal_injective}
use Rattle.std.proofs.lemmas.List.{length-map}
use Rattle.std.proofs.lemmas.Nat.{div_below}
use Rattle.std.proofs.lemmas.Slice.Eq.{bytes_eq-Decides}
use Rattle.hex_cells.specs.Vertices.{vertex_of}
use Rattle.hex_cells.proofs.Digits.{decimal_two}
use Rattle.hex_cells.proofs.Naming.{read_back}
use Rattle.hex_game.specs.declared.moves.Move.{Move}
use Rattle.hex_game.specs.declared.moves.Move.TheVariants.{Stone, Swap}
use Rattle.sgf_tree.specs.Grammar.{is_white_space}
use Rattle.sgf_game.specs.declared.turns.MoveMeaning.TheVariants.{Plays}
use Rattle.sgf_game.specs.Values.{trimmed}
use Rattle.sgf_game.specs.Lines.{ends}
use Rattle.sgf_game.specs.Setup.{is_size, size_named}
use Rattle.sgf_game.specs.Turns.{said_by}
use Rattle.sgf_game.specs.Record.{text_of}
use Rattle.sgf_game.specs.Playing.{IsMoveOn}

-- ---- without white space

no_space : (x : ℕ) → 33 ≤ x → is_white_space x ≡ false
no_space x h = grind (arith, nat_tests)

trim_one : (a : ℕ) → 33 ≤ a → trimmed (a ∷ []) ≡ a ∷ []
trim_one a h = let e : is_white_space a ≡ false = no_space a h in rw (e, e) refl

trim_two : (a b : ℕ) → 33 ≤ a → 33 ≤ b → trimmed (a ∷ b ∷ []) ≡ a ∷ b ∷ []
trim_two a b h k = let e : is_white_space a ≡ false = no_space a h in
    let f : is_white_space b ≡ false = no_space b k in rw (e, f) refl

trim_three : (a b d : ℕ) → 33 ≤ a → 33 ≤ d → trimmed (a ∷ b ∷ d ∷ []) ≡ a ∷ b ∷ d ∷ []
trim_three a b d h k = let e : is_white_space a ≡ false = no_space a h in
    let f : is_white_space d ≡ false = no_space d k in rw (e, f) refl

pub trim_decimal : (m : ℕ) → m < 100 → trimmed (decimal m) ≡ decimal m
trim_decimal m h = elim (cases_lt m 10) [
  | inl s ↦ subst (λ ds. trimmed ds ≡ ds) (sym (decimal_digit m s))
      (trim_one (48 + m) (omega arith))
  | inr s ↦ subst (λ ds. trimmed ds ≡ ds) (sym (decimal_two m s h))
      (trim_two (48 + m / 10) (48 + m % 10) (omega arith) (omega arith))
]

trim_lettered : (a m : ℕ) → 33 ≤ a → m < 100 → trimmed (a ∷ decimal m) ≡ a ∷ decimal m
trim_lettered a m l h = elim (cases_lt m 10) [
  | inl s ↦ subst (λ ds. trimmed (a ∷ ds) ≡ a ∷ ds) (sym (decimal_digit m s))
      (trim_two a (48 + m) l (omega arith))
  | inr s ↦ subst (λ ds. trimmed (a ∷ ds) ≡ a ∷ ds) (sym (decimal_two m s h))
      (trim_three a (48 + m / 10) (48 + m % 10) l (omega arith))
]

row_below : (n k : ℕ) → n ≤ 11 → k < n * n → k / n + 1 < 100
row_below zero k h l = absurd (omega arith)
row_below (suc n) k h l = let r : k / suc n < suc n = div_below k (suc n) (suc n)
    (omega arith) l in omega arith

pub trim_vertex : (n k : ℕ) → n ≤ 11 → k < n * n → trimmed (vertex_of n k) ≡ vertex_of n k
trim_vertex n k h l = trim_lettered (97 + k % n) (k / n + 1) (omega arith) (row_below n k h l)

pub trim_text : (n : ℕ) (what : Move) → n ≤ 11 → IsMoveOn n what
    → trimmed (text_of n what) ≡ text_of n what
trim_text n Swap h o = refl
trim_text n (Stone k) h o = trim_vertex n k h o

-- ---- words

not_spelled : (text word : List ℕ) → length text ≢ length word
    → str_eq_ignore_ascii_case text word ≡ false
not_spelled text word n
    = elim (cases_Bool (bytes_eq (str_to_ascii_lowercase text) (str_to_ascii_lowercase word))) [
      | inl t ↦ let e : length (str_to_ascii_lowercase text) ≡ length (str_to_ascii_lowercase word)
          = ap length ((bytes_eq-Decides _ _).0 t) in
          absurd (n (sym (length-map text _) ∙ e ∙ length-map word _))
      | inr t ↦ t
    ]

length_lettered : (a m : ℕ) → m < 100 → length (a ∷ decimal m) ≤ 3
length_lettered a m h = elim (cases_lt m 10) [
  | inl s ↦ subst (λ ds. length (a ∷ ds) ≤ 3) (sym (decimal_digit m s)) (omega arith)
  | inr s ↦ subst (λ ds. length (a ∷ ds) ≤ 3) (sym (decimal_two m s h)) (omega arith)
]

short_vertex : (n k : ℕ) → n ≤ 11 → k < n * n → length (vertex_of n k) ≤ 3
short_vertex n k h l = length_lettered (97 + k % n) (k / n + 1) (row_below n k h l)

no_word : (text word : List ℕ) → length text ≤ 3 → 3 < length word
    → str_eq_ignore_ascii_case text word ≡ false
no_word text word h l = not_spelled text word (λ e. absurd (omega arith))

pub no_end_text : (n : ℕ) (what : Move) → n ≤ 11 → IsMoveOn n what → ends (text_of n what) ≡ false
no_end_text n Swap h o =
    or_from _ _ (not_spelled (codes "swap-pieces") (codes "resign") (λ e. absurd (omega arith)))
    (not_spelled (codes "swap-pieces") (codes "forfeit") (λ e. absurd (omega arith)))
no_end_text n (Stone k) h o =
    or_from _ _ (no_word (vertex_of n k) (codes "resign") (short_vertex n k h o) (omega arith))
    (no_word (vertex_of n k) (codes "forfeit") (short_vertex n k h o) (omega arith))

-- what is written of a move says that move
pub said_text : (n : ℕ) (what : Move) → n ≤ 11 → IsMoveOn n what
    → said_by n (text_of n what) ≡ Some (Plays what)
said_text n Swap h o = refl
said_text n (Stone k) h o =
    let swap : str_eq_ignore_ascii_case (vertex_of n k) (codes "swap-pieces") ≡ false
    = no_word (vertex_of n k) (codes "swap-pieces") (short_vertex n k h o) (omega arith) in
    let end : ends (vertex_of n k) ≡ false = no_end_text n (Stone k) h o in
    rw (swap, end) (ap (option_map (λ c. Plays (Stone c))) (read_back n k h o))

-- ---- sizes

same_bytes : (xs : List ℕ) → bytes_eq xs xs ≡ true
same_bytes xs = (bytes_eq-Decides xs xs).1 refl

other_bytes : (xs ys : List ℕ) → xs ≢ ys → bytes_eq xs ys ≡ false
other_bytes xs ys n = elim (cases_Bool (bytes_eq xs ys)) [
  | inl t ↦ absurd (n ((bytes_eq-Decides xs ys).0 t))
  | inr t ↦ t
]

length_decimal : (m : ℕ) → m < 100 → (1 ≤ length (decimal m)) × (length (decimal m) ≤ 2)
length_decimal m h = elim (cases_lt m 10) [
  | inl s ↦ subst (λ ds. (1 ≤ length ds) × (length ds ≤ 2)) (sym (decimal_digit m s))
      (omega arith, omega arith)
  | inr s ↦ subst (λ ds. (1 ≤ length ds) × (length ds ≤ 2)) (sym (decimal_two m s h))
      (omega arith, omega arith)
]

other_size : (n j : ℕ) → n < 100 → j < n → is_size (decimal n) j ≡ false
other_size n j h l =
    let once : bytes_eq (decimal n) (decimal j) ≡ false
    = other_bytes (decimal n) (decimal j)
    (λ e. let same : n ≡ j = decimal_injective n j (omega arith) (omega arith) e in absurd (omega arith)) in
    let twice : bytes_eq (decimal n) (decimal j ++ 58 ∷ decimal j) ≡ false
    = other_bytes (decimal n) (decimal j ++ 58 ∷ decimal j)
    (λ e. too_long (decimal n) (decimal j) (length_decimal n h).1 (length_decimal j (omega arith)).0 (ap length e)) in
    or_from _ _ once twice
  where
    too_long : (xs ys : List ℕ) → length xs ≤ 2 → 1 ≤ length ys
        → length xs ≡ length (ys ++ 58 ∷ ys) → ⊥
    too_long xs ys h l e = let f : length xs ≡ length ys + suc (length ys) = e
        ∙ length-append ys (58 ∷ ys) in omega arith

pub size_read : (n : ℕ) → 1 ≤ n → n ≤ 11 → size_named (trimmed (decimal n)) ≡ Some n
unfolding size_named
size_read n l h =
    let this : is_size (decimal n) n ≡ true = rw same_bytes refl in
    ap size_named (trim_decimal n (omega arith))
    ∙ find_first (is_size (decimal n)) 1 11 n l (omega arith) this
    (λ j u v. other_size n j (omega arith) v)
