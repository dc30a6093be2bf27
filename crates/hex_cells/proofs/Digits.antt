-- Numbers of one and two digits in decimal.
use Rattle.std.proofs.Common.{◌≡◌, ℕ, ◌+◌, ◌*◌, ◌/◌, ◌%◌, ◌<◌, ◌≤◌, ◌⊎◌, List, [], ◌∷◌, ◌++◌}
use Rattle.std.proofs.Common.{length, get_or, set, take, drop, map, refl, sym, ◌∙◌, ap, arith, inl}
use Rattle.std.proofs.Common.{inr, suc}
use Rattle.std.specs.Fmt.{decimal}
use Rattle.std.specs.Int.Digits.{digits_of}
use Rattle.std.proofs.lemmas.Bool.{cases_lt}
use Rattle.std.proofs.lemmas.Fmt.{decimal_digit, decimal-digits_of}
use Rattle.std.proofs.lemmas.Int.Digits.{digits_of_step}
use Rattle.std.proofs.lemmas.List.{take-append-le}
use borrow.Rule.Slice.PartMut.{put_mid}
use Rattle.hex_cells.specs.Vertices.{vertex_of}

no_digits : (n : ℕ) → n ≡ 0 → digits_of 10 n ≡ []
no_digits n e = rw e refl

one_digit : (d : ℕ) → 0 < d → d < 10 → digits_of 10 d ≡ d ∷ []
one_digit d p h =
    let e : d % 10 ≡ d = omega arith in
    digits_of_step 10 d (omega arith) p
    ∙ (ap (λ v. v ++ (d % 10 ∷ [])) (no_digits (d / 10) (omega arith)) ∙ ap (λ v. v ∷ []) e)

-- a number of two digits in decimal
pub decimal_two : (m : ℕ) → 10 ≤ m → m < 100 → decimal m ≡ (48 + m / 10) ∷ (48 + m % 10) ∷ []
decimal_two m l h =
    decimal-digits_of m (omega arith) (omega arith) ∙ ap (λ v. map (λ d. 48 + d) v)
    (digits_of_step 10 m (omega arith) (omega arith) ∙ ap (λ v. v ++ (m % 10 ∷ [])) (one_digit (m / 10) (omega arith) (omega arith)))

-- what the list d is, if it is the decimal of m, from 1 to 99
data Form (d : List ℕ) (m : ℕ) : Type 0 where
  short : length d ≡ 1 → get_or d 0 0 ≡ 48 + m → m < 10 → Form d m
  long : length d ≡ 2 → get_or d 0 0 ≡ 48 + m / 10 → get_or d 1 0 ≡ 48 + m % 10 → 10 ≤ m → Form d m

form : (d : List ℕ) (m : ℕ) → 1 ≤ m → m ≤ 99 → d ≡ decimal m → Form d m
form d m l h e = elim (cases_lt m 10) [
  | inl s ↦ let f : d ≡ (48 + m) ∷ [] = e ∙ decimal_digit m s in
      short (ap length f) (ap (λ v. get_or v 0 0) f) s
  | inr s ↦ let f : d ≡ (48 + m / 10) ∷ (48 + m % 10) ∷ [] = e ∙ decimal_two m s (omega arith) in
      long (ap length f) (ap (λ v. get_or v 0 0) f) (ap (λ v. get_or v 1 0) f) s
]

pub no_length : (d : List ℕ) (m : ℕ) → (length d ≡ 0) ⊎ ((length d ≡ 0 → ⊥) × 2 < length d) → 1 ≤ m
    → m ≤ 99 → d ≡ decimal m → ⊥
no_length d m o l h e = elim (form d m l h e) [
  | short a b s ↦ elim o [ inl z ↦ absurd (omega arith) | inr z ↦ absurd (omega (arith, z.1)) ]
  | long a b g s ↦ elim o [ inl z ↦ absurd (omega arith) | inr z ↦ absurd (omega (arith, z.1)) ]
]

pub no_first : (d : List ℕ) (m : ℕ) → ((k : ℕ) → 1 ≤ k → k < 10 → get_or d 0 0 ≡ 48 + k → ⊥) → 1 ≤ m
    → m ≤ 99 → d ≡ decimal m → ⊥
no_first d m f l h e
    = elim (form d m l h e) [ short a b s ↦ f m l s b | long a b g s ↦ f (m / 10) (omega arith) (omega arith) b ]

pub no_second : (d : List ℕ) (m : ℕ) → (length d ≡ 1 → ⊥)
    → ((k : ℕ) → 0 ≤ k → k < 10 → get_or d 1 0 ≡ 48 + k → ⊥) → 1 ≤ m → m ≤ 99 → d ≡ decimal m → ⊥
no_second d m n f l h e
    = elim (form d m l h e) [ short a b s ↦ absurd (n a) | long a b g s ↦ f (m % 10) (omega arith) (omega arith) g ]

one_item : (d : List ℕ) → length d ≡ 1 → d ≡ get_or d 0 0 ∷ []
one_item [] e = absurd (omega arith)
one_item (x ∷ []) e = refl
one_item (x ∷ y ∷ d) e = absurd (omega arith)

two_items : (d : List ℕ) → length d ≡ 2 → d ≡ get_or d 0 0 ∷ get_or d 1 0 ∷ []
two_items [] e = absurd (omega arith)
two_items (x ∷ []) e = absurd (omega arith)
two_items (x ∷ y ∷ []) e = refl
two_items (x ∷ y ∷ z ∷ d) e = absurd (omega arith)

pub some_one : (d : List ℕ) (k : ℕ) → length d ≡ 1 → 1 ≤ k → k < 10 → get_or d 0 0 ≡ 48 + k
    → (1 ≤ k) × (k ≤ 99) × (d ≡ decimal k)
some_one d k e n l f
    = (omega arith, omega arith, one_item d e ∙ (ap (λ v. v ∷ []) f ∙ sym (decimal_digit k l)))

pub some_two : (d : List ℕ) (q r : ℕ) → length d ≡ 2 → 1 ≤ q → q < 10 → r < 10
    → get_or d 0 0 ≡ 48 + q → get_or d 1 0 ≡ 48 + r
    → (1 ≤ 10 * q + r) × (10 * q + r ≤ 99) × (d ≡ decimal (10 * q + r))
some_two d q r e n l h f g =
    let a : (10 * q + r) / 10 ≡ q = omega arith in
    let b : (10 * q + r) % 10 ≡ r = omega arith in (
      omega arith,
      omega arith,
      two_items d e ∙ (ap (λ v. v ∷ get_or d 1 0 ∷ []) f ∙ (ap (λ v. (48 + q) ∷ v ∷ []) g
          ∙ sym (decimal_two (10 * q + r) (omega arith) (omega arith)
          ∙ (ap (λ v. (48 + v) ∷ (48 + (10 * q + r) % 10) ∷ []) a ∙ ap (λ v. (48 + q) ∷ (48 + v) ∷ []) b)))),
    )

-- what stands at the front of two bytes or more after one or two are written
pub front_one : (o : List ℕ) (x : ℕ) → 2 ≤ length o → take 1 (set o 0 x) ≡ x ∷ []
front_one [] x e = absurd (omega arith)
front_one (a ∷ o) x e = refl

pub front_two : (o : List ℕ) (x y : ℕ) → 2 ≤ length o → take 2 (set (set o 0 x) 1 y) ≡ x ∷ y ∷ []
front_two [] x y e = absurd (omega arith)
front_two (a ∷ []) x y e = absurd (omega arith)
front_two (a ∷ b ∷ o) x y e = refl

-- what stands at the front of bytes after one is written, and after it others
pub front_then : (o d : List ℕ) (x w : ℕ) → 1 ≤ length o → w ≤ length d
    → take (1 + w) (put_mid 1 2 (set o 0 x) d) ≡ x ∷ take w d
front_then [] d x w h l = absurd (omega arith)
front_then (a ∷ o) d x w h l = ap (λ n. take n (x ∷ d ++ drop 2 o)) (one_more w)
    ∙ ap (λ v. x ∷ v) (take-append-le w d (drop 2 o) l)
  where
    one_more : (w : ℕ) → 1 + w ≡ suc w
    one_more w = omega arith

pub vertex_is : (n k c r : ℕ) (d : List ℕ) → c ≡ k % n → r ≡ k / n → d ≡ decimal (r + 1)
    → (97 + c) ∷ d ≡ vertex_of n k
vertex_is n k c r d e f g = ap (λ v. (97 + c) ∷ v) g
    ∙ (ap (λ v. (97 + v) ∷ decimal (r + 1)) e ∙ ap (λ v. (97 + k % n) ∷ decimal (v + 1)) f)
