-- Numbers of pairs.
use Rattle.std.proofs.Common.{◌≡◌, ℕ, ◌+◌, ◌-◌, ◌*◌, ◌/◌, ◌<◌, ◌≤◌, zero, suc, refl, sym, ◌∙◌, ap}
use Rattle.std.proofs.Common.{subst, arith, inl, inr}
use Rattle.std.proofs.lemmas.Bool.{cases_order}
use Rattle.conn_store.specs.Index.{pairs_among, number_of_pair}

-- how many pairs n elements make, by one element more
pairs_up : ℕ → ℕ
pairs_up zero = 0
pairs_up (suc n) = pairs_up n + n

twice : (n : ℕ) → pairs_up n + pairs_up n ≡ n * (n - 1)
unfolding pairs_up
twice zero = refl
twice (suc zero) = refl
twice (suc (suc n)) =
    let r : pairs_up (suc n) + pairs_up (suc n) ≡ (suc n) * (suc n - 1) = twice (suc n) in
    let e : suc n - 1 ≡ n = omega arith in
    let f : suc (suc n) - 1 ≡ suc n = omega arith in
    let g : pairs_up (suc n) + pairs_up (suc n) ≡ (suc n) * n = r ∙ ap (λ v. (suc n) * v) e in
    let h : (pairs_up (suc n) + suc n) + (pairs_up (suc n) + suc n) ≡ (suc (suc n)) * (suc n)
    = omega arith in
    h ∙ ap (λ v. (suc (suc n)) * v) (sym f)

half : (a b : ℕ) → a + a ≡ b → b / 2 ≡ a
half a b h = omega arith

pairs_are : (n : ℕ) → pairs_among n ≡ pairs_up n
pairs_are n = half (pairs_up n) (n * (n - 1)) (twice n)

pub pairs_more : (n : ℕ) → pairs_among (suc n) ≡ pairs_among n + n
unfolding pairs_up
pairs_more n = pairs_are (suc n) ∙ ap (λ v. v + n) (sym (pairs_are n))

rise : (d n : ℕ) → pairs_among n ≤ pairs_among (d + n)
rise zero n = let e : 0 + n ≡ n = omega arith in subst (λ v. pairs_among n ≤ pairs_among v) (sym e)
    (omega arith)
rise (suc d) n =
    let e : suc d + n ≡ suc (d + n) = omega arith in
    let r : pairs_among n ≤ pairs_among (d + n) = rise d n in
    let s : pairs_among (suc (d + n)) ≡ pairs_among (d + n) + (d + n) = pairs_more (d + n) in
    subst (λ v. pairs_among n ≤ pairs_among v) (sym e) (omega arith)

pub pairs_rise : (m n : ℕ) → m ≤ n → pairs_among m ≤ pairs_among n
pairs_rise m n l = let e : (n - m) + m ≡ n = omega arith in
    subst (λ v. pairs_among m ≤ pairs_among v) e (rise (n - m) m)

pub pair_below : (x y n : ℕ) → x < y → y < n → number_of_pair x y < pairs_among n
pair_below x y n l m =
    let s : pairs_among (suc y) ≡ pairs_among y + y = pairs_more y in
    let r : pairs_among (suc y) ≤ pairs_among n = pairs_rise (suc y) n (omega arith) in omega arith

pub same_pair : (x y v w : ℕ) → x < y → v < w → number_of_pair x y ≡ number_of_pair v w
    → (x ≡ v) × (y ≡ w)
same_pair x y v w l m e = elim (cases_order y w) [
  | inl q ↦ let r : pairs_among y ≡ pairs_among w = ap pairs_among q in (omega arith, q)
  | inr o ↦ elim o [
    | inl b ↦ let r : number_of_pair x y < pairs_among w = pair_below x y w l b in
        absurd (omega arith)
    | inr b ↦ let r : number_of_pair v w < pairs_among y = pair_below v w y m b in
        absurd (omega arith)
  ]
]

pub pairs_few : (n : ℕ) → n ≤ 123 → pairs_among n ≤ 7503
pairs_few n l = pairs_rise n 123 l
