-- The neighbours of a cell by its number, and a set moved in the six directions.
use Rattle.std.proofs.Common.{◌≡◌, ℕ, ◌+◌, ◌-◌, ◌*◌, ◌/◌, ◌%◌, ◌<◌, ◌≤◌, ◌==◌, ◌≢◌, ◌&&◌, ◌||◌, not}
use Rattle.std.proofs.Common.{true, false, Bool, nat_lt, refl, sym, ◌∙◌, ap, arith, inl, inr}
use Rattle.std.proofs.Common.{IsTrue, ◌⊎◌, ◌↔◌, subst, zero, suc}
use Rattle.std.proofs.lemmas.Bool.{and_parts, or_cases, ltb-true, lt-ltb}
use Rattle.std.proofs.lemmas.Bool.Decides.{nat_tests}
use Rattle.std.proofs.lemmas.Nat.{div-mul-add, mod-mul-add, div-add-mod', mod_below}
use Rattle.hex_cells.specs.Sets.{has}
use Rattle.hex_cells.specs.Graph.{Adjacent, Neighbour, Bordered, east, west, south, north}
use Rattle.hex_cells.specs.Graph.{north_east, south_west}

-- the column and the row of a number
pub place : (n q r b : ℕ) → r < n → b ≡ q * n + r → (b % n ≡ r) × (b / n ≡ q)
place n q r b h e = rw e (mod-mul-add q n r h, div-mul-add q n r h)

pub to_east : (n a b : ℕ) → 0 < n → b ≡ a + 1 → a % n ≢ n - 1 → Adjacent n a b
to_east n a b p e h =
    let m : a % n < n = mod_below a n p in
    let f : a / n * n + a % n ≡ a = div-add-mod' a n in
    let t = place n (a / n) (a % n + 1) b (omega arith) (omega arith) in east t.0 t.1

pub to_west : (n a b : ℕ) → 0 < n → a ≡ b + 1 → a % n ≢ 0 → Adjacent n a b
to_west n a b p e h =
    let m : a % n < n = mod_below a n p in
    let f : a / n * n + a % n ≡ a = div-add-mod' a n in
    let t = place n (a / n) (a % n - 1) b (omega arith) (omega arith) in west (omega arith) t.1

pub to_south : (n a b : ℕ) → 0 < n → b ≡ a + n → Adjacent n a b
to_south n a b p e =
    let m : a % n < n = mod_below a n p in
    let f : a / n * n + a % n ≡ a = div-add-mod' a n in
    let t = place n (a / n + 1) (a % n) b m (omega arith) in south t.0 t.1

pub to_north : (n a b : ℕ) → 0 < n → a ≡ b + n → Adjacent n a b
to_north n a b p e =
    let m : b % n < n = mod_below b n p in
    let f : b / n * n + b % n ≡ b = div-add-mod' b n in
    let t = place n (b / n + 1) (b % n) a m (omega arith) in north (sym t.0) t.1

pub to_south_west : (n a b : ℕ) → 0 < n → b ≡ a + (n - 1) → a % n ≢ 0 → Adjacent n a b
to_south_west n a b p e h =
    let m : a % n < n = mod_below a n p in
    let f : a / n * n + a % n ≡ a = div-add-mod' a n in
    let t = place n (a / n + 1) (a % n - 1) b (omega arith) (omega arith) in
    south_west (omega arith) t.1

ne_of : (n a b q r : ℕ) → 0 < n → q * n + r ≡ a → r < n → r ≢ n - 1 → a ≡ b + (n - 1)
    → (b % n ≡ r + 1) × (q ≡ b / n + 1)
ne_of n a b zero r p f m h e = absurd (omega arith)
ne_of n a b (suc q) r p f m h e = let t = place n q (r + 1) b (omega arith) (omega arith) in
    (t.0, omega arith)

pub to_north_east : (n a b : ℕ) → 0 < n → a ≡ b + (n - 1) → a % n ≢ n - 1 → Adjacent n a b
to_north_east n a b p e h =
    let t = ne_of n a b (a / n) (a % n) p (div-add-mod' a n) (mod_below a n p) h e in
    north_east t.0 t.1

-- ---- from columns and rows to numbers
from_row : (n a b : ℕ) → a / n ≡ b / n → a / n * n ≡ b / n * n
from_row n a b e = ap (λ q. q * n) e

from_next : (n a b : ℕ) → a / n ≡ b / n + 1 → a / n * n ≡ b / n * n + n
from_next n a b e = let f : a / n * n ≡ (b / n + 1) * n = ap (λ q. q * n) e in omega arith

any_of : (a b c d e f al : Bool) (P : Type 0) → ((((a || b) || (c || d)) || (e || f)) && al) ≡ true
    → (a ≡ true → al ≡ true → P) → (b ≡ true → al ≡ true → P) → (c ≡ true → al ≡ true → P)
    → (d ≡ true → al ≡ true → P) → (e ≡ true → al ≡ true → P) → (f ≡ true → al ≡ true → P) → P
any_of a b c d e f al P h ka kb kc kd ke kf =
    let t = and_parts (((a || b) || (c || d)) || (e || f)) al h in
    elim (or_cases ((a || b) || (c || d)) (e || f) t.0) [
      | inl u ↦ elim (or_cases (a || b) (c || d) u) [
        | inl v ↦ elim (or_cases a b v) [ inl w ↦ ka w t.1 | inr w ↦ kb w t.1 ]
        | inr v ↦ elim (or_cases c d v) [ inl w ↦ kc w t.1 | inr w ↦ kd w t.1 ]
      ]
      | inr v ↦ elim (or_cases e f v) [ inl w ↦ ke w t.1 | inr w ↦ kf w t.1 ]
    ]

some_of : (a b c d e f al : Bool) → al ≡ true
    → ((a ≡ true) ⊎ ((b ≡ true) ⊎ ((c ≡ true) ⊎ ((d ≡ true) ⊎ ((e ≡ true) ⊎ (f ≡ true))))))
    → ((((a || b) || (c || d)) || (e || f)) && al) ≡ true
some_of a b c d e f al h o = grind arith

cut_out : (x : Bool) (k m c v : ℕ) → ((x && nat_lt k m) && not (nat_lt k m && c == v)) ≡ true
    → (x ≡ true) × (k < m) × (c ≢ v)
cut_out x k m c v h
    = (grind (arith, nat_tests), grind (arith, nat_tests), λ e. grind (arith, nat_tests))

cut_in : (x : Bool) (k m c v : ℕ) → x ≡ true → k < m → c ≢ v
    → ((x && nat_lt k m) && not (nat_lt k m && c == v)) ≡ true
cut_in x k m c v h l n = grind (arith, nat_tests)

here_out : (x : Bool) (k m : ℕ) → (x && nat_lt k m) ≡ true → (x ≡ true) × (k < m)
here_out x k m h = (grind (arith, nat_tests), grind (arith, nat_tests))

here_in : (x : Bool) (k m : ℕ) → x ≡ true → k < m → (x && nat_lt k m) ≡ true
here_in x k m h l = grind (arith, nat_tests)

moved_out : (al y : Bool) (d j : ℕ) → (al && (not (nat_lt d j) && y)) ≡ true → (j ≤ d) × (y ≡ true)
moved_out al y d j h = (grind (arith, nat_tests), grind (arith, nat_tests))

moved_in : (al y : Bool) (d j : ℕ) → al ≡ true → j ≤ d → y ≡ true
    → (al && (not (nat_lt d j) && y)) ≡ true
moved_in al y d j h l e = grind (arith, nat_tests)

-- the sets that `around` cuts out of s, before it moves them
pub record Cuts (n s all here left right : ℕ) : Type 0 where
  pub low : 0 < n
  pub on : (k : ℕ) → has all k ≡ nat_lt k (n * n)
  pub whole : (k : ℕ) → has here k ≡ (has s k && nat_lt k (n * n))
  pub not_last : (k : ℕ)
      → has left k ≡ ((has s k && nat_lt k (n * n)) && not (nat_lt k (n * n) && k % n == n - 1))
  pub not_first : (k : ℕ)
      → has right k ≡ ((has s k && nat_lt k (n * n)) && not (nat_lt k (n * n) && k % n == 0))

abbrev pub moved : ℕ → ℕ → ℕ → ℕ → ℕ → ℕ → Bool
moved n all here left right d
    = (((((has all d && (not (nat_lt d 1) && has left (d - 1))) || has right (d + 1))
    || ((has all d && (not (nat_lt d n) && has here (d - n))) || has here (d + n)))
    || (has left (d + (n - 1)) || (has all d && (not (nat_lt d (n - 1)) && has right (d - (n - 1)))))) && has all d)

beside : (n s c d : ℕ) → has s c ≡ true → c < n * n → d < n * n → Adjacent n c d → Bordered n s d
beside n s c d h l m t = (c, h, record { from = l; to = m; step = t })

pub around_out : (n s all here left right d : ℕ) → Cuts n s all here left right
    → moved n all here left right d ≡ true → Bordered n s d
around_out n s all here left right d k h = any_of _ _ _ _ _ _ _ (Bordered n s d) h
    (λ e a. let u : (1 ≤ d) × (has left (d - 1) ≡ true) = moved_out _ _ d 1 e in let t = cut_out (has s (d - 1)) (d - 1) (n * n) ((d - 1) % n) (n - 1)
    (sym (k.not_last (d - 1)) ∙ u.1) in
    beside n s (d - 1) d t.0 t.1 (ltb-true _ _ (sym (k.on d) ∙ a))
    (to_east n _ d k.low (omega arith) t.2))
    (λ e a. let t = cut_out (has s (d + 1)) (d + 1) (n * n) ((d + 1) % n) 0 (sym (k.not_first (d + 1)) ∙ e) in
    beside n s (d + 1) d t.0 t.1 (ltb-true _ _ (sym (k.on d) ∙ a)) (to_west n _ d k.low refl t.2))
    (λ e a. let u : (n ≤ d) × (has here (d - n) ≡ true) = moved_out _ _ d n e in let t = here_out (has s (d - n)) (d - n) (n * n) (sym (k.whole (d - n))
    ∙ u.1) in
    beside n s (d - n) d t.0 t.1 (ltb-true _ _ (sym (k.on d) ∙ a))
    (to_south n _ d k.low (omega arith)))
    (λ e a. let t = here_out (has s (d + n)) (d + n) (n * n) (sym (k.whole (d + n)) ∙ e) in
    beside n s (d + n) d t.0 t.1 (ltb-true _ _ (sym (k.on d) ∙ a)) (to_north n _ d k.low refl))
    (λ e a. let t = cut_out (has s (d + (n - 1))) (d + (n - 1)) (n * n) ((d + (n - 1)) % n) (n - 1) (sym (k.not_last (d + (n - 1))) ∙ e) in
    beside n s (d + (n - 1)) d t.0 t.1 (ltb-true _ _ (sym (k.on d) ∙ a))
    (to_north_east n _ d k.low refl t.2))
    (λ e a. let u : (n - 1 ≤ d) × (has right (d - (n - 1)) ≡ true) = moved_out _ _ d (n - 1) e in let t = cut_out (has s (d - (n - 1))) (d - (n - 1)) (n * n)
    ((d - (n - 1)) % n) 0 (sym (k.not_first (d - (n - 1))) ∙ u.1) in
    beside n s (d - (n - 1)) d t.0 t.1 (ltb-true _ _ (sym (k.on d) ∙ a))
    (to_south_west n _ d k.low (omega arith) t.2))

-- ---- and back
n_east : (n c d : ℕ) → 0 < n → d % n ≡ c % n + 1 → d / n ≡ c / n → (d ≡ c + 1) × (c % n ≢ n - 1)
n_east n c d p e f =
    let x : c / n * n + c % n ≡ c = div-add-mod' c n in
    let y : d / n * n + d % n ≡ d = div-add-mod' d n in
    let r : d / n * n ≡ c / n * n = from_row n d c f in let m : d % n < n = mod_below d n p in
    (omega arith, λ h. omega arith)

n_west : (n c d : ℕ) → 0 < n → c % n ≡ d % n + 1 → d / n ≡ c / n → (c ≡ d + 1) × (c % n ≢ 0)
n_west n c d p e f =
    let x : c / n * n + c % n ≡ c = div-add-mod' c n in
    let y : d / n * n + d % n ≡ d = div-add-mod' d n in
    let r : d / n * n ≡ c / n * n = from_row n d c f in (omega arith, λ h. omega arith)

n_south : (n c d : ℕ) → d % n ≡ c % n → d / n ≡ c / n + 1 → d ≡ c + n
n_south n c d e f =
    let x : c / n * n + c % n ≡ c = div-add-mod' c n in
    let y : d / n * n + d % n ≡ d = div-add-mod' d n in
    let r : d / n * n ≡ c / n * n + n = from_next n d c f in omega arith

n_south_west : (n c d : ℕ) → 0 < n → c % n ≡ d % n + 1 → d / n ≡ c / n + 1
    → (d ≡ c + (n - 1)) × (c % n ≢ 0)
n_south_west n c d p e f =
    let x : c / n * n + c % n ≡ c = div-add-mod' c n in
    let y : d / n * n + d % n ≡ d = div-add-mod' d n in
    let r : d / n * n ≡ c / n * n + n = from_next n d c f in (omega arith, λ h. omega arith)

n_north_east : (n c d : ℕ) → 0 < n → d % n ≡ c % n + 1 → c / n ≡ d / n + 1
    → (c ≡ d + (n - 1)) × (c % n ≢ n - 1)
n_north_east n c d p e f =
    let x : c / n * n + c % n ≡ c = div-add-mod' c n in
    let y : d / n * n + d % n ≡ d = div-add-mod' d n in
    let r : c / n * n ≡ d / n * n + n = from_next n c d f in let m : d % n < n = mod_below d n p in
    (omega arith, λ h. omega arith)

left_in : (n s all here left right x c : ℕ) → Cuts n s all here left right → x ≡ c → has s c ≡ true
    → c < n * n → c % n ≢ n - 1 → has left x ≡ true
left_in n s all here left right x c k e h l m
    = rw e (k.not_last c ∙ cut_in (has s c) c (n * n) (c % n) (n - 1) h l m)

right_in : (n s all here left right x c : ℕ) → Cuts n s all here left right → x ≡ c → has s c ≡ true
    → c < n * n → c % n ≢ 0 → has right x ≡ true
right_in n s all here left right x c k e h l m
    = rw e (k.not_first c ∙ cut_in (has s c) c (n * n) (c % n) 0 h l m)

whole_in : (n s all here left right x c : ℕ) → Cuts n s all here left right → x ≡ c → has s c ≡ true
    → c < n * n → has here x ≡ true
whole_in n s all here left right x c k e h l = rw e (k.whole c ∙ here_in (has s c) c (n * n) h l)

pub around_in : (n s all here left right d c : ℕ) → Cuts n s all here left right → has s c ≡ true
    → Neighbour n c d → moved n all here left right d ≡ true
around_in n s all here left right d c k h b =
    let a : has all d ≡ true = k.on d ∙ lt-ltb d (n * n) b.to in
    let p : 0 < n = k.low in
    let q : c < n * n = b.from in
    some_of _ _ _ _ _ _ _ a (elim b.step [
      | east e f ↦ let t = n_east n c d p e f in
          inl (moved_in _ _ d 1 a (omega arith) (left_in n s all here left right (d - 1) c k (omega arith) h q t.1))
      | west e f ↦ let t = n_west n c d p e f in
          inr (inl (right_in n s all here left right (d + 1) c k (sym t.0) h q t.1))
      | south e f ↦ let t : d ≡ c + n = n_south n c d e f in
          inr (inr (inl (moved_in _ _ d n a (omega arith) (whole_in n s all here left right (d - n) c k (omega arith) h q))))
      | north e f ↦ let t : c ≡ d + n = n_south n d c (sym e) f in
          inr (inr (inr (inl (whole_in n s all here left right (d + n) c k (sym t) h q))))
      | north_east e f ↦ let t = n_north_east n c d p e f in
          inr (inr (inr (inr (inl (left_in n s all here left right (d + (n - 1)) c k (sym t.0) h q t.1)))))
      | south_west e f ↦ let t = n_south_west n c d p e f in
          inr (inr (inr (inr (inr (moved_in _ _ d (n - 1) a (omega arith) (right_in n s all here left right (d - (n - 1)) c k (omega arith) h q t.1))))))
    ])

one_is : (k c : ℕ) (x : Bool) → x ≡ false → (x || k == c) ≡ true → k ≡ c
one_is k c x e h = grind (arith, nat_tests)

is_one : (k : ℕ) (x : Bool) → (x || k == k) ≡ true
is_one k x = grind (arith, nat_tests)

-- the neighbours of the one cell of a set
pub only_cell : (n none one c d : ℕ) (x : Bool) → ((k : ℕ) → has one k ≡ (has none k || k == c))
    → ((k : ℕ) → has none k ≡ false)
    → IsTrue x ↔ Bordered n one d → IsTrue x ↔ Neighbour n c d
only_cell n none one c d x e f h = (
  (λ u. let t = h.0 u in subst (λ v. Neighbour n v d) (one_is t.0 c (has none t.0) (f t.0) (sym (e t.0) ∙ t.1)) t.2),
  (λ b. h.1 (c, e c ∙ is_one c (has none c), b)),
)

-- the same, as `around` puts it together: two steps lead to the next row
abbrev pub gathered : ℕ → ℕ → ℕ → ℕ → ℕ → ℕ → Bool
gathered n all here left right d
    = (((((has all d && (not (nat_lt d 1) && has left (d - 1))) || has right (d + 1))
    || (has all d && (not (nat_lt d (n - 1)) && ((has all (d - (n - 1)) && (not (nat_lt (d - (n - 1)) 1) && has here (d - (n - 1) - 1)))
    || has right (d - (n - 1))))))
    || (has here (d + (n - 1) + 1) || has left (d + (n - 1)))) && has all d)

two_steps : (x y h r : Bool) (d n b : ℕ) → b + 1 ≡ n → (x ≡ true → y ≡ true)
    → (x && (not (nat_lt d b) && ((y && (not (nat_lt (d - b) 1) && h)) || r))) ≡ ((x && (not (nat_lt d n) && h)) || (x && (not (nat_lt d b) && r)))
two_steps false y h r d n b e f = refl
two_steps true y h r d n b e f = let t : y ≡ true = f refl in grind (arith, nat_tests)

regroup : (a b c d e f s t al : Bool) → s ≡ (c || f) → t ≡ (d || e)
    → ((((a || b) || s) || t) && al) ≡ ((((a || b) || (c || d)) || (e || f)) && al)
regroup a b c d e f s t al p q = rw (p, q) (shuffle a b c d e f al)
  where
    shuffle : (a b c d e f al : Bool)
        → ((((a || b) || (c || f)) || (d || e)) && al) ≡ ((((a || b) || (c || d)) || (e || f)) && al)
    shuffle a b c d e f al = grind arith

pub gathered_moved : (n s all here left right d : ℕ) → Cuts n s all here left right
    → gathered n all here left right d ≡ moved n all here left right d
gathered_moved n s all here left right d k =
    let p : 0 < n = k.low in
    let u : d - (n - 1) - 1 ≡ d - n = omega arith in
    let v : d + (n - 1) + 1 ≡ d + n = omega arith in
    let f : has all d ≡ true → has all (d - (n - 1)) ≡ true = λ h. k.on (d - (n - 1))
    ∙ lt-ltb (d - (n - 1)) (n * n)
    (below d (n - 1) (n * n) (ltb-true d (n * n) (sym (k.on d) ∙ h))) in
    let w : n - 1 + 1 ≡ n = omega arith in
    regroup (has all d && (not (nat_lt d 1) && has left (d - 1))) (has right (d + 1))
    (has all d && (not (nat_lt d n) && has here (d - n))) (has here (d + n))
    (has left (d + (n - 1))) (has all d && (not (nat_lt d (n - 1)) && has right (d - (n - 1))))
    (has all d && (not (nat_lt d (n - 1)) && ((has all (d - (n - 1)) && (not (nat_lt (d - (n - 1)) 1) && has here (d - (n - 1) - 1)))
    || has right (d - (n - 1)))))
    (has here (d + (n - 1) + 1) || has left (d + (n - 1))) (has all d)
    (ap (λ x. has all d && (not (nat_lt d (n - 1)) && ((has all (d - (n - 1)) && (not (nat_lt (d - (n - 1)) 1) && has here x)) || has right (d - (n - 1))))) u
    ∙ two_steps (has all d) (has all (d - (n - 1))) (has here (d - n)) (has right (d - (n - 1))) d n
    (n - 1) w f)
    (ap (λ x. has here x || has left (d + (n - 1))) v)
  where
    below : (d b m : ℕ) → d < m → d - b < m
    below d b m l = omega arith
