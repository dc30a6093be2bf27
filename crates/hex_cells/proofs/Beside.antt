-- The test of neighbours passes exactly at neighbours.
use Rattle.std.proofs.Common.{◌≡◌, ℕ, ◌+◌, ◌*◌, ◌/◌, ◌%◌, ◌==◌, ◌&&◌, ◌||◌, ◌⊎◌, ◌↔◌, IsTrue, true}
use Rattle.std.proofs.Common.{false, Bool, nat_lt, refl, sym, arith, inl, inr}
use Rattle.std.proofs.lemmas.Bool.{and_parts, and_from, or_cases, ltb-true, lt-ltb}
use Rattle.std.proofs.lemmas.Bool.Decides.{nat_tests}
use Rattle.hex_cells.specs.Graph.{Adjacent, Neighbour, is_adjacent, is_neighbour, east, west, south}
use Rattle.hex_cells.specs.Graph.{north, north_east, south_west}

pair_out : (x y u v : ℕ) → (x == y && u == v) ≡ true → (x ≡ y) × (u ≡ v)
pair_out x y u v h = (grind (arith, nat_tests), grind (arith, nat_tests))

pair_in : (x y u v : ℕ) → x ≡ y → u ≡ v → (x == y && u == v) ≡ true
pair_in x y u v e f = grind (arith, nat_tests)

one_of : (a b c d e f : Bool) (P : Type 0) → (((a || b) || (c || d)) || (e || f)) ≡ true
    → (a ≡ true → P) → (b ≡ true → P) → (c ≡ true → P) → (d ≡ true → P) → (e ≡ true → P)
    → (f ≡ true → P) → P
one_of a b c d e f P h ka kb kc kd ke kf = elim (or_cases ((a || b) || (c || d)) (e || f) h) [
  | inl u ↦ elim (or_cases (a || b) (c || d) u) [
    | inl v ↦ elim (or_cases a b v) [ inl w ↦ ka w | inr w ↦ kb w ]
    | inr v ↦ elim (or_cases c d v) [ inl w ↦ kc w | inr w ↦ kd w ]
  ]
  | inr v ↦ elim (or_cases e f v) [ inl w ↦ ke w | inr w ↦ kf w ]
]

any_six : (a b c d e f : Bool)
    → ((a ≡ true) ⊎ ((b ≡ true) ⊎ ((c ≡ true) ⊎ ((d ≡ true) ⊎ ((e ≡ true) ⊎ (f ≡ true))))))
    → (((a || b) || (c || d)) || (e || f)) ≡ true
any_six a b c d e f o = grind arith

adjacent_out : (n a b : ℕ) → is_adjacent (a % n) (a / n) (b % n) (b / n) ≡ true → Adjacent n a b
adjacent_out n a b h = one_of _ _ _ _ _ _ (Adjacent n a b) h
    (λ e. let t = pair_out (b % n) (a % n + 1) (b / n) (a / n) e in east t.0 t.1)
    (λ e. let t = pair_out (a % n) (b % n + 1) (b / n) (a / n) e in west t.0 t.1)
    (λ e. let t = pair_out (b % n) (a % n) (b / n) (a / n + 1) e in south t.0 t.1)
    (λ e. let t = pair_out (b % n) (a % n) (a / n) (b / n + 1) e in north t.0 t.1)
    (λ e. let t = pair_out (b % n) (a % n + 1) (a / n) (b / n + 1) e in north_east t.0 t.1)
    (λ e. let t = pair_out (a % n) (b % n + 1) (b / n) (a / n + 1) e in south_west t.0 t.1)

steps_in : (c r d q : ℕ)
    → ((d == c + 1 && q == r) ≡ true) ⊎ (((c == d + 1 && q == r) ≡ true)
    ⊎ (((d == c && q == r + 1) ≡ true) ⊎ (((d == c && r == q + 1) ≡ true) ⊎ (((d == c + 1 && r == q + 1) ≡ true) ⊎ ((c == d + 1 && q == r + 1) ≡ true)))))
    → is_adjacent c r d q ≡ true
steps_in c r d q o = any_six (d == c + 1 && q == r) (c == d + 1 && q == r) (d == c && q == r + 1)
    (d == c && r == q + 1) (d == c + 1 && r == q + 1) (c == d + 1 && q == r + 1) o

adjacent_in : (n a b : ℕ) → Adjacent n a b → is_adjacent (a % n) (a / n) (b % n) (b / n) ≡ true
adjacent_in n a b (east e f) = steps_in (a % n) (a / n) (b % n) (b / n) (inl (pair_in _ _ _ _ e f))
adjacent_in n a b (west e f)
    = steps_in (a % n) (a / n) (b % n) (b / n) (inr (inl (pair_in _ _ _ _ e f)))
adjacent_in n a b (south e f)
    = steps_in (a % n) (a / n) (b % n) (b / n) (inr (inr (inl (pair_in _ _ _ _ e f))))
adjacent_in n a b (north e f)
    = steps_in (a % n) (a / n) (b % n) (b / n) (inr (inr (inr (inl (pair_in _ _ _ _ e f)))))
adjacent_in n a b (north_east e f)
    = steps_in (a % n) (a / n) (b % n) (b / n) (inr (inr (inr (inr (inl (pair_in _ _ _ _ e f))))))
adjacent_in n a b (south_west e f)
    = steps_in (a % n) (a / n) (b % n) (b / n) (inr (inr (inr (inr (inr (pair_in _ _ _ _ e f))))))

pub neighbour_out : (n a b : ℕ) → is_neighbour n a b ≡ true → Neighbour n a b
neighbour_out n a b h =
    let t = and_parts (nat_lt a (n * n) && nat_lt b (n * n))
    (is_adjacent (a % n) (a / n) (b % n) (b / n)) h in
    let u = and_parts (nat_lt a (n * n)) (nat_lt b (n * n)) t.0 in
    record { from = ltb-true _ _ u.0; to = ltb-true _ _ u.1; step = adjacent_out n a b t.1 }

pub neighbour_in : (n a b : ℕ) → Neighbour n a b → is_neighbour n a b ≡ true
neighbour_in n a b h = and_from (nat_lt a (n * n) && nat_lt b (n * n))
    (is_adjacent (a % n) (a / n) (b % n) (b / n))
    (and_from (nat_lt a (n * n)) (nat_lt b (n * n)) (lt-ltb _ _ h.from) (lt-ltb _ _ h.to))
    (adjacent_in n a b h.step)

-- two tests that pass together are equal
pub same_test : (x y : Bool) → (x ≡ true → y ≡ true) → (y ≡ true → x ≡ true) → x ≡ y
same_test true y f g = sym (f refl)
same_test false true f g = g refl
same_test false false f g = refl

pub neighbour_test : (n a b : ℕ) (x : Bool) → IsTrue x ↔ Neighbour n a b → x ≡ is_neighbour n a b
neighbour_test n a b x h = same_test x (is_neighbour n a b) (λ e. neighbour_in n a b (h.0 e))
    (λ e. h.1 (neighbour_out n a b e))
