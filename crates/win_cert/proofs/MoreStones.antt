-- More stones of the player's, on cells of a carrier too: what he is sure of inside the carrier he
-- is sure of inside its other cells.
use Rattle.std.proofs.Common.{◌≡◌, ℕ, true, false, sym, subst, zero, suc, inl, inr, ◌⊎◌, arith}
use Rattle.std.proofs.lemmas.Bool.{cases_Bool, both_ways, false_from_ne_true}
use Rattle.hex_cells.specs.Sets.{has, with_cell, without_cell}
use Rattle.hex_cells.proofs.WithCell.{with_cell-cases}
use Rattle.conn_store.specs.Laws.{IsSubset}
use Rattle.conn_store.specs.Truth.{IsSureIn}
use Rattle.conn_store.specs.declared.entries.Kind.{Kind}
use Rattle.conn_store.specs.declared.entries.Kind.TheVariants.{Full, Semi}
use Rattle.conn_store.proofs.Sureness.{IsKept, more_stones, same, semi_of_full, sure_wider}
use Rattle.conn_store.proofs.Sureness.{with_both, without_inside, without_itself, without_keeps}

-- each cell of c has a stone of t, or is in d
abbrev pub IsCovered : ℕ → ℕ → ℕ → Type 0
IsCovered c t d = (k : ℕ) → has c k ≡ true → (has t k ≡ true) ⊎ (has d k ≡ true)

other_cell : (c j k : ℕ) → has (without_cell c j) k ≡ true → k ≡ j → ⊥
other_cell c j k h e = both_ways (has (without_cell c j) j) (without_itself c j)
    (subst (λ v. has (without_cell c j) v ≡ true) e h)

covered_less : (c j t d : ℕ) → IsCovered c t d → IsCovered (without_cell c j) t d
covered_less c j t d f k h = f k (without_inside c j k h)

covered_both : (c j t d : ℕ) → IsCovered c t d → IsCovered (without_cell c j) t (without_cell d j)
covered_both c j t d f k h = elim (f k (without_inside c j k h)) [
  | inl i ↦ inl i
  | inr o ↦ inr (without_keeps d j k o (other_cell c j k h))
]

covered_out : (c j t d : ℕ) → has c j ≡ false → IsCovered c t d → IsCovered c t (without_cell d j)
covered_out c j t d n f k h = elim (f k h) [
  | inl i ↦ inl i
  | inr o ↦ inr
      (without_keeps d j k o (λ e. both_ways (has c j) n (subst (λ v. has c v ≡ true) e h)))
]

covered_more : (c t u d : ℕ) → IsSubset t u → IsCovered c t d → IsCovered c u d
covered_more c t u d i f k h = elim (f k h) [ inl o ↦ inl (i k o) | inr o ↦ inr o ]

stone_inside : (s t k : ℕ) → IsSubset s t → has t k ≡ true → IsSubset (with_cell s k) t
stone_inside s t k i o j h = elim (with_cell-cases s k j h) [
  | inl a ↦ i j a
  | inr e ↦ subst (λ v. has t v ≡ true) (sym e) o
]

-- he has the goal, or a cell is left
left_over : (n : ℕ) (G : ℕ → Type 0) (t d : ℕ) → IsSureIn n Semi G t d
    → G t ⊎ ((k : ℕ) × (has d k ≡ true))
left_over zero G t d g = inl g
left_over (suc n) G t d (inl g) = inl g
left_over (suc n) G t d (inr (k, h, g)) = inr (k, h)

pub sure_stones : (n : ℕ) (kind : Kind) (G : ℕ → Type 0) (s t c d : ℕ) → IsKept G → IsSubset s t
    → IsCovered c t d
    → IsSureIn n kind G s c → IsSureIn n kind G t d
sure_stones zero kind G s t c d f i j g = f s t i g
sure_stones (suc n) Full G s t c d f i j (inl g) = inl (f s t i g)
sure_stones (suc n) Full G s t c d f i j (inr (w, g)) =
    let some : G t ⊎ ((k : ℕ) × (has d k ≡ true)) = elim (j w.0 w.1) [
      | inl o ↦ left_over n G t d
          (sure_stones n Semi G s t (without_cell c w.0) d f i (covered_less c w.0 t d j) (g w.0 w.1))
      | inr o ↦ inr (w.0, o)
    ] in
    elim some [
      | inl r ↦ inl r
      | inr v ↦ inr (
        v,
        λ k h. elim (cases_Bool (has c k)) [
          | inl o ↦ sure_stones n Semi G s t (without_cell c k) (without_cell d k) f i
              (covered_both c k t d j) (g k o)
          | inr o ↦ sure_stones n Semi G s t (without_cell c w.0) (without_cell d k) f i
              (covered_out (without_cell c w.0) k t d
              (false_from_ne_true (has (without_cell c w.0) k) (λ p. both_ways (has c k) o (without_inside c w.0 k p))) (covered_less c w.0 t d j))
              (g w.0 w.1)
        ],
      )
    ]
sure_stones (suc n) Semi G s t c d f i j (inl g) = inl (f s t i g)
sure_stones (suc n) Semi G s t c d f i j (inr (k, h, g)) = elim (j k h) [
  | inl o ↦ sure_wider n (suc n) Semi G t t d d f (omega arith) (same t) (same d)
      (semi_of_full n G t d f (sure_stones n Full G (with_cell s k) t (without_cell c k) d f (stone_inside s t k i o) (covered_less c k t d j) g))
  | inr o ↦ inr (
    k,
    o,
    sure_stones n Full G (with_cell s k) (with_cell t k) (without_cell c k) (without_cell d k) f
        (with_both s t k i)
        (covered_more (without_cell c k) t (with_cell t k) (without_cell d k) (more_stones t k) (covered_both c k t d j))
        g,
  )
]
