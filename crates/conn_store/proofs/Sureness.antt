-- Laws of what a player is sure of.
use Rattle.std.proofs.Common.{◌≡◌, ℕ, ◌+◌, ◌<◌, ◌≤◌, ◌==◌, ◌&&◌, not, true, false, Bool, sym, ◌∙◌}
use Rattle.std.proofs.Common.{subst, bit_or, arith, inl, inr, ◌⊎◌, zero, suc}
use Rattle.std.proofs.lemmas.Bool.{cases_Bool, cases_eq, both_ways, or_cases, or_left, or_right}
use Rattle.std.proofs.lemmas.Bool.{false_from_ne_true}
use Rattle.std.proofs.lemmas.Bool.Decides.{nat_tests}
use Rattle.hex_cells.specs.Sets.{has, members, with_cell, without_cell}
use Rattle.hex_cells.proofs.Bits.{has_without, has_or}
use Rattle.hex_cells.proofs.Counts.{members_less}
use Rattle.hex_cells.proofs.WithCell.{with_cell-cases, with_cell-here, with_cell-keeps}
use Rattle.conn_store.specs.Laws.{IsSubset}
use Rattle.conn_store.specs.Truth.{IsSureIn}
use Rattle.conn_store.specs.declared.entries.Kind.{Kind}
use Rattle.conn_store.specs.declared.entries.Kind.TheVariants.{Full, Semi}

-- ---- sets

wo_out : (a b : Bool) (k j : ℕ) → (b ≡ (a && not (k == j))) → b ≡ true → (a ≡ true) × (k ≡ j → ⊥)
wo_out a b k j e h = (grind (arith, nat_tests), λ f. grind (arith, nat_tests))

wo_in : (a b : Bool) (k j : ℕ) → (b ≡ (a && not (k == j))) → a ≡ true → (k ≡ j → ⊥) → b ≡ true
wo_in a b k j e h n = grind (arith, nat_tests)

wo_itself : (a b : Bool) (k : ℕ) → (b ≡ (a && not (k == k))) → b ≡ false
wo_itself a b k e = grind (arith, nat_tests)

-- cell k of s without j
pub in_without : (s j k : ℕ) → has (without_cell s j) k ≡ true → (has s k ≡ true) × (k ≡ j → ⊥)
in_without s j k h = wo_out (has s k) (has (without_cell s j) k) k j (has_without s j k) h

pub without_keeps : (s j k : ℕ) → has s k ≡ true → (k ≡ j → ⊥) → has (without_cell s j) k ≡ true
without_keeps s j k h n = wo_in (has s k) (has (without_cell s j) k) k j (has_without s j k) h n

pub without_itself : (s j : ℕ) → has (without_cell s j) j ≡ false
without_itself s j = wo_itself (has s j) (has (without_cell s j) j) j (has_without s j j)

pub with_both : (s t j : ℕ) → IsSubset s t → IsSubset (with_cell s j) (with_cell t j)
with_both s t j f k h
    = elim (with_cell-cases s j k h) [
      | inl o ↦ with_cell-keeps t j k (f k o)
      | inr e ↦ subst (λ v. has (with_cell t j) v
          ≡ true) (sym e) (with_cell-here t j)
    ]

without_both : (s t j : ℕ) → IsSubset s t → IsSubset (without_cell s j) (without_cell t j)
without_both s t j f k h = let p = in_without s j k h in without_keeps t j k (f k p.0) p.1

-- ---- more stones, more cells, another goal

-- one goal, with the stones s or more, gives another, with as many stones or more
abbrev pub Gives : ℕ → (ℕ → Type 0) → (ℕ → Type 0) → Type 0
Gives s G H = (a b : ℕ) → IsSubset s b → IsSubset a b → G a → H b

pub sure_more : (n m : ℕ) (kind : Kind) (G H : ℕ → Type 0) (s t c d : ℕ) → n ≤ m → IsSubset s t
    → IsSubset c d → Gives t G H
    → IsSureIn n kind G s c → IsSureIn m kind H t d
sure_more zero zero kind G H s t c d l i j f g = f s t (λ k h. h) i g
sure_more zero (suc m) Full G H s t c d l i j f g = inl (f s t (λ k h. h) i g)
sure_more zero (suc m) Semi G H s t c d l i j f g = inl (f s t (λ k h. h) i g)
sure_more (suc n) zero kind G H s t c d l i j f g = absurd (omega arith)
sure_more (suc n) (suc m) Full G H s t c d l i j f (inl g) = inl (f s t (λ k h. h) i g)
sure_more (suc n) (suc m) Full G H s t c d l i j f (inr (w, g)) = inr (
  (w.0, j w.0 w.1),
  λ k h. elim (cases_Bool (has c k)) [
    | inl o ↦ sure_more n m Semi G H s t (without_cell c k) (without_cell d k) (omega arith) i
        (without_both c d k j) f (g k o)
    | inr o ↦ sure_more n m Semi G H s t (without_cell c w.0) (without_cell d k) (omega arith) i
        (λ q r. without_keeps d k q (j q (in_without c w.0 q r).0)
        (λ e. both_ways (has c k) o (subst (λ v. has c v ≡ true) e (in_without c w.0 q r).0))) f (g w.0 w.1)
  ],
)
sure_more (suc n) (suc m) Semi G H s t c d l i j f (inl g) = inl (f s t (λ k h. h) i g)
sure_more (suc n) (suc m) Semi G H s t c d l i j f (inr (k, h, g)) = inr (
  k,
  j k h,
  sure_more n m Full G H (with_cell s k) (with_cell t k) (without_cell c k) (without_cell d k)
      (omega arith) (with_both s t k i) (without_both c d k j)
      (λ a b p q r. f a b (λ v u. p v (with_cell-keeps t k v u)) q r) g,
)

-- a goal that more stones keep
abbrev pub IsKept : (ℕ → Type 0) → Type 0
IsKept G = (a b : ℕ) → IsSubset a b → G a → G b

kept_gives : (G : ℕ → Type 0) (s : ℕ) → IsKept G → Gives s G G
kept_gives G s f a b p q g = f a b q g

pub same : (s : ℕ) → IsSubset s s
same s k h = h

-- more cells, and more stones
pub sure_wider : (n m : ℕ) (kind : Kind) (G : ℕ → Type 0) (s t c d : ℕ) → IsKept G → n ≤ m
    → IsSubset s t → IsSubset c d
    → IsSureIn n kind G s c → IsSureIn m kind G t d
sure_wider n m kind G s t c d f l i j g = sure_more n m kind G G s t c d l i j (kept_gives G t f) g

pub without_inside : (c k : ℕ) → IsSubset (without_cell c k) c
without_inside c k j h = (in_without c k j h).0

-- full means semi
pub semi_of_full : (n : ℕ) (G : ℕ → Type 0) (s c : ℕ) → IsKept G → IsSureIn n Full G s c
    → IsSureIn n Semi G s c
semi_of_full zero G s c f g = g
semi_of_full (suc n) G s c f (inl g) = inl g
semi_of_full (suc n) G s c f (inr (w, g)) = sure_wider n (suc n) Semi G s s (without_cell c w.0) c f
    (omega arith) (same s) (without_inside c w.0) (g w.0 w.1)

fewer : (c k : ℕ) → has c k ≡ true → k < 121 → members (without_cell c k) 121 < members c 121
fewer c k h l = members_less (without_cell c k) c k 121 (without_inside c k) h
    (without_itself c k) l

fewer_than_none : (c k : ℕ) → has c k ≡ true → k < 121 → members c 121 ≤ 0 → ⊥
fewer_than_none c k h l e
    = let f : members (without_cell c k) 121 < members c 121 = fewer c k h l in absurd (omega arith)

one_fewer : (c k m : ℕ) → has c k ≡ true → k < 121 → members c 121 ≤ suc m
    → members (without_cell c k) 121 ≤ m
one_fewer c k m h l e
    = let f : members (without_cell c k) 121 < members c 121 = fewer c k h l in omega arith

-- what is used up is no more than the cells
pub sure_trimmed : (n m : ℕ) (kind : Kind) (G : ℕ → Type 0) (s c : ℕ)
    → ((k : ℕ) → has c k ≡ true → k < 121) → members c 121 ≤ m
    → IsSureIn n kind G s c → IsSureIn m kind G s c
sure_trimmed zero zero kind G s c b l g = g
sure_trimmed zero (suc m) Full G s c b l g = inl g
sure_trimmed zero (suc m) Semi G s c b l g = inl g
sure_trimmed (suc n) zero Full G s c b l (inl g) = g
sure_trimmed (suc n) zero Full G s c b l (inr (w, g))
    = absurd (fewer_than_none c w.0 w.1 (b w.0 w.1) l)
sure_trimmed (suc n) zero Semi G s c b l (inl g) = g
sure_trimmed (suc n) zero Semi G s c b l (inr (k, h, g)) = absurd (fewer_than_none c k h (b k h) l)
sure_trimmed (suc n) (suc m) Full G s c b l (inl g) = inl g
sure_trimmed (suc n) (suc m) Full G s c b l (inr (w, g)) =
    inr (w, λ k h. sure_trimmed n m Semi G s (without_cell c k) (λ j i. b j (in_without c k j i).0) (one_fewer c k m h (b k h) l) (g k h))
sure_trimmed (suc n) (suc m) Semi G s c b l (inl g) = inl g
sure_trimmed (suc n) (suc m) Semi G s c b l (inr (k, h, g)) =
    inr (k, h, sure_trimmed n m Full G (with_cell s k) (without_cell c k) (λ j i. b j (in_without c k j i).0) (one_fewer c k m h (b k h) l) g)

-- ---- a stone on a cell of the carrier

same_cells : (c j k : ℕ)
    → IsSubset (without_cell (without_cell c j) k) (without_cell (without_cell c k) j)
same_cells c j k q h =
    let a = in_without (without_cell c j) k q h in
    let b = in_without c j q a.0 in
    without_keeps (without_cell c k) j q (without_keeps c k q b.0 a.1) b.1

same_stones : (s j k : ℕ) → IsSubset (with_cell (with_cell s j) k) (with_cell (with_cell s k) j)
same_stones s j k q h = elim (with_cell-cases (with_cell s j) k q h) [
  | inl o ↦ elim (with_cell-cases s j q o) [
    | inl i ↦ with_cell-keeps (with_cell s k) j q (with_cell-keeps s k q i)
    | inr e ↦ subst (λ v. has (with_cell (with_cell s k) j) v ≡ true) (sym e)
        (with_cell-here (with_cell s k) j)
  ]
  | inr e ↦ with_cell-keeps (with_cell s k) j q
      (subst (λ v. has (with_cell s k) v ≡ true) (sym e) (with_cell-here s k))
]

pub more_stones : (s k : ℕ) → IsSubset s (with_cell s k)
more_stones s k j h = with_cell-keeps s k j h

full_less : (n m : ℕ) (G : ℕ → Type 0) (s c k : ℕ) → IsKept G
    → IsSureIn m Semi G s (without_cell c k)
    → ((d : ℕ) → has c d ≡ true → (d ≡ k → ⊥) → IsSureIn n Semi G (with_cell s k) (without_cell (without_cell c d) k))
    → IsSureIn (suc n) Full G (with_cell s k) (without_cell c k)
full_less n zero G s c k f r g = inl (f s (with_cell s k) (more_stones s k) r)
full_less n (suc m) G s c k f (inl r) g = inl (f s (with_cell s k) (more_stones s k) r)
full_less n (suc m) G s c k f (inr (j, i, r)) g = inr (
  (j, i),
  λ d q. let a = in_without c k d q in
      sure_wider n n Semi G (with_cell s k) (with_cell s k) (without_cell (without_cell c d) k)
      (without_cell (without_cell c k) d) f (omega arith) (same (with_cell s k))
      (same_cells c d k)
      (g d a.0 a.1),
)

-- with his stone on a cell of the carrier the player is sure inside the rest of it
pub sure_less : (n : ℕ) (kind : Kind) (G : ℕ → Type 0) (s c k : ℕ) → IsKept G → has c k ≡ true
    → IsSureIn n kind G s c
    → IsSureIn n kind G (with_cell s k) (without_cell c k)
sure_less zero kind G s c k f h g = f s (with_cell s k) (more_stones s k) g
sure_less (suc n) Full G s c k f h (inl g) = inl (f s (with_cell s k) (more_stones s k) g)
sure_less (suc n) Full G s c k f h (inr (w, g)) =
    full_less n n G s c k f (g k h)
    (λ d i e. sure_less n Semi G s (without_cell c d) k f (without_keeps c d k h (λ q. e (sym q))) (g d i))
sure_less (suc n) Semi G s c k f h (inl g) = inl (f s (with_cell s k) (more_stones s k) g)
sure_less (suc n) Semi G s c k f h (inr (j, i, g)) = elim (cases_eq j k) [
  | inl e ↦ sure_wider n (suc n) Semi G (with_cell s k) (with_cell s k) (without_cell c k)
      (without_cell c k) f (omega arith) (same (with_cell s k)) (same (without_cell c k))
      (semi_of_full n G (with_cell s k) (without_cell c k) f (subst (λ v. IsSureIn n Full G (with_cell s v) (without_cell c v)) e g))
  | inr d ↦ inr (
    j,
    without_keeps c k j i d,
    sure_wider n n Full G (with_cell (with_cell s j) k) (with_cell (with_cell s k) j)
        (without_cell (without_cell c j) k) (without_cell (without_cell c k) j) f (omega arith)
        (same_stones s j k) (same_cells c j k)
        (sure_less n Full G (with_cell s j) (without_cell c j) k f (without_keeps c j k h (λ e. d (sym e))) g),
  )
]

-- ---- the rules

-- no cell is in both sets
abbrev pub Disjoint : ℕ → ℕ → Type 0
Disjoint a b = (k : ℕ) → has a k ≡ true → has b k ≡ false

-- both goals with some stones and more give a third
abbrev pub Joint : ℕ → (ℕ → Type 0) → (ℕ → Type 0) → (ℕ → Type 0) → Type 0
Joint s G H K = (a : ℕ) → IsSubset s a → G a → H a → K a

pub in_union : (a b k : ℕ) → has (bit_or a b) k ≡ true → (has a k ≡ true) ⊎ (has b k ≡ true)
in_union a b k h = or_cases (has a k) (has b k) (sym (has_or a b k) ∙ h)

pub union_left : (a b : ℕ) → IsSubset a (bit_or a b)
union_left a b k h = has_or a b k ∙ or_left (has a k) (has b k) h

pub union_right : (a b : ℕ) → IsSubset b (bit_or a b)
union_right a b k h = has_or a b k ∙ or_right (has a k) (has b k) h

-- he has the one goal and is sure of the other
one_had : (m p : ℕ) (kind : Kind) (G H K : ℕ → Type 0) (s b c : ℕ) → m ≤ p → IsKept G → IsKept H
    → Joint s G H K → IsSubset b c
    → G s → IsSureIn m kind H s b → IsSureIn p kind K s c
one_had m p kind G H K s b c l f e j i g h
    = sure_more m p kind H K s s b c l (same s) i (λ u v q r t. j v q (f s v q g) (e u v r t)) h

joint_back : (s : ℕ) (G H K : ℕ → Type 0) → Joint s G H K → Joint s H G K
joint_back s G H K j a i h g = j a i g h

joint_on : (s t : ℕ) (G H K : ℕ → Type 0) → IsSubset s t → Joint s G H K → Joint t G H K
joint_on s t G H K i j a q g h = j a (λ k o. q k (i k o)) g h

apart_back : (a b : ℕ) → Disjoint a b → Disjoint b a
apart_back a b d k h = false_from_ne_true (has a k) (λ o. both_ways (has b k) (d k o) h)

apart_less : (a b k : ℕ) → Disjoint a b → Disjoint (without_cell a k) b
apart_less a b k d j h = d j (in_without a k j h).0

pub kept_out : (b c k : ℕ) → IsSubset b c → has b k ≡ false → IsSubset b (without_cell c k)
kept_out b c k i n j h
    = without_keeps c k j (i j h) (λ e. both_ways (has b k) n (subst (λ v. has b v ≡ true) e h))

-- of two goals with carriers that are disjoint the player is sure at once: he answers a stone in
-- one inside that one
pub sure_both : (p n m : ℕ) (kind : Kind) (G H K : ℕ → Type 0) (s a b c : ℕ) → n + m ≤ p → IsKept G
    → IsKept H → IsKept K → Joint s G H K
    → Disjoint a b → IsSubset a c → IsSubset b c → IsSureIn n kind G s a → IsSureIn m Full H s b
    → IsSureIn p kind K s c
sure_both p zero m Full G H K s a b c l f e k j d i o x y
    = one_had m p Full G H K s b c (omega arith) f e j o x y
sure_both p zero m Semi G H K s a b c l f e k j d i o x y
    = one_had m p Semi G H K s b c (omega arith) f e j o x (semi_of_full m H s b e y)
sure_both p (suc n) m Full G H K s a b c l f e k j d i o (inl x) y
    = one_had m p Full G H K s b c (omega arith) f e j o x y
sure_both p (suc n) m Semi G H K s a b c l f e k j d i o (inl x) y
    = one_had m p Semi G H K s b c (omega arith) f e j o x (semi_of_full m H s b e y)
sure_both p (suc n) zero Full G H K s a b c l f e k j d i o x y
    = one_had (suc n) p Full H G K s a c (omega arith) e f (joint_back s G H K j) i y x
sure_both p (suc n) (suc m) Full G H K s a b c l f e k j d i o x (inl y)
    = one_had (suc n) p Full H G K s a c (omega arith) e f (joint_back s G H K j) i y x
sure_both zero (suc n) m kind G H K s a b c l f e k j d i o x y = absurd (omega arith)
sure_both (suc p) (suc n) (suc m) Full G H K s a b c l f e k j d i o (inr (w, x))
    (inr (v, y)) = inr (
      (w.0, i w.0 w.1),
      λ q r. elim (cases_Bool (has a q)) [
        | inl t ↦ sure_both p n (suc m) Semi G H K s (without_cell a q) b (without_cell c q)
            (omega arith) f e k j (apart_less a b q d) (without_both a c q i) (kept_out b c q o (d q t))
            (x q t) (inr (v, y))
        | inr t ↦ elim (cases_Bool (has b q)) [
          | inl u ↦ sure_both p m (suc n) Semi H G K s (without_cell b q) a (without_cell c q)
              (omega arith) e f k (joint_back s G H K j) (apart_less b a q (apart_back a b d))
              (without_both b c q o) (kept_out a c q i t)
              (y q u) (inr (w, x))
          | inr u ↦ sure_both p n (suc m) Semi G H K s (without_cell a w.0) b (without_cell c q)
              (omega arith) f e k j (apart_less a b w.0 d)
              (λ g h. kept_out a c q i t g (without_inside a w.0 g h)) (kept_out b c q o u) (x w.0 w.1)
              (inr (v, y))
        ]
      ],
    )
sure_both (suc p) (suc n) m Semi G H K s a b c l f e k j d i o (inr (q, r, x)) y = inr (
  q,
  i q r,
  sure_both p n m Full G H K (with_cell s q) (without_cell a q) b (without_cell c q)
      (omega arith) f e k (joint_on s (with_cell s q) G H K (more_stones s q) j) (apart_less a b q d)
      (without_both a c q i) (kept_out b c q o (d q r)) x
      (sure_wider m m Full H s (with_cell s q) b b e (omega arith) (more_stones s q) (same b) y),
)

-- the player is sure of two goals that meet in a cell, which he takes first
pub sure_over : (p n m u : ℕ) (G H K : ℕ → Type 0) (s a b c : ℕ) → n + m ≤ p → IsKept G → IsKept H
    → IsKept K → Joint (with_cell s u) G H K
    → Disjoint a b → IsSubset a c → IsSubset b c → has a u ≡ false → has b u ≡ false
    → has c u ≡ true → IsSureIn n Full G s a → IsSureIn m Full H s b
    → IsSureIn (suc p) Semi K s c
sure_over p n m u G H K s a b c l f e k j d i o na nb hu x y = inr (
  u,
  hu,
  sure_both p n m Full G H K (with_cell s u) a b (without_cell c u) l f e k j d
      (kept_out a c u i na) (kept_out b c u o nb)
      (sure_wider n n Full G s (with_cell s u) a a f (omega arith) (more_stones s u) (same a) x)
      (sure_wider m m Full H s (with_cell s u) b b e (omega arith) (more_stones s u) (same b) y),
)

-- no cell is in all the carriers
abbrev pub Unblocked : ℕ → ℕ → ℕ → Type 0
Unblocked a b d = (k : ℕ) → has a k ≡ true → has b k ≡ true → has d k ≡ true → ⊥

-- the player is sure in two or three ways, and no one stone of the opponent is in the way of all
-- (two ways: the third is one of these)
pub sure_by_one : (p n m q : ℕ) (G : ℕ → Type 0) (s a b d c : ℕ) → n ≤ p → m ≤ p → q ≤ p → IsKept G
    → Unblocked a b d → IsSubset a c → IsSubset b c → IsSubset d c
    → IsSureIn n Semi G s a → IsSureIn m Semi G s b → IsSureIn q Semi G s d
    → IsSureIn (suc p) Full G s c
sure_by_one p zero m q G s a b d c l r t f v i j o x y z = inl x
sure_by_one p (suc n) m q G s a b d c l r t f v i j o (inl x) y z = inl x
sure_by_one p (suc n) m q G s a b d c l r t f v i j o (inr (w, h, x)) y z = inr (
  (w, i w h),
  λ k u. elim (cases_Bool (has a k)) [
    | inr g ↦ sure_wider (suc n) p Semi G s s a (without_cell c k) f l (same s) (kept_out a c k i g)
        (inr (w, h, x))
    | inl g ↦ elim (cases_Bool (has b k)) [
      | inr e ↦ sure_wider m p Semi G s s b (without_cell c k) f r (same s) (kept_out b c k j e) y
      | inl e ↦ sure_wider q p Semi G s s d (without_cell c k) f t (same s)
          (kept_out d c k o (false_from_ne_true (has d k) (v k g e))) z
    ]
  ],
)
