-- Two cells of one element.
use Rattle.std.proofs.Common.{if◌then◌else◌, ◌≡◌, ℕ, ◌+◌, ◌-◌, ◌<◌, ◌≤◌, true, false, Bool, cond}
use Rattle.std.proofs.Common.{Some, refl, sym, ◌∙◌, ap, subst, arith, inl, inr, zero, suc}
use Rattle.std.specs.List.{count_by, range_with_len}
use Rattle.std.proofs.lemmas.Bool.{cases_order, cases_Bool, both_ways, false_from_ne_true}
use Rattle.hex_board.specs.Positions.{Within, stones_of, is_empty_at}
use Rattle.hex_board.specs.Elements.{PlayerBoard, are_joined, is_linked, is_tied, is_head}
use Rattle.hex_board.specs.Elements.{edge_element, edge_elements, head_element, element_of, HasCell}
use Rattle.hex_board.specs.Elements.{Together}
use Rattle.hex_board.proofs.Parts.{tied_through, tied_joins, of_first, of_second, of_group, case_of}
use Rattle.hex_board.proofs.Parts.{is_free, is_first, is_second, is_group, is_other, linked_through}
use Rattle.hex_board.proofs.Parts.{linked_back, linked_first, empty_head, root_head, edge_below}
use Rattle.hex_board.proofs.Parts.{some_same}
use Rattle.hex_board.proofs.Placed.{stone_full}
use Rattle.hex_board.proofs.WinLaws.{counted}
use Rattle.hex_cells.proofs.Counts.{bit_of}

-- ---- counts, with no set of heads

moved_over : (x y z w : ℕ) → w ≡ y + z → x + w ≡ (x + y) + z
moved_over x y z w e = omega arith

last_counted : (p : ℕ → Bool) (a m : ℕ) → count_by p (range_with_len a (suc m)) ≡ count_by p
    (range_with_len a m) + cond (p (a + m)) 1 0
last_counted p a zero = let e : a + 0 ≡ a = omega arith in counted p a zero
    ∙ (zero_last (cond (p a) 1 0) ∙ ap (λ v. 0 + cond (p v) 1 0) (sym e))
  where
    zero_last : (x : ℕ) → x + 0 ≡ 0 + x
    zero_last x = omega arith
last_counted p a (suc m) =
    let e : (a + 1) + m ≡ a + suc m = omega arith in
    counted p a (suc m)
    ∙ (moved_over (cond (p a) 1 0) (count_by p (range_with_len (a + 1) m)) (cond (p ((a + 1) + m)) 1 0) (count_by p (range_with_len (a
    + 1) (suc m))) (last_counted p (a + 1) m)
    ∙ (ap (λ v. (cond (p a) 1 0 + count_by p (range_with_len (a + 1) m)) + cond (p v) 1 0) e ∙ ap (λ v. v + cond (p (a + suc m)) 1 0) (sym (counted p a m))))

upto : (ℕ → Bool) → ℕ → ℕ
upto p m = count_by p (range_with_len 0 m)

upto_more : (p : ℕ → Bool) (m : ℕ) → upto p (suc m) ≡ upto p m + cond (p m) 1 0
unfolding upto
upto_more p m = let e : 0 + m ≡ m = omega arith in last_counted p 0 m
    ∙ ap (λ v. count_by p (range_with_len 0 m) + cond (p v) 1 0) e

upto_rise : (p : ℕ → Bool) (a d : ℕ) → upto p a ≤ upto p (d + a)
upto_rise p a zero = let e : 0 + a ≡ a = omega arith in
    subst (λ v. upto p a ≤ upto p v) (sym e) (omega arith)
upto_rise p a (suc d) =
    let e : suc d + a ≡ suc (d + a) = omega arith in
    let r : upto p a ≤ upto p (d + a) = upto_rise p a d in
    let s : upto p (suc (d + a)) ≡ upto p (d + a) + cond (p (d + a)) 1 0 = upto_more p (d + a) in
    subst (λ v. upto p a ≤ upto p v) (sym e) (omega arith)

upto_apart : (p : ℕ → Bool) (a b : ℕ) → p a ≡ true → a < b → upto p a < upto p b
upto_apart p a b h l =
    let e : (b - suc a) + suc a ≡ b = omega arith in
    let r : upto p (suc a) ≤ upto p b
    = subst (λ v. upto p (suc a) ≤ upto p v) e (upto_rise p (suc a) (b - suc a)) in
    let s : upto p (suc a) ≡ upto p a + cond (p a) 1 0 = upto_more p a in
    let t : cond {A = ℕ} (p a) 1 0 ≡ 1 = bit_of (p a) h in
    omega arith

pub one_head_at : (p : ℕ → Bool) (a b : ℕ) → p a ≡ true → p b ≡ true
    → count_by p (range_with_len 0 a) ≡ count_by p (range_with_len 0 b) → a ≡ b
unfolding upto
one_head_at p a b h i q = elim (cases_order a b) [
  | inl e ↦ e
  | inr o ↦ elim o [
    | inl l ↦ absurd (omega (arith, upto_apart p a b h l))
    | inr l ↦ absurd (omega (arith, upto_apart p b a i l))
  ]
]

-- ---- elements

-- two heads with one number are one cell
pub head_number : (e : PlayerBoard) (a b : ℕ) → is_head e a ≡ true → is_head e b ≡ true
    → head_element e a ≡ head_element e b → a ≡ b
head_number e a b i j q
    = one_head_at (is_head e) a b i j
    (cancel (edge_elements e) (count_by (is_head e) (range_with_len 0 a)) (count_by (is_head e) (range_with_len 0 b)) q)
  where
    cancel : (b x y : ℕ) → b + x ≡ b + y → x ≡ y
    cancel b x y e = omega arith

above_edge : (e : PlayerBoard) (second : Bool) (k : ℕ)
    → edge_element e second ≡ head_element e k → ⊥
above_edge e second k q = far (edge_elements e) (count_by (is_head e) (range_with_len 0 k))
    (edge_element e second) (edge_below e second) q
  where
    far : (b x v : ℕ) → v < b → v ≡ b + x → ⊥
    far b x v h e = absurd (omega arith)

full_head : (e : PlayerBoard) (r a k : ℕ) → r ≡ a → is_linked e r k ≡ true
    → is_empty_at e.board a ≡ true → ⊥
full_head e r a k q l h
    = both_ways (is_empty_at e.board a)
    (subst (λ v. is_empty_at e.board v ≡ false) q (stone_full e.board e.player r (linked_first e r k l))) h

pub one_element : (e : PlayerBoard) (x a b : ℕ) → Within e.board.size (stones_of e.board e.player)
    → HasCell e x a → HasCell e x b → Together e a b
one_element e x a b on h i = elim (case_of e a on) [
  | is_free f t ↦ elim (case_of e b on) [
    | is_free g u ↦ inl
        (head_number e a b (empty_head e a f) (empty_head e b g) (some_same _ _ (sym t ∙ (h ∙ (sym i ∙ u)))))
    | is_first g u ↦ absurd (above_edge e false a (some_same _ _ (sym u ∙ (i ∙ (sym h ∙ t)))))
    | is_second g j u ↦ absurd (above_edge e true a (some_same _ _ (sym u ∙ (i ∙ (sym h ∙ t)))))
    | is_group r g j l m u ↦ absurd
        (full_head e r a b (sym (head_number e a r (empty_head e a f) (root_head e r b on g j l m) (some_same _ _ (sym t ∙ (h ∙ (sym i ∙ u)))))) l f)
    | is_other g j l m u ↦ absurd (cc)
  ]
  | is_first f t ↦ elim (case_of e b on) [
    | is_free g u ↦ absurd (above_edge e false b (some_same _ _ (sym t ∙ (h ∙ (sym i ∙ u)))))
    | is_first g u ↦ inr (inr (false, false, f, g, refl))
    | is_second g j u ↦ inr (inr (false, true, f, j, some_same _ _ (sym t ∙ (h ∙ (sym i ∙ u)))))
    | is_group r g j l m u ↦ absurd
        (above_edge e false r (some_same _ _ (sym t ∙ (h ∙ (sym i ∙ u)))))
    | is_other g j l m u ↦ absurd (cc)
  ]
  | is_second f v t ↦ elim (case_of e b on) [
    | is_free g u ↦ absurd (above_edge e true b (some_same _ _ (sym t ∙ (h ∙ (sym i ∙ u)))))
    | is_first g u ↦ inr (inr (true, false, v, g, some_same _ _ (sym t ∙ (h ∙ (sym i ∙ u)))))
    | is_second g j u ↦ inr (inr (true, true, v, j, refl))
    | is_group r g j l m u ↦ absurd
        (above_edge e true r (some_same _ _ (sym t ∙ (h ∙ (sym i ∙ u)))))
    | is_other g j l m u ↦ absurd (cc)
  ]
  | is_group q f v w n t ↦ elim (case_of e b on) [
    | is_free g u ↦ absurd
        (full_head e q b a (head_number e q b (root_head e q a on f v w n) (empty_head e b g) (some_same _ _ (sym t ∙ (h ∙ (sym i ∙ u))))) w g)
    | is_first g u ↦ absurd (above_edge e false q (some_same _ _ (sym u ∙ (i ∙ (sym h ∙ t)))))
    | is_second g j u ↦ absurd (above_edge e true q (some_same _ _ (sym u ∙ (i ∙ (sym h ∙ t)))))
    | is_group r g j l m u ↦
        let s : q ≡ r = head_number e q r (root_head e q a on f v w n) (root_head e r b on g j l m)
        (some_same _ _ (sym t ∙ (h ∙ (sym i ∙ u)))) in
        inr (inl (linked_through e a q b on (linked_back e q a on w) (subst (λ y. is_linked e y b ≡ true) (sym s) l)))
    | is_other g j l m u ↦ absurd (cc)
  ]
  | is_other f v w n t ↦ absurd (cc)
]

-- ---- and back

joined_low : (j : Bool) → j ≡ true → ◌≡◌ {A = ℕ} 0 (if j then 0 else 1)
joined_low j h = rw h refl

-- a stone that is tied to an edge lies in that edge's element
pub tied_element : (e : PlayerBoard) (second : Bool) (k : ℕ) → is_tied e second k ≡ true
    → HasCell e (edge_element e second) k
tied_element e false k h = of_first e k h
tied_element e true k h = elim (cases_Bool (is_tied e false k)) [
  | inl t ↦ of_first e k t ∙ ap Some (joined_low (are_joined e) (tied_joins e k t h))
  | inr t ↦ of_second e k t h
]

not_tied : (e : PlayerBoard) (second : Bool) (a b : ℕ)
    → Within e.board.size (stones_of e.board e.player) → is_linked e a b ≡ true
    → is_tied e second a ≡ false → is_tied e second b ≡ false
not_tied e second a b on l f
    = false_from_ne_true (is_tied e second b)
    (λ t. both_ways (is_tied e second a) f (tied_through e second a b on l t))

-- linked stones lie in one element
pub linked_element : (e : PlayerBoard) (a b : ℕ) → Within e.board.size (stones_of e.board e.player)
    → is_linked e a b ≡ true → element_of e a ≡ element_of e b
linked_element e a b on l = elim (case_of e a on) [
  | is_free f t ↦ absurd
      (both_ways (is_empty_at e.board a) (stone_full e.board e.player a (linked_first e a b l)) f)
  | is_first f t ↦ t ∙ sym (of_first e b (tied_through e false b a on (linked_back e a b on l) f))
  | is_second f g t ↦ t
      ∙ sym (of_second e b (not_tied e false a b on l f) (tied_through e true b a on (linked_back e a b on l) g))
  | is_group r f g h m t ↦ t
      ∙ sym (of_group e b r on (stone_full e.board e.player b (linked_first e b a (linked_back e a b on l))) (not_tied e false a b on l f)
      (not_tied e true a b on l g)
      (linked_through e r a b on h l)
      (λ j k. false_from_ne_true (is_linked e j b) (λ u. both_ways (is_linked e j a) (m j k) (linked_through e j b a on u (linked_back e a b on l)))))
  | is_other f g h m t ↦ absurd
      (both_ways (is_linked e a a) (m a) (linked_through e a b a on l (linked_back e a b on l)))
]
