-- The least cells of groups, found one group after another.
use Rattle.std.proofs.Common.{◌≡◌, ℕ, ◌<◌, ◌≤◌, List, [], ◌∷◌, ◌++◌, Bool, true, false, refl, sym}
use Rattle.std.proofs.Common.{◌∙◌, ap, subst, arith, ◌&&◌, ◌||◌, ◌==◌, not, ◌↔◌, IsTrue, inl, inr}
use Rattle.std.proofs.lemmas.Bool.{and_parts, and_from, or_cases, or_left, or_right, both_ways}
use Rattle.std.proofs.lemmas.Bool.{false≢true, not_from_false, not_from_true, false_from_ne_true}
use Rattle.std.proofs.lemmas.Bool.{not-true, cases_Bool, cases_eq, cases_order, and_right, eqb-true}
use Rattle.std.proofs.lemmas.Bool.{eq-eqb}
use Rattle.hex_cells.specs.Sets.{has}
use Rattle.hex_cells.specs.Graph.{Neighbour}
use Rattle.hex_board.specs.Joined.{Path, last_of, Leads}
use Rattle.hex_board.specs.Groups.{Links, IsRoot}
use Rattle.hex_board.proofs.Reach.{back}

-- one more cell at the end of a path
longer : (n s x z : ℕ) (xs : List ℕ) → Path n s x xs → has s z ≡ true → Neighbour n (last_of x xs) z
    → Path n s x (xs ++ z ∷ [])
longer n s x z [] p h b = (p, b, h)
longer n s x z (y ∷ ys) p h b = (p.0, p.1, longer n s y z ys p.2 h b)

last_longer : (x z : ℕ) (xs : List ℕ) → last_of x (xs ++ z ∷ []) ≡ z
last_longer x z [] = refl
last_longer x z (y ∷ ys) = last_longer y z ys

along : (n s x z w : ℕ) → Links n s x w → has s z ≡ true → Neighbour n w z → Links n s x z
along n s x z w l h b = (l.0 ++ z ∷ [], longer n s x z l.0 l.1 h (rw l.2 b), last_longer x z l.0)

pub turned_path : (n s x : ℕ) (xs : List ℕ) → Path n s x xs → Links n s (last_of x xs) x
turned_path n s x [] p = ([], p, refl)
turned_path n s x (y ∷ ys) p = along n s (last_of y ys) x y (turned_path n s y ys p.2) p.0
    (back n x y p.1)

pub turned_link : (n s a b : ℕ) → Links n s a b → Links n s b a
turned_link n s a b l = subst (λ v. Links n s v a) l.2 (turned_path n s a l.0 l.1)

joined_paths : (n s x z : ℕ) (xs : List ℕ) → Path n s x xs → Links n s (last_of x xs) z
    → Links n s x z
joined_paths n s x z [] p l = l
joined_paths n s x z (y ∷ ys) p l = let r = joined_paths n s y z ys p.2 l in
    (y ∷ r.0, (p.0, p.1, r.1), r.2)

pub links_through : (n s a b c : ℕ) → Links n s a b → Links n s b c → Links n s a c
links_through n s a b c l m = joined_paths n s a c l.0 l.1 (subst (λ v. Links n s v c) (sym l.2) m)

pub first_in : (n s a b : ℕ) → Links n s a b → has s a ≡ true
first_in n s a b ([], p, e) = p
first_in n s a b (y ∷ ys, p, e) = p.0

-- what a flood from the one cell c says
pub links_from : (n s g c k : ℕ) → ((j : ℕ) → has g j ≡ (false || j == c)) → Leads n s g k
    → Links n s k c
links_from n s g c k e l = (l.0, l.1, eqb-true _ c (sym (e (last_of k l.0)) ∙ l.2))

pub leads_from : (n s g c k : ℕ) → ((j : ℕ) → has g j ≡ (false || j == c)) → Links n s k c
    → Leads n s g k
leads_from n s g c k e l = (l.0, l.1, e (last_of k l.0) ∙ eq-eqb _ c l.2)

-- the roots found, if the cells of rest, whole groups, are still to come
pub record Found (n s roots rest : ℕ) : Type 0 where
  pub within : (k : ℕ) → has rest k ≡ true → has s k ≡ true
  pub whole : (a b : ℕ) → has rest a ≡ true → Links n s a b → has rest b ≡ true
  pub sound : (k : ℕ) → has roots k ≡ true → IsRoot n s k
  pub all : (k : ℕ) → IsRoot n s k → has rest k ≡ false → has roots k ≡ true

least_root : (n s roots rest c : ℕ) → Found n s roots rest → has rest c ≡ true
    → ((k : ℕ) → k < c → has rest k ≡ false) → IsRoot n s c
least_root n s roots rest c i h m
    = (i.within c h, λ j l k. both_ways (has rest j) (m j l) (i.whole c j h (turned_link n s j c k)))

left_over : (x y : Bool) → (x && not y) ≡ false → x ≡ true → y ≡ true
left_over true true e h = refl
left_over true false e h = absurd (false≢true (sym e))
left_over false y e h = absurd (false≢true h)

same_root : (n s rest c k : ℕ) → ((j : ℕ) → j < c → has rest j ≡ false) → has rest k ≡ true
    → IsRoot n s k → Links n s k c → k ≡ c
same_root n s rest c k m w r l = elim (cases_order k c) [
  | inl e ↦ e
  | inr o ↦ elim o [ inl b ↦ absurd (both_ways (has rest k) (m k b) w) | inr b ↦ absurd (r.1 c b (turned_link n s k c l)) ]
]

pub next_found : (n s roots rest c g fl more less : ℕ) → Found n s roots rest → has rest c ≡ true
    → ((k : ℕ) → k < c → has rest k ≡ false)
    → ((k : ℕ) → has g k ≡ (false || k == c)) → ((k : ℕ) → IsTrue (has fl k) ↔ Leads n s g k)
    → ((k : ℕ) → has more k ≡ (has roots k || k == c))
    → ((k : ℕ) → has less k ≡ (has rest k && not (has fl k)))
    → Found n s more less
next_found n s roots rest c g fl more less i h m eg ef em el = record {
  within = λ k u. i.within k (and_parts (has rest k) (not (has fl k)) (sym (el k) ∙ u)).0;
  whole = λ a b u l. let t = and_parts (has rest a) (not (has fl a)) (sym (el a) ∙ u) in
      el b ∙ and_from (has rest b) (not (has fl b)) (i.whole a b t.0 l)
      (not_from_false (has fl b) (false_from_ne_true (has fl b) (λ w. both_ways (has fl a) (not-true (has fl a) t.1)
      ((ef a).1 (leads_from n s g c a eg (links_through n s a b c l (links_from n s g c b eg ((ef b).0 w))))))));
  sound = λ k u. elim (or_cases (has roots k) (k == c) (sym (em k) ∙ u)) [
    | inl w ↦ i.sound k w
    | inr w ↦ subst (λ v. IsRoot n s v) (sym (eqb-true k c w)) (least_root n s roots rest c i h m)
  ];
  all = λ k r u. em k ∙ elim (cases_Bool (has rest k)) [
    | inr w ↦ or_left (has roots k) (k == c) (i.all k r w)
    | inl w ↦ or_right (has roots k) (k == c) (eq-eqb k c (same_root n s rest c k m w r
        (links_from n s g c k eg ((ef k).0 (left_over (has rest k) (has fl k) (sym (el k) ∙ u) w)))))
  ];
}

pub no_more_roots : (n s roots rest : ℕ) → Found n s roots rest → ((k : ℕ) → has rest k ≡ false)
    → (k : ℕ) → IsTrue (has roots k) ↔ IsRoot n s k
no_more_roots n s roots rest i e k = (i.sound k, λ r. i.all k r (e k))

pub none_found : (n s roots : ℕ) → ((k : ℕ) → has roots k ≡ false) → Found n s roots s
none_found n s roots e = record {
  within = λ k h. h;
  whole = λ a b h l. first_in n s b a (turned_link n s a b l);
  sound = λ k h. absurd (both_ways (has roots k) (e k) h);
  all = λ k r h. absurd (both_ways (has s k) h r.0);
}

pub fewer : (rest c fl less : ℕ) → has rest c ≡ true
    → ((k : ℕ) → has less k ≡ (has rest k && not (has fl k))) → has fl c ≡ true → less ≤ rest
    → less < rest
fewer rest c fl less h e f l = elim (cases_eq less rest) [
  | inl w ↦ absurd
      (both_ways (has rest c) (ap (λ v. has v c) (sym w) ∙ (e c ∙ and_right (has rest c) (not (has fl c)) (not_from_true (has fl c) f))) h)
  | inr w ↦ omega arith
]
