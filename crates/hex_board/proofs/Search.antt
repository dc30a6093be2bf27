-- The search of paths, cell by cell, finds one if there is one.
use Rattle.std.proofs.Common.{◌≡◌, ℕ, ◌+◌, ◌*◌, ◌<◌, ◌≤◌, ◌≢◌, ◌==◌, ◌&&◌, ◌||◌, ◌⊎◌, ◌↔◌, IsTrue}
use Rattle.std.proofs.Common.{not, true, false, Bool, List, [], ◌∷◌, refl, sym, ◌∙◌, ap, subst}
use Rattle.std.proofs.Common.{arith, inl, inr, zero, suc}
use Rattle.std.specs.List.{list_any, range_with_len}
use Rattle.std.proofs.lemmas.Bool.{and_parts, and_from, or_cases, or_left, or_right, cases_eq}
use Rattle.std.proofs.lemmas.Bool.{false≢true}
use Rattle.std.proofs.lemmas.Bool.Decides.{nat_tests}
use Rattle.hex_cells.specs.Sets.{has, members, without_cell}
use Rattle.hex_cells.specs.Graph.{Neighbour, is_neighbour}
use Rattle.hex_cells.specs.Edges.{on_edge}
use Rattle.hex_cells.specs.declared.colours.Colour.{Colour}
use Rattle.hex_cells.proofs.Bits.{has_without, same_out}
use Rattle.hex_cells.proofs.Tables.{edge_on}
use Rattle.hex_cells.proofs.Beside.{neighbour_in, neighbour_out, same_test}
use Rattle.hex_cells.proofs.Counts.{members_less, members_few, members_apart}
use Rattle.hex_board.specs.Joined.{Path, last_of, Joined, cells_of, leads_in, is_joined}

pub any_out : (p : ℕ → Bool) (a n : ℕ) → list_any p (range_with_len a n) ≡ true
    → (k : ℕ) × (k < a + n) × (p k ≡ true)
any_out p a zero h = absurd (false≢true h)
any_out p a (suc n) h = elim (or_cases (p a) (list_any p (range_with_len (a + 1) n)) h) [
  | inl e ↦ (a, omega arith, e)
  | inr e ↦ let t = any_out p (a + 1) n e in (t.0, omega (arith, t.1), t.2)
]

pub any_in : (p : ℕ → Bool) (a n k : ℕ) → a ≤ k → k < a + n → p k ≡ true
    → list_any p (range_with_len a n) ≡ true
any_in p a zero k l h e = absurd (omega arith)
any_in p a (suc n) k l h e = elim (cases_eq a k) [
  | inl q ↦ or_left (p a) (list_any p (range_with_len (a + 1) n)) (ap p q ∙ e)
  | inr q ↦ or_right (p a) (list_any p (range_with_len (a + 1) n))
      (any_in p (a + 1) n k (omega arith) (omega arith) e)
]

-- ---- a search that answers yes has found a path

path_wider : (n t s x : ℕ) (xs : List ℕ) → ((k : ℕ) → has t k ≡ true → has s k ≡ true)
    → Path n t x xs → Path n s x xs
path_wider n t s x [] f p = f x p
path_wider n t s x (y ∷ ys) f p = (f x p.0, p.1, path_wider n t s y ys f p.2)

less_in : (s x k : ℕ) → has (without_cell s x) k ≡ true → has s k ≡ true
less_in s x k h = (and_parts (has s k) (not (k == x)) (sym (has_without s x k) ∙ h)).0

pub leads_out : (fuel n s : ℕ) (test : ℕ → Bool) (x : ℕ) → leads_in fuel n s test x ≡ true
    → (xs : List ℕ) × Path n s x xs × (test (last_of x xs) ≡ true)
unfolding leads_in
leads_out zero n s test x h = absurd (false≢true h)
leads_out (suc fuel) n s test x h =
    let next : ℕ → Bool = λ y. is_neighbour n x y && leads_in fuel n (without_cell s x) test y in
    let t = and_parts (has s x) (test x || list_any next (cells_of n)) h in
    elim (or_cases (test x) (list_any next (cells_of n)) t.1) [
      | inl e ↦ ([], t.0, e)
      | inr e ↦ let w = any_out next 0 (n * n) e in
          let u = and_parts (is_neighbour n x w.0)
          (leads_in fuel n (without_cell s x) test w.0) w.2 in
          let r = leads_out fuel n (without_cell s x) test w.0 u.1 in
          (w.0 ∷ r.0, (t.0, neighbour_out n x w.0 u.0, path_wider n (without_cell s x) s w.0 r.0 (less_in s x) r.1), r.2)
    ]

-- ---- and if there is a path it answers yes

-- from x one can leave: x passes, or a neighbour has a path without x
abbrev Exit : ℕ → ℕ → (ℕ → Bool) → ℕ → Type 0
Exit n s test x
    = (test x ≡ true) ⊎ ((y : ℕ) × (ys : List ℕ) × Neighbour n x y × Path n (without_cell s x) y ys × (test (last_of y ys) ≡ true))

-- z is not x, and has a path without x
abbrev Around : ℕ → ℕ → (ℕ → Bool) → ℕ → ℕ → Type 0
Around n s test x z
    = (z ≢ x) × ((ys : List ℕ) × Path n (without_cell s x) z ys × (test (last_of z ys) ≡ true))

other_cell : (a : Bool) (z x : ℕ) → a ≡ true → z ≢ x → (a && not (z == x)) ≡ true
other_cell a z x h n = grind (arith, nat_tests)

still_in : (s x z : ℕ) → has s z ≡ true → z ≢ x → has (without_cell s x) z ≡ true
still_in s x z h n = has_without s x z ∙ other_cell (has s z) z x h n

-- a path is cut behind its last x
cut : (n s : ℕ) (test : ℕ → Bool) (x z : ℕ) (zs : List ℕ) → Path n s z zs
    → test (last_of z zs) ≡ true → Exit n s test x ⊎ Around n s test x z
cut n s test x z [] p e = elim (cases_eq z x) [
  | inl q ↦ inl (inl (ap test (sym q) ∙ e))
  | inr q ↦ inr (q, ([], still_in s x z p q, e))
]
cut n s test x z (w ∷ ws) p e = elim (cut n s test x w ws p.2 e) [
  | inl r ↦ inl r
  | inr r ↦ elim (cases_eq z x) [
    | inl q ↦ inl (inr (w, r.1.0, subst (λ v. Neighbour n v w) q p.1, r.1.1, r.1.2))
    | inr q ↦ inr (q, (w ∷ r.1.0, (still_in s x z p.0 q, p.1, r.1.1), r.1.2))
  ]
]

pub starts_in : (n s x : ℕ) (xs : List ℕ) → Path n s x xs → has s x ≡ true
starts_in n s x [] p = p
starts_in n s x (y ∷ ys) p = p.0

pub leads_found : (fuel n s : ℕ) (test : ℕ → Bool) (x : ℕ) (xs : List ℕ) → x < n * n
    → members s (n * n) ≤ fuel
    → Path n s x xs → test (last_of x xs) ≡ true → leads_in fuel n s test x ≡ true
unfolding leads_in
leads_found zero n s test x xs b m p e =
    let h : has s x ≡ true = starts_in n s x xs p in
    let l : members s x < members s (n * n) = members_apart s x (n * n) h b in absurd (omega arith)
leads_found (suc fuel) n s test x xs b m p e =
    let h : has s x ≡ true = starts_in n s x xs p in
    let next : ℕ → Bool = λ y. is_neighbour n x y && leads_in fuel n (without_cell s x) test y in
    let l : members (without_cell s x) (n * n) < members s (n * n)
    = members_less (without_cell s x) s x (n * n) (less_in s x) h
    (has_without s x x ∙ same_out (has s x) x) b in
    and_from (has s x) (test x || list_any next (cells_of n)) h (elim (cut n s test x x xs p e) [
      | inr r ↦ absurd (r.0 refl)
      | inl r ↦ elim r [
        | inl t ↦ or_left (test x) (list_any next (cells_of n)) t
        | inr t ↦ or_right (test x) (list_any next (cells_of n))
            (any_in next 0 (n * n) t.0 (omega arith) (omega (arith, t.2.to))
            (and_from (is_neighbour n x t.0) (leads_in fuel n (without_cell s x) test t.0) (neighbour_in n x t.0 t.2)
            (leads_found fuel n (without_cell s x) test t.0 t.1 t.2.to (omega arith) t.3 t.4)))
      ]
    ])

pub joined_out : (n : ℕ) (p : Colour) (s : ℕ) → is_joined n p s ≡ true → Joined n p s
unfolding is_joined
joined_out n p s h =
    let w = any_out (λ x. on_edge p false n x && leads_in (n * n) n s (on_edge p true n) x) 0
    (n * n) h in
    let t = and_parts (on_edge p false n w.0) (leads_in (n * n) n s (on_edge p true n) w.0) w.2 in
    let r = leads_out (n * n) n s (on_edge p true n) w.0 t.1 in
    (w.0, r.0, r.1, t.0, r.2)

pub joined_found : (n : ℕ) (p : Colour) (s : ℕ) → Joined n p s → is_joined n p s ≡ true
unfolding is_joined
joined_found n p s j
    = any_in (λ x. on_edge p false n x && leads_in (n * n) n s (on_edge p true n) x) 0 (n * n) j.0
    (omega arith) (omega (arith, edge_on p false n j.0 j.3))
    (and_from (on_edge p false n j.0) (leads_in (n * n) n s (on_edge p true n) j.0) j.3
    (leads_found (n * n) n s (on_edge p true n) j.0 j.1 (edge_on p false n j.0 j.3) (members_few s (n * n)) j.2 j.4))

pub joined_test : (n : ℕ) (p : Colour) (s : ℕ) → IsTrue (is_joined n p s) ↔ Joined n p s
joined_test n p s = (joined_out n p s, joined_found n p s)

pub same_joined : (n : ℕ) (p : Colour) (s : ℕ) (x : Bool) → IsTrue x ↔ Joined n p s
    → x ≡ is_joined n p s
same_joined n p s x h = same_test x (is_joined n p s) (λ e. joined_found n p s (h.0 e))
    (λ e. h.1 (joined_out n p s e))
