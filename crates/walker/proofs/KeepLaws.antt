-- A scan keeps the child that Choice takes of those that it has looked at.
use Rattle.std.proofs.Common.{◌≡◌, ◌≢◌, ℕ, ◌+◌, ◌<◌, ◌≤◌, Bool, true, false, cond}
use Rattle.std.proofs.Common.{List, [], ◌∷◌, ◌++◌, length, get_or, Some, refl, sym, ap, ◌∙◌, subst}
use Rattle.std.proofs.Common.{arith, ⊎_elim, append_assoc}
use Rattle.std.specs.Prelude.{◌==◌, nat_lt, slice_get}
use Rattle.std.proofs.Math.Nat.{eq-zero-or-pos}
use Rattle.std.proofs.lemmas.Bool.{cases_Bool, cases_lt, eq-eqb, ne_eqb, lt-ltb, le-ltb}
use Rattle.std.proofs.lemmas.Option.{slice_get_within, get_or_from_slice_get, slice_get-get_or}
use Rattle.std.proofs.lemmas.List.{get_or_append_left}
use Rattle.uct_table.specs.Choice.{Child, score_in, is_better, kept_of, kept_from}
use Rattle.uct_table.proofs.ChoiceLaws.{is_better-visited, is_better-first_unvisited}
use Rattle.uct_table.proofs.ChoiceLaws.{is_better-second_unvisited}
use Rattle.walker.specs.declared.scans.Phase.{Phase}
use Rattle.walker.specs.Scans.{ScanData, kept}
use Rattle.walker.specs.Belongs.{HasKept, KeepsBest}

-- which child is kept, case by case
kept-fresh : (d : ScanData) (c : Child) → d.fresh ≡ true → kept d c ≡ d
unfolding kept
kept-fresh d c e = rw e

kept-new : (d : ScanData) (c : Child) → d.fresh ≡ false → c.visits ≡ 0
    → kept d c ≡ record d { best = d.place; visits = 0; fresh = true }
unfolding kept
kept-new d c e z = let q : (c.visits == 0) ≡ true = eq-eqb c.visits 0 z in rw (e, q)

kept-better : (d : ScanData) (c : Child) → d.fresh ≡ false → 0 < c.visits
    → d.most < score_in d.parent d.weight c
    → kept d c ≡ record d { best = d.place; visits = c.visits; most = score_in d.parent d.weight c }
unfolding kept
kept-better d c e z l =
    let q : (c.visits == 0) ≡ false = ne_eqb c.visits 0 (λ y. omega arith) in
    let r : nat_lt d.most (score_in d.parent d.weight c) ≡ true
    = lt-ltb d.most (score_in d.parent d.weight c) l in rw (e, q, r)

kept-first : (d : ScanData) (c : Child) → d.fresh ≡ false → 0 < c.visits
    → score_in d.parent d.weight c ≤ d.most → d.place ≡ 0
    → kept d c ≡ record d { visits = c.visits }
unfolding kept
kept-first d c e z l p =
    let q : (c.visits == 0) ≡ false = ne_eqb c.visits 0 (λ y. omega arith) in
    let r : nat_lt d.most (score_in d.parent d.weight c) ≡ false
    = le-ltb d.most (score_in d.parent d.weight c) l in
    let t : (d.place == 0) ≡ true = eq-eqb d.place 0 p in rw (e, q, r, t)

kept-not : (d : ScanData) (c : Child) → d.fresh ≡ false → 0 < c.visits
    → score_in d.parent d.weight c ≤ d.most → d.place ≢ 0 → kept d c ≡ d
unfolding kept
kept-not d c e z l p =
    let q : (c.visits == 0) ≡ false = ne_eqb c.visits 0 (λ y. omega arith) in
    let r : nat_lt d.most (score_in d.parent d.weight c) ≡ false
    = le-ltb d.most (score_in d.parent d.weight c) l in
    let t : (d.place == 0) ≡ false = ne_eqb d.place 0 p in rw (e, q, r, t)

-- one more child at the end of a list
last-at : (xs : List Child) (c : Child) → get_or (xs ++ c ∷ []) (length xs) c ≡ c
last-at [] c = refl
last-at (x ∷ xs) c = last-at xs c

push-long : (xs : List Child) (c : Child) → length (xs ++ c ∷ []) ≡ length xs + 1
push-long [] c = refl
push-long (x ∷ xs) c = omega (arith, push-long xs c)

slice-last : (xs : List Child) (c : Child) → slice_get (xs ++ c ∷ []) (length xs) ≡ Some c
slice-last xs c = slice_get-get_or (xs ++ c ∷ []) (length xs) c (omega (arith, push-long xs c))
    ∙ ap Some (last-at xs c)

slice-left : (xs ys : List Child) (i : ℕ) (a : Child) → slice_get xs i ≡ Some a
    → slice_get (xs ++ ys) i ≡ Some a
slice-left xs ys i a e =
    let l : i < length xs = slice_get_within xs i a e in
    slice_get-get_or (xs ++ ys) i a (omega (arith, l, longer xs ys))
    ∙ ap Some (get_or_append_left xs ys a i l ∙ get_or_from_slice_get xs i a a e)
  where
    longer : (xs ys : List Child) → length xs ≤ length (xs ++ ys)
    longer [] ys = omega arith
    longer (x ∷ xs) ys = omega (arith, longer xs ys)

module _ (d : ScanData) (c : Child) (at : ℕ) (p : Phase) where
  -- the child in hand is kept, which goes on from it
  first-child : (z : ScanData) → z.best ≡ 0 → z.place ≡ 1 → z.visits ≡ c.visits
      → (z.fresh ≡ true → z.visits ≡ 0)
      → (z.fresh ≡ false → (0 < z.visits) × (score_in z.parent z.weight c ≡ z.most))
      → HasKept z (c ∷ [])
  first-child z b n v f s = record {
    place = omega (arith, b, n);
    child = c;
    is = ap (slice_get (c ∷ [])) b;
    visits = sym v;
    fresh = f;
    score = s;
    goes = λ ys. (λ i. kept_from z.parent z.weight (sym b i) c (sym n i) ys);
  }

  keeps-first : KeepsBest d []
      → KeepsBest (record (kept d c) { at = at; phase = p; place = d.place + 1 }) (c ∷ [])
  keeps-first h =
      let e : d.fresh ≡ false = h.3 in
      let goal : ScanData → Type 0
      = λ k. HasKept (record k { at = at; phase = p; place = d.place + 1 }) (c ∷ []) in
      let one : d.place + 1 ≡ 1 = omega (arith, h.0) in
      ⊎_elim
      (λ (z : c.visits ≡ 0). subst goal (sym (kept-new d c e z))
      (first-child (record d {
        best = d.place;
        visits = 0;
        fresh = true;
        at = at;
        phase = p;
        place =
            d.place + 1;
      }) h.0 one (sym z) (λ t. refl) (λ t. absurd (cc))))
      (λ (z : 0 < c.visits). ⊎_elim
      (λ (l : d.most < score_in d.parent d.weight c). subst goal (sym (kept-better d c e z l))
      (first-child (record d {
        best = d.place;
        visits = c.visits;
        most = score_in d.parent d.weight
            c;
        at = at;
        phase = p;
        place = d.place + 1;
      }) h.0 one refl (λ t. absurd (cc))
      (λ t. (z, refl))))
      (λ (l : score_in d.parent d.weight c ≤ d.most). subst goal (sym (kept-first d c e z l h.0))
      (first-child (record d { visits = c.visits; at = at; phase = p; place = d.place + 1 }) h.1 one refl (λ t. absurd (cc)) (λ t. (
        z,
        omega (arith, l, h.2),
      ))))
      (cases_lt d.most (score_in d.parent d.weight c)))
      (eq-zero-or-pos c.visits)

  -- the child that was kept stays
  old-child : (xs : List Child) (h : HasKept d xs) → is_better d.parent d.weight h.child c ≡ false
      → HasKept (record d { at = at; phase = p; place = d.place + 1 }) (xs ++ c ∷ [])
  old-child xs h t = record {
    place = omega (arith, h.place);
    child = h.child;
    is = slice-left xs (c ∷ []) d.best h.child h.is;
    visits = h.visits;
    fresh = h.fresh;
    score = h.score;
    goes = λ ys. ap (kept_of d.parent d.weight) (append_assoc xs (c ∷ []) ys)
        ∙ (h.goes (c ∷ ys)
        ∙ ap (λ (b : Bool). cond b (kept_from d.parent d.weight d.place c (d.place + 1) ys) (kept_from d.parent d.weight d.best h.child (d.place + 1) ys)) t);
  }

  -- or the new one takes its turn
  new-child : (xs : List Child) (h : HasKept d xs) → length xs ≡ d.place
      → is_better d.parent d.weight h.child c ≡ true
      → (v m : ℕ) (f : Bool) → v ≡ c.visits → (f ≡ true → v ≡ 0)
      → (f ≡ false → (0 < v) × (score_in d.parent d.weight c ≡ m))
      → HasKept (record d { best = d.place; visits = v; most = m; fresh = f; at = at; phase = p; place = d.place + 1 }) (xs ++ c ∷ [])
  new-child xs h long t v m f e z s = record {
    place = omega arith;
    child = c;
    is = ap (slice_get (xs ++ c ∷ [])) (sym long) ∙ slice-last xs c;
    visits = sym e;
    fresh = z;
    score = s;
    goes = λ ys. ap (kept_of d.parent d.weight) (append_assoc xs (c ∷ []) ys)
        ∙ (h.goes (c ∷ ys)
        ∙ ap (λ (b : Bool). cond b (kept_from d.parent d.weight d.place c (d.place + 1) ys) (kept_from d.parent d.weight d.best h.child (d.place + 1) ys)) t);
  }

  keeps-later : (xs : List Child) → length xs ≡ d.place → HasKept d xs
      → HasKept (record (kept d c) { at = at; phase = p; place = d.place + 1 }) (xs ++ c ∷ [])
  keeps-later xs long h =
      let goal : ScanData → Type 0
      = λ k. HasKept (record k { at = at; phase = p; place = d.place + 1 }) (xs ++ c ∷ []) in
      let later : d.place ≢ 0 = λ z. let l = h.place in omega (arith, l, z) in
      ⊎_elim
      (λ (f : d.fresh ≡ true). subst goal (sym (kept-fresh d c f))
      (old-child xs h (is_better-first_unvisited d.parent d.weight h.child c (h.visits ∙ h.fresh f))))
      (λ (f : d.fresh ≡ false).
      let s = h.score f in
      let some : 0 < h.child.visits = omega (arith, s.0, h.visits) in
      ⊎_elim
      (λ (z : c.visits ≡ 0). subst goal (sym (kept-new d c f z))
      (new-child xs h long (is_better-second_unvisited d.parent d.weight h.child c some z) 0 d.most true (sym z) (λ t. refl) (λ t. absurd (cc))))
      (λ (z : 0 < c.visits).
      let better = is_better-visited d.parent d.weight h.child c some z in
      ⊎_elim
      (λ (l : d.most < score_in d.parent d.weight c). subst goal (sym (kept-better d c f z l))
      (new-child xs h long (better ∙ lt-ltb (score_in d.parent d.weight h.child) (score_in d.parent
      d.weight c) (omega (arith, l, s.1))) c.visits (score_in d.parent d.weight c) d.fresh refl
      (λ t. absurd (cc)) (λ t. (z, refl))))
      (λ (l : score_in d.parent d.weight c ≤ d.most). subst goal (sym (kept-not d c f z l later))
      (old-child xs h (better ∙ le-ltb (score_in d.parent d.weight h.child) (score_in d.parent d.weight c) (omega (arith, l, s.1)))))
      (cases_lt d.most (score_in d.parent d.weight c)))
      (eq-zero-or-pos c.visits))
      (cases_Bool d.fresh)

  pub keeps-more : (xs : List Child) → length xs ≡ d.place → KeepsBest d xs
      → KeepsBest (record (kept d c) { at = at; phase = p; place = d.place + 1 }) (xs ++ c ∷ [])
  keeps-more [] long h = keeps-first h
  keeps-more (x ∷ xs) long h = keeps-later (x ∷ xs) long h

-- the visits of the child that is kept
pub kept-few : (d : ScanData) (c : Child) (n : ℕ) → d.visits ≤ n → c.visits ≤ n
    → (kept d c).visits ≤ n
unfolding kept
kept-few d c n a b = by d.fresh (c.visits == 0) (nat_lt d.most (score_in d.parent d.weight c))
    (d.place == 0)
  where
    by : (t u w x : Bool)
        → (cond t d (cond u (record d { best = d.place; visits = 0; fresh = true })
        (cond w (record d { best = d.place; visits = c.visits; most = score_in d.parent d.weight c }) (cond x (record d { visits = c.visits }) d)))).visits
        ≤ n
    by true u w x = a
    by false true w x = omega arith
    by false false true x = b
    by false false false true = b
    by false false false false = a

-- at the end the child that is kept is the one that going through all keeps
pub kept-all : (d : ScanData) (xs : List Child) → HasKept d xs
    → kept_of d.parent d.weight xs ≡ d.best
kept-all d xs h = ap (kept_of d.parent d.weight) (sym (all xs)) ∙ h.goes []
  where
    all : (xs : List Child) → xs ++ [] ≡ xs
    all [] = refl
    all (x ∷ xs) = ap (λ (ys : List Child). x ∷ ys) (all xs)
