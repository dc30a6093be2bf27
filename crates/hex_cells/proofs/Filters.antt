-- The numbers of a range that pass a test.
use Rattle.std.proofs.Common.{◌≡◌, ℕ, ◌+◌, ◌<◌, ◌≤◌, ◌==◌, ◌&&◌, not, Bool, true, false, cond, List}
use Rattle.std.proofs.Common.{[], ◌∷◌, ◌++◌, refl, sym, ap, ◌∙◌, ⊎_elim, arith, zero, suc}
use Rattle.std.specs.List.{filter, range_with_len}
use Rattle.std.proofs.lemmas.Bool.{cases_Bool, eqb-true}
use Rattle.std.proofs.lemmas.Bool.Decides.{nat_tests}

-- none passes
pub none_pass : (p : ℕ → Bool) (a n : ℕ) → ((k : ℕ) → a ≤ k → p k ≡ false)
    → filter p (range_with_len a n) ≡ []
none_pass p a zero f = refl
none_pass p a (suc n) f =
    ap (λ b. cond b (a ∷ filter p (range_with_len (a + 1) n)) (filter p (range_with_len (a + 1) n)))
    (f a (omega arith))
    ∙ none_pass p (a + 1) n (λ k l. f k (omega arith))

-- tests that agree from the first number on
pub same_pass : (p q : ℕ → Bool) (a n : ℕ) → ((k : ℕ) → a ≤ k → p k ≡ q k)
    → filter p (range_with_len a n) ≡ filter q (range_with_len a n)
same_pass p q a zero f = refl
same_pass p q a (suc n) f =
    ap (λ b. cond b (a ∷ filter p (range_with_len (a + 1) n)) (filter p (range_with_len (a + 1) n)))
    (f a (omega arith))
    ∙ ap (λ xs. cond (q a) (a ∷ xs) xs) (same_pass p q (a + 1) n (λ k l. f k (omega arith)))

-- the least that passes is the first
pub least_pass : (p q : ℕ → Bool) (a n c : ℕ) → a ≤ c → c < a + n → p c ≡ true
    → ((i : ℕ) → i < c → p i ≡ false)
    → ((i : ℕ) → q i ≡ (p i && not (i == c)))
    → filter p (range_with_len a n) ≡ c ∷ filter q (range_with_len a n)
least_pass p q a zero c l m t below rest = absurd (omega arith)
least_pass p q a (suc n) c l m t below rest = ⊎_elim
    (λ (e : (a == c) ≡ true).
    let is : a ≡ c = eqb-true a c e in
    let here : p a ≡ true = ap p is ∙ t in
    let gone : q a ≡ false = rest a ∙ out (p a) (a == c) e in
    ap (λ (u : Bool). cond u (a ∷ filter p (range_with_len (a + 1) n)) (filter p (range_with_len (a + 1) n))) here
    ∙ (λ i. is i ∷ same_pass p q (a + 1) n (λ j k. sym (rest j ∙ kept (p j) (j == c) (apart j c (omega arith)))) i)
    ∙ sym (ap (λ (u : Bool). c ∷ cond u (a ∷ filter q (range_with_len (a + 1) n)) (filter q (range_with_len (a + 1) n))) gone))
    (λ (e : (a == c) ≡ false).
    let less : a < c = low a c l e in
    let no : p a ≡ false = below a less in
    let nor : q a ≡ false = rest a ∙ ap (λ (u : Bool). u && not (a == c)) no in
    ap (λ (u : Bool). cond u (a ∷ filter p (range_with_len (a + 1) n)) (filter p (range_with_len (a + 1) n))) no
    ∙ least_pass p q (a + 1) n c (omega arith) (omega arith) t below rest
    ∙ sym (ap (λ (u : Bool). c ∷ cond u (a ∷ filter q (range_with_len (a + 1) n)) (filter q (range_with_len (a + 1) n))) nor))
    (cases_Bool (a == c))
  where
    out : (b u : Bool) → u ≡ true → (b && not u) ≡ false
    out true true e = refl
    out true false e = sym e
    out false u e = refl

    kept : (b u : Bool) → u ≡ false → (b && not u) ≡ b
    kept true true e = sym e
    kept true false e = refl
    kept false u e = refl

    apart : (j c : ℕ) → c < j → (j == c) ≡ false
    apart j c k = grind (arith, nat_tests)

    low : (a c : ℕ) → a ≤ c → (a == c) ≡ false → a < c
    low a c k e = grind (arith, nat_tests)

-- no number past a range passes
pub longer_pass : (p : ℕ → Bool) (a n m : ℕ) → ((i : ℕ) → a + n ≤ i → p i ≡ false)
    → filter p (range_with_len a (n + m)) ≡ filter p (range_with_len a n)
longer_pass p a zero m h = ap (λ (z : ℕ). filter p (range_with_len a z)) (none-plus m)
    ∙ none_pass p a m (λ i l. h i (omega arith))
  where
    none-plus : (m : ℕ) → 0 + m ≡ m
    none-plus m = omega arith
longer_pass p a (suc n) m h =
    ap (λ (z : ℕ). filter p (range_with_len a z)) (more n m)
    ∙ ap (λ (xs : List ℕ). cond (p a) (a ∷ xs) xs)
    (longer_pass p (a + 1) n m (λ i l. h i (omega arith)))
  where
    more : (n m : ℕ) → suc n + m ≡ suc (n + m)
    more n m = omega arith

-- a range in two parts
pub two_pass : (p : ℕ → Bool) (a n m : ℕ) → filter p (range_with_len a (n + m)) ≡ filter p
    (range_with_len a n) ++ filter p (range_with_len (a + n) m)
two_pass p a zero m = (λ i. filter p (range_with_len (plus-none a i) (none-plus m i)))
  where
    none-plus : (m : ℕ) → 0 + m ≡ m
    none-plus m = omega arith

    plus-none : (a : ℕ) → a ≡ a + 0
    plus-none a = omega arith
two_pass p a (suc n) m =
    ap (λ (z : ℕ). filter p (range_with_len a z)) (more n m)
    ∙ (ap (λ (xs : List ℕ). cond (p a) (a ∷ xs) xs) (two_pass p (a + 1) n m)
    ∙ (through (p a) a (filter p (range_with_len (a + 1) n)) (filter p (range_with_len (a + 1 + n) m))
    ∙ ap (λ (z : ℕ). cond (p a) (a ∷ filter p (range_with_len (a + 1) n)) (filter p (range_with_len (a + 1) n))
    ++ filter p (range_with_len z m)) (shift a n)))
  where
    more : (n m : ℕ) → suc n + m ≡ suc (n + m)
    more n m = omega arith

    shift : (a n : ℕ) → a + 1 + n ≡ a + suc n
    shift a n = omega arith

    through : (t : Bool) (x : ℕ) (xs ys : List ℕ)
        → cond t (x ∷ (xs ++ ys)) (xs ++ ys) ≡ cond t (x ∷ xs) xs ++ ys
    through true x xs ys = refl
    through false x xs ys = refl
