-- The lines of a text with more at its end.
use Rattle.std.proofs.Common.{◌≡◌, ℕ, Bool, true, false, cond, List, [], ◌∷◌, ◌++◌, refl, ap, sym}
use Rattle.std.proofs.Common.{◌∙◌, append_assoc, append-nil}
use Rattle.std.specs.List.{onto_first, All}
use Rattle.std.proofs.lemmas.List.Splits.{slice_split_none, slice_split_at}
use Rattle.htp_line.specs.Lines.{is_feed, parts_of, but_last, last_part, whole, rest}

-- a part with more at its end, and then the other parts
abbrev pub onto_front : List ℕ → List (List ℕ) → List (List ℕ)
onto_front l [] = l ∷ []
onto_front l (q ∷ qs) = (l ++ q) ∷ qs

abbrev pub glued : List (List ℕ) → List (List ℕ) → List (List ℕ)
glued ps qs = but_last ps ++ onto_front (last_part ps) qs

glued-feed : (ps qs : List (List ℕ)) (p : List ℕ) (more : List (List ℕ)) → ps ≡ p ∷ more
    → [] ∷ glued ps qs ≡ glued ([] ∷ ps) qs
glued-feed ps qs p more e = rw e refl

glued-onto : (x : ℕ) (ps qs : List (List ℕ))
    → onto_first x (glued ps qs) ≡ glued (onto_first x ps) qs
glued-onto x [] [] = refl
glued-onto x [] (q ∷ qs) = refl
glued-onto x (p ∷ []) [] = refl
glued-onto x (p ∷ []) (q ∷ qs) = refl
glued-onto x (p ∷ p' ∷ ps) qs = refl

split_step : (b : Bool) (x : ℕ) (all ps qs : List (List ℕ)) (p : List ℕ) (more : List (List ℕ))
    → ps ≡ p ∷ more → all ≡ glued ps qs
    → cond b ([] ∷ all) (onto_first x all) ≡ glued (cond b ([] ∷ ps) (onto_first x ps)) qs
split_step true x all ps qs p more e h = rw h (glued-feed ps qs p more e)
split_step false x all ps qs p more e h = rw h (glued-onto x ps qs)

first_part : (b : Bool) (x : ℕ) (ps : List (List ℕ)) → (p : List ℕ) × (more : List (List ℕ))
    × (cond b ([] ∷ ps) (onto_first x ps) ≡ p ∷ more)
first_part true x ps = ([], ps, refl)
first_part false x [] = (x ∷ [], [], refl)
first_part false x (p ∷ ps) = (x ∷ p, ps, refl)

-- there is a part
pub parts_cons : (s : List ℕ) → (p : List ℕ) × (more : List (List ℕ)) × (parts_of s ≡ p ∷ more)
parts_cons [] = ([], [], refl)
parts_cons (x ∷ xs) = first_part (is_feed x) x (parts_of xs)

onto_front-nil : (ps : List (List ℕ)) (p : List ℕ) (more : List (List ℕ)) → ps ≡ p ∷ more
    → ps ≡ onto_front [] ps
onto_front-nil ps p more e = rw e refl

-- the parts of a text with more at its end
pub parts-append : (s t : List ℕ) → parts_of (s ++ t) ≡ glued (parts_of s) (parts_of t)
parts-append [] t = let c = parts_cons t in onto_front-nil (parts_of t) c.0 c.1 c.2
parts-append (x ∷ xs) t = let c = parts_cons xs in split_step (is_feed x) x (parts_of (xs ++ t))
    (parts_of xs) (parts_of t) c.0 c.1 c.2 (parts-append xs t)

but_last_push : (xs : List (List ℕ)) (x : List ℕ) → but_last (xs ++ x ∷ []) ≡ xs
but_last_push [] x = refl
but_last_push (y ∷ []) x = refl
but_last_push (y ∷ z ∷ zs) x = ap (λ l. y ∷ l) (but_last_push (z ∷ zs) x)

but_last-append : (xs : List (List ℕ)) (x : List ℕ) (more : List (List ℕ))
    → but_last (xs ++ x ∷ more) ≡ xs ++ but_last (x ∷ more)
but_last-append [] x more = refl
but_last-append (y ∷ []) x more = refl
but_last-append (y ∷ z ∷ zs) x more = ap (λ l. y ∷ l) (but_last-append (z ∷ zs) x more)

last_of_push : (xs : List (List ℕ)) (x : List ℕ) → last_part (xs ++ x ∷ []) ≡ x
last_of_push [] x = refl
last_of_push (y ∷ []) x = refl
last_of_push (y ∷ z ∷ zs) x = last_of_push (z ∷ zs) x

abbrev pub NoFeed : List ℕ → Type 0
NoFeed q = All (λ b. is_feed b ≡ false) q

-- more of the line in hand
pub whole_more : (s q : List ℕ) → NoFeed q → (whole (s ++ q) ≡ whole s)
    × (rest (s ++ q) ≡ rest s ++ q)
unfolding whole rest
whole_more s q none =
    let e : parts_of (s ++ q) ≡ but_last (parts_of s) ++ (last_part (parts_of s) ++ q) ∷ []
    = parts-append s q ∙ ap (glued (parts_of s)) (slice_split_none is_feed q none) in
    (rw e (but_last_push (but_last (parts_of s)) (last_part (parts_of s) ++ q)), rw e (last_of_push (but_last (parts_of s)) (last_part (parts_of s) ++ q)))

-- the line in hand ends
pub whole_ended : (s q : List ℕ) → NoFeed q
    → (whole (s ++ (q ++ 10 ∷ [])) ≡ whole s ++ (rest s ++ q) ∷ [])
    × (rest (s ++ (q ++ 10 ∷ [])) ≡ [])
unfolding whole rest
whole_ended s q none =
    let raw = last_part (parts_of s) ++ q in
    let e : parts_of (s ++ (q ++ 10 ∷ [])) ≡ (but_last (parts_of s) ++ raw ∷ []) ++ [] ∷ [] =
    parts-append s (q ++ 10 ∷ [])
    ∙ ap (glued (parts_of s)) (slice_split_at is_feed q 10 [] none refl)
    ∙ sym (append_assoc (but_last (parts_of s)) (raw ∷ []) ([] ∷ [])) in
    (rw e (but_last_push (but_last (parts_of s) ++ raw ∷ []) []), rw e (last_of_push (but_last (parts_of s) ++ raw ∷ []) []))

glued_front : (ps qs : List (List ℕ)) (q : List ℕ) (more : List (List ℕ)) → qs ≡ q ∷ more
    → (front : List (List ℕ)) × (but_last (glued ps qs) ≡ but_last ps ++ front)
glued_front ps qs q [] e
    = ([], rw e (but_last_push (but_last ps) (last_part ps ++ q) ∙ sym (append-nil (but_last ps))))
glued_front ps qs q (q' ∷ more) e
    = (but_last ((last_part ps ++ q) ∷ q' ∷ more), rw e (but_last-append (but_last ps) (last_part ps ++ q) (q' ∷ more)))

-- the whole lines of a text are the first of those of a longer one
pub whole-append : (s t : List ℕ) → (more : List (List ℕ)) × (whole (s ++ t) ≡ whole s ++ more)
unfolding whole
whole-append s t =
    let c = parts_cons t in
    let f = glued_front (parts_of s) (parts_of t) c.0 c.1 c.2 in
    (f.0, ap but_last (parts-append s t) ∙ f.1)
