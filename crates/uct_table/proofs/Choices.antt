-- Going through children keeps the one of Choice.
use Rattle.std.proofs.Common.{◌≡◌, ℕ, ◌+◌, ◌<◌, ◌≤◌, ◌==◌, Bool, true, false, cond, nat_lt, List, [], ◌∷◌, map, refl, sym, ap, ◌∙◌, arith, inl, inr}
use Rattle.std.specs.List.{position_or_len, list_any}
use Rattle.std.proofs.lemmas.Bool.{cases_lt, le-ltb, lt-ltb}
use Rattle.uct_table.specs.Scores.{score_of}
use Rattle.uct_table.specs.Choice.{Child, is_unvisited, score_in, largest, first_of_largest, choice_of}
use Rattle.uct_table.proofs.Keeping.{first_here, two_scores}

-- the place that Choice takes at the end, if none so far is without visits, the greatest score so far is `most`, first at `best`,
-- and these children stand from `place` on
abbrev pub chosen_from : ℕ → ℕ → ℕ → ℕ → ℕ → List Child → ℕ
chosen_from p c place best most rest =
    cond (list_any is_unvisited rest) (place + position_or_len is_unvisited rest)
    (cond (nat_lt most (largest (map (score_in p c) rest))) (place + first_of_largest (map (score_in p c) rest)) best)

first_is : (ns : List ℕ) → first_of_largest ns ≡ cond (nat_lt 0 (largest ns)) (0 + first_of_largest ns) 0
first_is [] = refl
first_is (n ∷ ns) = elim (cases_lt 0 (largest (n ∷ ns))) [
  | inl lt ↦ grind arith
  | inr ge ↦ let z : largest ns ≤ n = omega arith in rw (first_here n ns z) (grind arith)
]

both : (t : Bool) (k m m' : ℕ) → m ≡ m' → cond t k m ≡ cond t (0 + k) m'
both true k m m' e = omega arith
both false k m m' e = e

-- at the first child
pub chosen_first : (p c : ℕ) (xs : List Child) → choice_of p c xs ≡ chosen_from p c 0 0 0 xs
unfolding choice_of
chosen_first p c xs = both (list_any is_unvisited xs) (position_or_len is_unvisited xs) _ _ (first_is (map (score_in p c) xs))

-- a child without visits
pub chosen_here : (p c place best most : ℕ) (x : Child) (xs : List Child) → x.visits ≡ 0 → chosen_from p c place best most (x ∷ xs) ≡ place
chosen_here p c place best most x xs e = let none : (x.visits == 0) ≡ true = grind arith in rw none (omega arith)

-- a child with visits
two_places : (any t : Bool) (j k a b m : ℕ) → cond t a b ≡ m → cond t (cond any ((j + 1) + k) a) (cond any ((j + 1) + k) b) ≡ cond any (j + (1 + k)) m
two_places true true j k a b m e = omega arith
two_places true false j k a b m e = omega arith
two_places false true j k a b m e = e
two_places false false j k a b m e = e

pub chosen_later : (p c place best most : ℕ) (x : Child) (xs : List Child) → 0 < x.visits
    → cond (nat_lt most (score_in p c x)) (chosen_from p c (place + 1) place (score_in p c x) xs) (chosen_from p c (place + 1) best most xs)
    ≡ chosen_from p c place best most (x ∷ xs)
chosen_later p c place best most x xs some =
    let none : (x.visits == 0) ≡ false = grind arith in
    rw none (two_places (list_any is_unvisited xs) (nat_lt most (score_in p c x)) place (position_or_len is_unvisited xs) _ _ _
    (two_scores best place most (score_in p c x) (map (score_in p c) xs)))

-- the score of a child, told by its counts
pub score_is : (p c v w a b : ℕ) (x : Child) → v ≡ x.visits → w ≡ x.wins → a ≡ x.seen → b ≡ x.seen_wins → score_of p v w a b c ≡ score_in p c x
score_is p c v w a b x hv hw ha hb i = score_of p (hv i) (hw i) (ha i) (hb i) c

-- a child with visits is taken, or passed over
pub taken : (p c place best most score : ℕ) (x : Child) (xs : List Child) → 0 < x.visits → score ≡ score_in p c x → most < score
    → chosen_from p c place best most (x ∷ xs) ≡ chosen_from p c (place + 1) place score xs
taken p c place best most score x xs some is less =
    let t : nat_lt most (score_in p c x) ≡ true = ap (nat_lt most) (sym is) ∙ lt-ltb most score less in
    sym (chosen_later p c place best most x xs some)
    ∙ ap (λ u. cond u (chosen_from p c (place + 1) place (score_in p c x) xs) (chosen_from p c (place + 1) best most xs)) t
    ∙ ap (λ n. chosen_from p c (place + 1) place n xs) (sym is)

pub passed : (p c place best most : ℕ) (x : Child) (xs : List Child) → 0 < x.visits → score_in p c x ≤ most
    → chosen_from p c place best most (x ∷ xs) ≡ chosen_from p c (place + 1) best most xs
passed p c place best most x xs some less =
    let t : nat_lt most (score_in p c x) ≡ false = le-ltb most (score_in p c x) less in
    sym (chosen_later p c place best most x xs some)
    ∙ ap (λ u. cond u (chosen_from p c (place + 1) place (score_in p c x) xs) (chosen_from p c (place + 1) best most xs)) t
