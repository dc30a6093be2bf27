-- One more of the first numbers.
use Rattle.std.proofs.Common.{◌≡◌, ℕ, ◌+◌, zero, suc, List, ◌++◌, ap, sym, ◌∙◌, append-nil}
use Rattle.std.proofs.Common.{append_assoc, arith}
use Rattle.std.specs.List.{flat_map, range_with_len}

flat_range : (f : ℕ → List ℕ) (a n j : ℕ) → a + n ≡ j
    → flat_map f (range_with_len a (suc n)) ≡ flat_map f (range_with_len a n) ++ f j
flat_range f a zero j e = let h : a ≡ j = omega arith in append-nil (f a) ∙ ap f h
flat_range f a (suc n) j e = ap (λ l. f a ++ l) (flat_range f (a + 1) n j (omega arith))
    ∙ sym (append_assoc (f a) (flat_map f (range_with_len (a + 1) n)) (f j))

pub flat_map_range_more : (f : ℕ → List ℕ) (n : ℕ)
    → flat_map f (range_with_len 0 (n + 1)) ≡ flat_map f (range_with_len 0 n) ++ f n
flat_map_range_more f n = let e : n + 1 ≡ suc n = omega arith in
    ap (λ k. flat_map f (range_with_len 0 k)) e ∙ flat_range f 0 n n (omega arith)

-- a loop that adds a piece for each number
pub range_step : (f : ℕ → List ℕ) (old now new piece : List ℕ) (n : ℕ)
    → now ≡ old ++ flat_map f (range_with_len 0 n) → new ≡ now ++ piece → piece ≡ f n
    → new ≡ old ++ flat_map f (range_with_len 0 (n + 1))
range_step f old now new piece n e h p = h ∙ ap (λ l. l ++ piece) e
    ∙ append_assoc old (flat_map f (range_with_len 0 n)) piece
    ∙ ap (λ l. old ++ (flat_map f (range_with_len 0 n) ++ l)) p
    ∙ ap (λ l. old ++ l) (sym (flat_map_range_more f n))
