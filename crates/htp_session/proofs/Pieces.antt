-- The parts of a piece.
use Rattle.std.proofs.Common.{◌≡◌, ◌≤◌, ℕ, ◌+◌, ◌-◌, List, ◌++◌, length, take, drop, ap, sym, ◌∙◌}
use Rattle.std.proofs.Common.{append_assoc, length-append, arith}
use Rattle.std.proofs.lemmas.Grind.{common_steps}
use Rattle.std.proofs.Math.Seq.{take-add}
use Rattle.std.proofs.lemmas.List.{take-append-drop, take_rest}

-- what is taken next of the rest of a piece
next_part : (piece : List ℕ) (i n : ℕ)
    → take i piece ++ take n (take (length piece - i) (drop i piece)) ≡ take (i + n) piece
next_part piece i n = ap (λ l. take i piece ++ take n l) (take_rest piece i)
    ∙ sym (take-add i n piece)

-- the same after a text
pub next_seen : (seen piece : List ℕ) (i n : ℕ)
    → (seen ++ take i piece) ++ take n (take (length piece - i) (drop i piece)) ≡ seen ++ take
    (i + n) piece
next_seen seen piece i n
    = append_assoc seen (take i piece) (take n (take (length piece - i) (drop i piece)))
    ∙ ap (λ l. seen ++ l) (next_part piece i n)

-- the first bytes and the rest are the piece, also after a text
pub rest_taken : (seen piece : List ℕ) (i : ℕ)
    → seen ++ piece ≡ (seen ++ take i piece) ++ take (length piece - i) (drop i piece)
rest_taken seen piece i
    = ap (λ l. seen ++ l)
    (sym (ap (λ l. take i piece ++ l) (take_rest piece i) ∙ take-append-drop i piece))
    ∙ sym (append_assoc seen (take i piece) (take (length piece - i) (drop i piece)))

-- the same of any piece after a text
pub front_of : (seen taken piece : List ℕ) (n : ℕ) → taken ≡ seen ++ piece
    → taken ≡ (seen ++ take n piece) ++ drop n piece
front_of seen taken piece n parts = parts ∙ ap (λ l. seen ++ l) (sym (take-append-drop n piece))
    ∙ sym (append_assoc seen (take n piece) (drop n piece))

-- the bytes taken, with a piece more
pub length-taken : (seen buf : List ℕ) (total count : ℕ) → length seen ≡ total → count ≤ length buf
    → length (seen ++ take count buf) ≡ total + count
length-taken seen buf total count many fits =
    let front : length (take count buf) ≡ count = grind (arith, common_steps) in
    rw (length-append seen (take count buf)) (omega (arith, many, front))

pub length-front : (buf : List ℕ) (count : ℕ) → count ≤ length buf → length (take count buf) ≡ count
length-front buf count fits = grind (arith, common_steps)
