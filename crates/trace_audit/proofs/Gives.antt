-- What was given, if one text follows another.
use Rattle.std.proofs.Common.{ℕ, List, ◌++◌, Option, Result, Ok, Err, sym, ap, ◌∙◌, append_assoc}
use Rattle.std.proofs.Common.{length-append, arith}
use Rattle.std.specs.Prelude.{OnOk, OnErr}
use Rattle.hex_io.specs.Told.{Told}
use Rattle.hex_io.specs.Grew.{Gave, GaveProperPart}
use Rattle.hex_io.proofs.GaveLaws.{Gave-then}

-- a proper prefix of the first of two texts
pub front_first : (a b : Option Told) (xs ys : List ℕ) → GaveProperPart a b xs
    → GaveProperPart a b (xs ++ ys)
front_first a b xs ys p
    = (p.0, p.1 ++ ys, ap (λ l. l ++ ys) p.2 ∙ append_assoc p.0 p.1 ys, omega (arith, length-append p.1 ys, p.3), p.4)

-- all of the first text, and then a proper prefix of the second
pub front_second : (a b c : Option Told) (xs ys : List ℕ) → Gave a b xs → GaveProperPart b c ys
    → GaveProperPart a c (xs ++ ys)
front_second a b c xs ys g p
    = (xs ++ p.0, p.1, ap (λ l. xs ++ l) p.2 ∙ sym (append_assoc xs p.0 p.1), p.3, Gave-then a b c xs p.0 g p.4)

-- what follows from what holds of an answer
pub ok_then : {T E : Type 0} (r : Result T E) (P Q : Type 0) → (P → Q) → OnOk r P → OnOk r Q
ok_then (Ok x) P Q go p = go p
ok_then (Err e) P Q go p = tt

pub err_then : {T E : Type 0} (r : Result T E) (P Q : Type 0) → (P → Q) → OnErr r P → OnErr r Q
err_then (Ok x) P Q go p = tt
err_then (Err e) P Q go p = go p
