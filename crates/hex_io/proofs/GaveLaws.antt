-- What was given, over one write after another.
use Rattle.std.proofs.Common.{ℕ, ◌+◌, ◌-◌, ◌<◌, List, [], ◌++◌, length, take, drop, Option, ap, sym}
use Rattle.std.proofs.Common.{◌∙◌, subst, append_assoc, append-nil, arith, length-drop}
use Rattle.std.proofs.Math.Seq.{take-add}
use Rattle.std.proofs.lemmas.List.{take-append-drop, take_rest}
use Rattle.hex_io.specs.Told.{Told, GivesBytes, Same}
use Rattle.hex_io.specs.Grew.{Gave, GavePart, GaveProperPart}
use Rattle.hex_io.proofs.BothLaws.{Both-then, Both-weaker, Both-refl}

pub gives_then : (xs ys : List ℕ) (x y z : Told) → GivesBytes x y xs → GivesBytes y z ys
    → GivesBytes x z (xs ++ ys)
gives_then xs ys x y z p q = q ∙ ap (λ (t : Told). record t { given = t.given ++ ys }) p
    ∙ ap (λ l. record x { given = l }) (append_assoc x.given xs ys)

-- these bytes were given, and then those
pub Gave-then : (a b c : Option Told) (xs ys : List ℕ) → Gave a b xs → Gave b c ys
    → Gave a c (xs ++ ys)
Gave-then a b c xs ys p q = Both-then a b c _ _ _ (gives_then xs ys) p q

-- n more bytes were given, of those from i on
pub Gave-take : (a b c : Option Told) (bytes : List ℕ) (i n : ℕ) → Gave a b (take i bytes)
    → Gave b c (take n (take (length bytes - i) (drop i bytes))) → Gave a c (take (i + n) bytes)
Gave-take a b c bytes i n p q
    = rw (take-add i n bytes)
    (Gave-then a b c (take i bytes) (take n (drop i bytes)) p (subst (λ l. Gave b c (take n l)) (take_rest bytes i) q))

-- if nothing changed, no byte was given
pub Same-gave : (a b : Option Told) → Same a b → Gave a b []
Same-gave a b p
    = Both-weaker a b _ _
    (λ x y e. e ∙ ap (λ l. record x { given = l }) (sym (append-nil x.given))) p

pub Gave-nothing : (a : Option Told) → Gave a a []
Gave-nothing a
    = Both-refl a (λ o n. GivesBytes o n [])
    (λ x. ap (λ l. record x { given = l }) (sym (append-nil x.given)))

-- a front that is not all of the bytes is a front of them
pub proper_part : (a b : Option Told) (bytes : List ℕ) → GaveProperPart a b bytes
    → GavePart a b bytes
proper_part a b bytes p = (p.0, p.1, p.2, p.4)

-- a front was given that is not all of the bytes, and then nothing
pub Gave-proper : (a b c : Option Told) (bytes : List ℕ) (i : ℕ) → i < length bytes
    → Gave a b (take i bytes) → Same b c → GaveProperPart a c bytes
Gave-proper a b c bytes i l p same =
    let gave : Gave a c (take i bytes)
    = rw (← append-nil (take i bytes))
    (Gave-then a b c (take i bytes) [] p (Same-gave b c same)) in
    let more : 0 < length (drop i bytes) = omega (arith, length-drop i bytes, l) in
    (take i bytes, drop i bytes, sym (take-append-drop i bytes), more, gave)
