-- The bytes of words, piece by piece.
use Rattle.std.proofs.Common.{◌≡◌, ℕ, ◌+◌, ◌-◌, ◌≤◌, List, ◌++◌, take, drop, Option, sym, ap, ◌∙◌}
use Rattle.std.proofs.Common.{subst, arith}
use Rattle.std.proofs.Math.Seq.{take-add}
use Rattle.std.proofs.lemmas.List.{take-append-drop}
use Rattle.std.proofs.lemmas.List.Concat.{flat_map-append}
use Rattle.std.specs.Int.{w64, to_le_bytes}
use Rattle.hex_io.specs.Told.{Told}
use Rattle.hex_io.specs.Grew.{Gave, GaveProperPart}
use Rattle.hex_io.proofs.GaveLaws.{Gave-then}
use Rattle.trace_audit.specs.Traces.{bytes_of}
use Rattle.trace_audit.proofs.Gives.{front_first, front_second}

bytes_parts : (ws : List ℕ) (n : ℕ) → bytes_of ws ≡ bytes_of (take n ws) ++ bytes_of (drop n ws)
bytes_parts ws n = ap bytes_of (sym (take-append-drop n ws))
    ∙ flat_map-append (to_le_bytes w64) (take n ws) (drop n ws)

bytes_more : (ws : List ℕ) (i n : ℕ) → bytes_of (take (i + n) ws) ≡ bytes_of (take i ws) ++ bytes_of
    (take n (drop i ws))
bytes_more ws i n = ap bytes_of (take-add i n ws)
    ∙ flat_map-append (to_le_bytes w64) (take i ws) (take n (drop i ws))

-- the words below i were given, and then those below j
pub piece_all : (a b c : Option Told) (ws bytes : List ℕ) (i j : ℕ) → i ≤ j
    → Gave a b (bytes_of (take i ws)) → bytes ≡ bytes_of (take (j - i) (drop i ws)) → Gave b c bytes
    → Gave a c (bytes_of (take j ws))
piece_all a b c ws bytes i j l g e p =
    let same : i + (j - i) ≡ j = omega (arith, l) in
    let both : Gave a c (bytes_of (take i ws) ++ bytes_of (take (j - i) (drop i ws)))
    = Gave-then a b c _ _ g (subst (λ z. Gave b c z) e p) in
    subst (λ k. Gave a c (bytes_of (take k ws))) same
    (subst (λ z. Gave a c z) (sym (bytes_more ws i (j - i))) both)

-- the words below i were given, and then a proper prefix of n more
pub piece_proper : (a b c : Option Told) (ws bytes : List ℕ) (i n : ℕ)
    → Gave a b (bytes_of (take i ws)) → bytes ≡ bytes_of (take n (drop i ws))
    → GaveProperPart b c bytes → GaveProperPart a c (bytes_of ws)
piece_proper a b c ws bytes i n g e p =
    let rest : List ℕ = drop i ws in
    let whole : bytes_of ws ≡ bytes_of
    (take i ws) ++ (bytes_of (take n rest) ++ bytes_of (drop n rest)) = bytes_parts ws i
    ∙ ap (λ z. bytes_of (take i ws) ++ z) (bytes_parts rest n) in
    subst (λ z. GaveProperPart a c z) (sym whole)
    (front_second a b c _ _ g (front_first b c _ _ (subst (λ z. GaveProperPart b c z) e p)))
