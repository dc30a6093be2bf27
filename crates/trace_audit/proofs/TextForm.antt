-- The name and the fields of a text.
use Rattle.std.proofs.Common.{◌≡◌, ℕ, ◌*◌, ◌≤◌, Bool, true, List, ◌++◌, length, drop, sym, ap, ◌∙◌}
use Rattle.std.proofs.Common.{arith, length-append}
use Rattle.std.specs.Prelude.{codes, ◌==◌}
use Rattle.std.specs.List.{starts_with}
use Rattle.std.proofs.lemmas.Bool.Decides.{Decides-eqb}
use Rattle.std.proofs.lemmas.Slice.Eq.{starts_is}
use Rattle.std.proofs.lemmas.List.{take-append-drop}
use Rattle.trace_audit.specs.Traces.{bytes_of}
use Rattle.trace_audit.specs.Texts.{BeginWith, StandAt}
use Rattle.trace_audit.proofs.WordBytes.{bytes_long}

-- the header of a text has 128 bytes
pub front_long : (bytes fields : List ℕ) → length fields ≡ 15 → BeginWith bytes fields
    → 128 ≤ length bytes
front_long bytes fields l b =
    omega (arith, ap length b.1, length-append (codes "HEXTREE1") (bytes_of fields ++ b.0), length-append (bytes_of fields) b.0, bytes_long fields, l)

-- bytes that begin with the name, and behind it with these fields
pub front_is : (bytes fields : List ℕ) (t : Bool) → t ≡ starts_with ◌==◌ bytes (codes "HEXTREE1")
    → t ≡ true → StandAt bytes 8 fields → BeginWith bytes fields
front_is bytes fields t e is w =
    let rest : List ℕ = drop 8 bytes in
    let name : bytes ≡ codes "HEXTREE1" ++ rest
    = (starts_is Decides-eqb bytes (codes "HEXTREE1") t e).0 is in
    let whole : rest ≡ bytes_of fields ++ drop (8 * length fields) rest
    = sym (take-append-drop (8 * length fields) rest)
    ∙ ap (λ l. l ++ drop (8 * length fields) rest) (sym w) in
    (drop (8 * length fields) rest, name ∙ ap (λ l. codes "HEXTREE1" ++ l) whole)
