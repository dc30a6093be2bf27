-- The text of a tree, given in three parts.
use Rattle.std.proofs.Common.{◌≡◌, ℕ, List, take, Option, subst}
use Rattle.std.specs.Prelude.{codes}
use Rattle.hex_io.specs.Told.{Told}
use Rattle.hex_io.specs.Grew.{Gave, GaveProperPart}
use Rattle.hex_io.proofs.GaveLaws.{Gave-then}
use Rattle.tree_words.specs.Closing.{ClosedTree}
use Rattle.trace_audit.specs.Traces.{bytes_of, fields_of, trace_text, written_count}
use Rattle.trace_audit.proofs.Gives.{front_first, front_second}

-- the name was given, and a proper prefix of the fields
pub text_fields : (a b c : Option Told) (t : ClosedTree) (fs : List ℕ)
    → fs ≡ fields_of t.shape (written_count t.words) → Gave a b (codes "HEXTREE1")
    → GaveProperPart b c (bytes_of fs) → GaveProperPart a c (trace_text t)
text_fields a b c t fs e g p =
    front_second a b c _ _ g
    (front_first b c _ _ (subst (λ z. GaveProperPart b c (bytes_of z)) e p))

-- the name and the fields were given, and then the words
pub text_all : (a b c d : Option Told) (t : ClosedTree) (fs ws : List ℕ)
    → fs ≡ fields_of t.shape (written_count t.words) → ws ≡ take (written_count t.words) t.words
    → Gave a b (codes "HEXTREE1") → Gave b c (bytes_of fs) → Gave c d (bytes_of ws)
    → Gave a d (trace_text t)
text_all a b c d t fs ws e f g h p =
    Gave-then a b d _ _ g
    (Gave-then b c d _ _ (subst (λ z. Gave b c (bytes_of z)) e h) (subst (λ z. Gave c d (bytes_of z)) f p))

-- the name and the fields were given, and then a proper prefix of the words
pub text_words : (a b c d : Option Told) (t : ClosedTree) (fs ws : List ℕ)
    → fs ≡ fields_of t.shape (written_count t.words) → ws ≡ take (written_count t.words) t.words
    → Gave a b (codes "HEXTREE1") → Gave b c (bytes_of fs) → GaveProperPart c d (bytes_of ws)
    → GaveProperPart a d (trace_text t)
text_words a b c d t fs ws e f g h p =
    front_second a b d _ _ g
    (front_second b c d _ _ (subst (λ z. Gave b c (bytes_of z)) e h) (subst (λ z. GaveProperPart c d (bytes_of z)) f p))
