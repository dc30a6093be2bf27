-- The law of traces: the texts of closed trees, one after another, are those of closed trees.
use Rattle.std.proofs.Common.{◌≡◌, suc, List, [], ◌∷◌, ◌++◌, length, refl, sym, ap, ◌∙◌}
use Rattle.std.specs.List.{flat_map}
use Rattle.std.proofs.lemmas.List.{append-nil}
use Rattle.tree_words.specs.Closing.{ClosedTree}
use Rattle.trace_audit.specs.Told.{TellsClosed}
use Rattle.trace_audit.specs.Traces.{trace_text}
use Rattle.trace_audit.specs.Verdicts.{AreTexts, AreTrees}
use Rattle.trace_audit.proofs.TextLists.{AreClosed}
use Rattle.trace_audit.proofs.Reading.{tells_closed}

-- what is read from the texts
read_all : (ts : List ClosedTree) → AreTrees ts → (us : List ClosedTree) × (length us ≡ length ts)
    × AreClosed us × (flat_map trace_text ts ≡ flat_map trace_text us)
read_all [] a = ([], refl, tt, refl)
read_all (t ∷ ts) a =
    let rest = read_all ts a.1 in
    let one : TellsClosed t (trace_text t) = tells_closed t a.0.0 a.0.1 a.0.2 in
    (one.tree ∷ rest.0, ap (λ n. suc n) rest.1, ((one.told, one.closed), rest.2), λ i. one.text i ++ rest.3 i)

pub texts_tell : (ts : List ClosedTree) → AreTrees ts
    → AreTexts (length ts) [] (flat_map trace_text ts)
texts_tell ts a =
    let r = read_all ts a in
    record { trees = r.0; count = r.1; closed = r.2; text = r.3 ∙ sym (append-nil (flat_map trace_text r.0)) }
