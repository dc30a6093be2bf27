-- Bytes have one verdict.
use Rattle.std.proofs.Common.{◌≡◌, ℕ, suc, ◌*◌, ◌<◌, ◌≤◌, List, [], ◌∷◌, ◌++◌, length, take, drop}
use Rattle.std.proofs.Common.{refl, sym, ap, ◌∙◌, subst, ⊎_elim, arith, append_assoc}
use Rattle.std.specs.List.{flat_map}
use Rattle.std.specs.Prelude.{slice_index}
use Rattle.std.proofs.lemmas.Bool.{cases_lt}
use Rattle.std.proofs.lemmas.List.{append_cancel_left, ext_get_or, get_or-take}
use Rattle.tree_words.specs.Words.{end_of}
use Rattle.tree_words.specs.Closing.{ClosedTree, IsClosed}
use Rattle.trace_audit.specs.Traces.{bytes_of, trace_text, written_count}
use Rattle.trace_audit.specs.Texts.{StandAt, IsHeader}
use Rattle.trace_audit.specs.Verdicts.{AreTexts, BeginsWithTree, FailsFirst, HasFlaw, IsVerdictOn}
use Rattle.trace_audit.specs.declared.types.Audit.{Audit}
use Rattle.trace_audit.specs.declared.types.Audit.TheVariants.{Yes, No}
use Rattle.trace_audit.specs.declared.types.Flaw.{Flaw}
use Rattle.trace_audit.specs.declared.types.Flaw.TheVariants.{BadForm, Block, Record, Count, End}
use Rattle.trace_audit.specs.declared.types.Flaw.TheVariants.{Growth}
use Rattle.trace_audit.proofs.TextLists.{AreClosed}
use Rattle.trace_audit.proofs.WordBytes.{bytes_long, take_front}
use Rattle.trace_audit.proofs.TextTree.{begins_front}
use Rattle.trace_audit.proofs.TextWords.{begins_long, behind, text_words, written_most}
use Rattle.trace_audit.proofs.OneFlaw.{closed_holds, fails_one}

-- the written words stand behind the header
stands : (t : ClosedTree) (bytes : List ℕ) (b : BeginsWithTree t bytes)
    → StandAt bytes 128 (take (written_count t.words) t.words)
stands t bytes b =
    let ws : List ℕ = take (written_count t.words) t.words in
    let at : drop 128 bytes ≡ bytes_of ws ++ b.rest
    = behind bytes t.shape (written_count t.words) (begins_front t bytes b) in
    sym (ap (take (8 * length ws)) at ∙ ap (λ n. take n (bytes_of ws ++ b.rest)) (sym (bytes_long ws)) ∙ take_front (bytes_of ws) b.rest)

front_is : (t : ClosedTree) (bytes : List ℕ) (b : BeginsWithTree t bytes)
    → IsHeader bytes t.shape (written_count t.words)
front_is t bytes b = record {
  setting = b.read.shape;
  header = begins_front t bytes b;
  least = b.read.area;
  most = written_most t b.read;
  long = begins_long t bytes b.read b;
}

-- bytes begin with the text of one tree
tree_one : (bytes : List ℕ) (t u : ClosedTree) → BeginsWithTree t bytes
    → BeginsWithTree u bytes → t ≡ u
tree_one bytes t u a b =
    let q : ℕ = written_count t.words in
    let same = text_words bytes t.words t.shape q u (front_is t bytes a) a.read.long a.read.words
    (stands t bytes a) b in
    let long : length t.words ≡ length u.words = a.read.long ∙ ap end_of same.0 ∙ sym b.read.long in
    let words : t.words ≡ u.words = ext_get_or 0 t.words u.words long (λ i l. ⊎_elim
    (λ (m : i < q). sym (get_or-take q t.words i 0 m) ∙ ap (λ z. slice_index z i) same.2 ∙ get_or-take q u.words i 0 m)
    (λ (m : q ≤ i). a.read.rest i m ∙ sym (b.read.rest i (omega (arith, m, same.1))))
    (cases_lt i q)) in
    λ i. record { shape = same.0 i; words = words i }

-- and so one text follows it
rest_one : (bytes : List ℕ) (t u : ClosedTree) (r z : List ℕ) → t ≡ u → bytes ≡ trace_text t ++ r
    → bytes ≡ trace_text u ++ z → r ≡ z
rest_one bytes t u r z e a b
    = append_cancel_left (trace_text u) r z
    (ap (λ (w : ClosedTree). trace_text w ++ r) (sym e) ∙ sym a ∙ b)

begins_some : (t : ClosedTree) → BeginsWithTree t [] → ⊥
begins_some t b = omega (arith, begins_long t [] b.read b)

-- no closed tree's text begins there
abbrev IsEnd : List ℕ → Type 0
IsEnd bytes = (t : ClosedTree) → BeginsWithTree t bytes → IsClosed t.shape t.words → ⊥

-- the tree that fails there is the tree whose text begins there
fails_of : (bytes : List ℕ) (why : Flaw) (t u : ClosedTree) → BeginsWithTree t bytes
    → BeginsWithTree u bytes → FailsFirst u.shape u.words why → FailsFirst t.shape t.words why
fails_of bytes why t u a b f = subst (λ (w : ClosedTree). FailsFirst w.shape w.words why)
    (tree_one bytes u t b a) f

fails_end : (bytes : List ℕ) (why : Flaw) (u : ClosedTree) → BeginsWithTree u bytes
    → FailsFirst u.shape u.words why → IsEnd bytes
fails_end bytes why u b f t a c = closed_holds t.shape t.words a.read.shape why c
    (fails_of bytes why t u a b f)

flaw_end : (bytes : List ℕ) (why : Flaw) → HasFlaw bytes why → IsEnd bytes
flaw_end bytes BadForm f = λ t b c. f.1 t b
flaw_end bytes Block f = fails_end bytes Block f.0 f.1 f.2
flaw_end bytes Record f = fails_end bytes Record f.0 f.1 f.2
flaw_end bytes Count f = fails_end bytes Count f.0 f.1 f.2
flaw_end bytes End f = fails_end bytes End f.0 f.1 f.2
flaw_end bytes Growth f = fails_end bytes Growth f.0 f.1 f.2

flaw_some : (why : Flaw) → HasFlaw [] why → ⊥
flaw_some BadForm f = f.0 refl
flaw_some Block f = begins_some f.0 f.1
flaw_some Record f = begins_some f.0 f.1
flaw_some Count f = begins_some f.0 f.1
flaw_some End f = begins_some f.0 f.1
flaw_some Growth f = begins_some f.0 f.1

-- the tree that fails, if a text of a tree stands there
flaw_fails : (bytes : List ℕ) (why : Flaw) (t : ClosedTree) → BeginsWithTree t bytes
    → HasFlaw bytes why → FailsFirst t.shape t.words why
flaw_fails bytes BadForm t b f = absurd (f.1 t b)
flaw_fails bytes Block t b f = fails_of bytes Block t f.0 b f.1 f.2
flaw_fails bytes Record t b f = fails_of bytes Record t f.0 b f.1 f.2
flaw_fails bytes Count t b f = fails_of bytes Count t f.0 b f.1 f.2
flaw_fails bytes End t b f = fails_of bytes End t f.0 b f.1 f.2
flaw_fails bytes Growth t b f = fails_of bytes Growth t f.0 b f.1 f.2

flaw_beside : (bytes : List ℕ) (v w : Flaw) (t : ClosedTree) → BeginsWithTree t bytes
    → FailsFirst t.shape t.words v → HasFlaw bytes w → v ≡ w
flaw_beside bytes v w t b f g
    = fails_one t.shape t.words b.read.shape v w f (flaw_fails bytes w t b g)

-- a text has one first flaw
flaw_one : (bytes : List ℕ) (v w : Flaw) → HasFlaw bytes v → HasFlaw bytes w → v ≡ w
flaw_one bytes BadForm BadForm f g = refl
flaw_one bytes BadForm Block f g = absurd (f.1 g.0 g.1)
flaw_one bytes BadForm Record f g = absurd (f.1 g.0 g.1)
flaw_one bytes BadForm Count f g = absurd (f.1 g.0 g.1)
flaw_one bytes BadForm End f g = absurd (f.1 g.0 g.1)
flaw_one bytes BadForm Growth f g = absurd (f.1 g.0 g.1)
flaw_one bytes Block w f g = flaw_beside bytes Block w f.0 f.1 f.2 g
flaw_one bytes Record w f g = flaw_beside bytes Record w f.0 f.1 f.2 g
flaw_one bytes Count w f g = flaw_beside bytes Count w f.0 f.1 f.2 g
flaw_one bytes End w f g = flaw_beside bytes End w f.0 f.1 f.2 g
flaw_one bytes Growth w f g = flaw_beside bytes Growth w f.0 f.1 f.2 g

-- the texts of closed trees as far as they go are one list
texts_one : (ts us : List ClosedTree) (r z : List ℕ) → AreClosed ts → AreClosed us → IsEnd r
    → IsEnd z → flat_map trace_text ts ++ r ≡ flat_map trace_text us ++ z
    → (length ts ≡ length us) × (r ≡ z)
texts_one [] [] r z a b k l e = (refl, e)
texts_one (t ∷ ts) [] r z a b k l e =
    absurd (l t (record { read = a.0.0; rest = flat_map trace_text ts ++ r; text = sym e ∙ append_assoc (trace_text t) (flat_map trace_text ts) r }) a.0.1)
texts_one [] (u ∷ us) r z a b k l e =
    absurd (k u (record { read = b.0.0; rest = flat_map trace_text us ++ z; text = e ∙ append_assoc (trace_text u) (flat_map trace_text us) z }) b.0.1)
texts_one (t ∷ ts) (u ∷ us) r z a b k l e =
    let bytes : List ℕ = (trace_text t ++ flat_map trace_text ts) ++ r in
    let mine : bytes ≡ trace_text t ++ (flat_map trace_text ts ++ r)
    = append_assoc (trace_text t) (flat_map trace_text ts) r in
    let yours : bytes ≡ trace_text u ++ (flat_map trace_text us ++ z) = e
    ∙ append_assoc (trace_text u) (flat_map trace_text us) z in
    let same : t ≡ u
    = tree_one bytes t u
    (record { read = a.0.0; rest = flat_map trace_text ts ++ r; text = mine })
    (record { read = b.0.0; rest = flat_map trace_text us ++ z; text = yours }) in
    let rest = texts_one ts us r z a.1 b.1 k l
    (rest_one bytes t u (flat_map trace_text ts ++ r) (flat_map trace_text us ++ z) same mine yours) in
    (ap (λ n. suc n) rest.0, rest.1)

both : (bytes r z : List ℕ) (n m : ℕ) → AreTexts n r bytes → AreTexts m z bytes → IsEnd r → IsEnd z
    → (n ≡ m) × (r ≡ z)
both bytes r z n m a b k l =
    let one = texts_one a.trees b.trees r z a.closed b.closed k l (sym a.text ∙ b.text) in
    (sym a.count ∙ one.0 ∙ b.count, one.1)

none_end : IsEnd []
none_end t b c = begins_some t b

-- bytes have one verdict
pub verdict_one : (bytes : List ℕ) (v w : Audit) → IsVerdictOn bytes v → IsVerdictOn bytes w → v ≡ w
verdict_one bytes (Yes n) (Yes m) a b
    = ap (λ k. Yes k) (both bytes [] [] n m a b none_end none_end).0
verdict_one bytes (Yes n) (No m w) a b =
    absurd (flaw_some w (subst (λ l. HasFlaw l w) (sym (both bytes [] b.0 n m a b.1 none_end (flaw_end b.0 w b.2)).1) b.2))
verdict_one bytes (No n v) (Yes m) a b =
    absurd (flaw_some v (subst (λ l. HasFlaw l v) (both bytes a.0 [] n m a.1 b (flaw_end a.0 v a.2) none_end).1 a.2))
verdict_one bytes (No n v) (No m w) a b =
    let one = both bytes a.0 b.0 n m a.1 b.1 (flaw_end a.0 v a.2) (flaw_end b.0 w b.2) in
    let why : v ≡ w = flaw_one b.0 v w (subst (λ l. HasFlaw l v) one.1 a.2) b.2 in
    λ i. No (one.0 i) (why i)
