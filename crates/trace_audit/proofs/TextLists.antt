-- Texts one after another.
use Rattle.std.proofs.Common.{◌≡◌, ℕ, ◌+◌, ◌<◌, List, [], ◌∷◌, ◌++◌, length, drop, refl, sym, ap}
use Rattle.std.proofs.Common.{◌∙◌, subst, arith, append_assoc, length-append, length-drop}
use Rattle.std.specs.List.{AllByRecursion, flat_map}
use Rattle.std.proofs.lemmas.List.{append-nil, drop-drop}
use Rattle.std.proofs.lemmas.List.Concat.{flat_map-append}
use Rattle.std.proofs.Math.Seq.{drop-length}
use Rattle.tree_words.specs.Closing.{ClosedTree, IsClosed}
use Rattle.trace_audit.specs.Traces.{trace_text}
use Rattle.trace_audit.specs.Told.{IsReadTree}
use Rattle.tree_words.specs.Areas.{all_words}
use Rattle.trace_audit.specs.Texts.{IsText, closed_tree_of}
use Rattle.trace_audit.specs.Verdicts.{AreTexts, BeginsWithTree, FailsFirst, HasFlaw}
use Rattle.trace_audit.specs.declared.parsing.Text.{Text}
use Rattle.trace_audit.specs.declared.types.Flaw.{Flaw}
use Rattle.trace_audit.specs.declared.types.Flaw.TheVariants.{BadForm, Block, Record, Count, End}
use Rattle.trace_audit.specs.declared.types.Flaw.TheVariants.{Growth}

-- each of the trees is as it is read, and closed
abbrev pub AreClosed : List ClosedTree → Type 0
AreClosed trees = AllByRecursion (λ (t : ClosedTree). IsReadTree t × IsClosed t.shape t.words) trees

-- no text
pub texts_none : (bytes : List ℕ) → AreTexts 0 bytes bytes
texts_none bytes = record { trees = []; count = refl; closed = tt; text = refl }

closed_more : (ts : List ClosedTree) (t : ClosedTree) → AreClosed ts → IsReadTree t
    → IsClosed t.shape t.words → AreClosed (ts ++ t ∷ [])
closed_more [] t a r c = ((r, c), tt)
closed_more (u ∷ ts) t a r c = (a.0, closed_more ts t a.1 r c)

-- one text more
pub texts_more : (n at m : ℕ) (bytes : List ℕ) (text : Text) → AreTexts n (drop at bytes) bytes
    → IsText (drop at bytes) text → IsClosed text.shape (all_words text.shape text.words)
    → m ≡ at + text.bytes
    → AreTexts (n + 1) (drop m bytes) bytes
texts_more n at m bytes text a t c e =
    let tree : ClosedTree = closed_tree_of text in
    let rest : drop text.bytes (drop at bytes) ≡ drop m bytes = drop-drop text.bytes at bytes
    ∙ ap (λ k. drop k bytes) (sym e) in
    let one : trace_text tree ++ [] ≡ trace_text tree = append-nil (trace_text tree) in
    let texts : flat_map trace_text
    (a.trees ++ tree ∷ []) ≡ flat_map trace_text a.trees ++ trace_text tree
    = flat_map-append trace_text a.trees (tree ∷ [])
    ∙ ap (λ l. flat_map trace_text a.trees ++ l) one in
    record {
      trees = a.trees ++ tree ∷ [];
      count = length-append a.trees (tree ∷ []) ∙ ap (λ k. k + 1) a.count;
      closed = closed_more a.trees tree a.closed t.read c;
      text = a.text
          ∙ ap (λ l. flat_map trace_text a.trees ++ l)
          (t.begins ∙ ap (λ l. trace_text tree ++ l) rest)
          ∙ sym (append_assoc (flat_map trace_text a.trees) (trace_text tree) (drop m bytes))
          ∙ ap (λ l. l ++ drop m bytes) (sym texts);
    }

-- all texts
pub texts_all : (n at : ℕ) (bytes : List ℕ) → AreTexts n (drop at bytes) bytes → at ≡ length bytes
    → AreTexts n [] bytes
texts_all n at bytes a e
    = subst (λ l. AreTexts n l bytes) (ap (λ k. drop k bytes) e ∙ drop-length bytes) a

-- the text that was read begins there
pub text_stands : (bytes : List ℕ) (text : Text) → IsText bytes text
    → BeginsWithTree (closed_tree_of text) bytes
text_stands bytes text t = record { read = t.read; rest = drop text.bytes bytes; text = t.begins }

-- a point that fails is the text's flaw
pub flaw_is : (bytes : List ℕ) (why : Flaw) (t : ClosedTree) → BeginsWithTree t bytes
    → FailsFirst t.shape t.words why → HasFlaw bytes why
flaw_is bytes BadForm t b f = absurd f
flaw_is bytes Block t b f = (t, b, f)
flaw_is bytes Record t b f = (t, b, f)
flaw_is bytes Count t b f = (t, b, f)
flaw_is bytes End t b f = (t, b, f)
flaw_is bytes Growth t b f = (t, b, f)

-- no text stands there
pub bad_form : (bytes : List ℕ) (at : ℕ) → at < length bytes
    → ((t : ClosedTree) → BeginsWithTree t (drop at bytes) → ⊥) → HasFlaw (drop at bytes) BadForm
bad_form bytes at l n = (λ e. omega (arith, ap length e, length-drop at bytes, l), n)
