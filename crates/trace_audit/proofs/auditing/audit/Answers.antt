use Rattle.std.proofs.Common.{ℕ, ◌+◌, List, drop, length-drop, refl, subst, arith}
use Rattle.std.proofs.lemmas.List.{take_rest}
use Rattle.tree_words.specs.Closing.{ClosedTree}
use Rattle.trace_audit.specs.Texts.{IsText, closed_tree_of}
use Rattle.trace_audit.specs.Verdicts.{BeginsWithTree}
use Rattle.tree_words.proofs.Areas.CutAreas.{cut_closed}
use Rattle.trace_audit.proofs.CutAreas.{cut_fails}
use Rattle.trace_audit.proofs.Matches.{if_none, if_some}
use Rattle.trace_audit.proofs.TextLists.{bad_form, flaw_is, text_stands, texts_more}
use Rattle.trace_audit.proofs.auditing.audit.Goals as goal

pub returns-in_default : goal.returns-in_default
returns-in_default c =
    let n : (u : ClosedTree) → BeginsWithTree u (drop c.texts.at c.args.bytes.now) → ⊥
    = subst (λ (l : List ℕ). (u : ClosedTree) → BeginsWithTree u l → ⊥)
    (take_rest c.args.bytes.now c.texts.at)
    (if_none c.read_text.result _ _ c.read_text.ensures c.in_default.is) in
    (drop c.texts.at c.args.bytes.now, c.texts.invariant.2, bad_form c.args.bytes.now c.texts.at c.texts-test.true n)

pub returns-in-Some-2 : goal.returns-in-Some-2
returns-in-Some-2 c =
    let t : IsText (drop c.texts.at c.args.bytes.now) c.in-Some.text
    = subst (λ (l : List ℕ). IsText l c.in-Some.text) (take_rest c.args.bytes.now c.texts.at)
    (if_some c.read_text.result c.in-Some.text _ _ c.read_text.ensures c.in-Some.is) in
    let f = if_some c.in_ok-why.field-0 c.in-Some-2.why _ _ c.in_ok-why.ensures c.in-Some-2.is in (
      drop c.texts.at c.args.bytes.now,
      c.texts.invariant.2,
      flaw_is (drop c.texts.at c.args.bytes.now) c.in-Some-2.why (closed_tree_of c.in-Some.text)
          (text_stands (drop c.texts.at c.args.bytes.now) c.in-Some.text t)
          (cut_fails c.in-Some.text.shape c.in-Some.text.cut c.in-Some.text.words t.cut c.in-Some-2.why f),
    )

pub texts-preserved : goal.texts-preserved
texts-preserved c =
    let t : IsText (drop c.texts.at c.args.bytes.now) c.in-Some.text
    = subst (λ (l : List ℕ). IsText l c.in-Some.text) (take_rest c.args.bytes.now c.texts.at)
    (if_some c.read_text.result c.in-Some.text _ _ c.read_text.ensures c.in-Some.is) in
    let f = if_none c.in_ok-why.field-0 _ _ c.in_ok-why.ensures c.in_default-2.is in
    let most = t.most in
    let least = t.least in (
      omega (arith, most, length-drop c.texts.at c.args.bytes.now, c.texts-test.true),
      omega (arith, least, c.texts.invariant.1),
      texts_more c.texts.tree c.texts.at
          (c.texts.at + c.in-Some.text.bytes) c.args.bytes.now c.in-Some.text c.texts.invariant.2 t
          (cut_closed c.in-Some.text.shape c.in-Some.text.cut c.in-Some.text.words t.cut f) refl,
    )
