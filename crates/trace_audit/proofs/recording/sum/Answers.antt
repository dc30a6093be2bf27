use Rattle.std.proofs.Common.{◌≡◌, ℕ, ◌+◌, List, sym, subst, ⊎_elim, arith}
use Rattle.std.proofs.lemmas.Bool.{cases_eq}
use Rattle.std.proofs.lemmas.List.{with_items_is}
use Rattle.tree_words.specs.Records.{IsRecord}
use Rattle.trace_audit.specs.Sums.{AreOwn}
use Rattle.trace_audit.proofs.Matches.{if_yes}
use Rattle.trace_audit.proofs.recording.sum.Goals as goal

pub records-preserved : goal.records-preserved
records-preserved c = λ bs lk.
    let s = c.args.shape.now in
    let k : ℕ = c.records.k in
    let i = c.records.invariant bs lk in
    let old : AreOwn s bs c.args.words.now c.deref_mut.result.now k
    = subst (λ (l : List ℕ). AreOwn s bs c.args.words.now l k)
    (sym c.deref_mut.ensures.value) i.1 in
    let r = if_yes c.add.result _ _ (c.add.ensures bs lk old) c.if-not-add.false in
    let same = with_items_is c.records.sums c.add.new.sums
    (omega (arith, c.add.auto.sums, c.deref_mut.ensures.len)) in (
      λ j l. ⊎_elim
          (λ (e : j ≡ k). subst (IsRecord s bs c.args.words.now) (sym e) r.0)
          (λ (e : j ≡ k → ⊥). i.0 j (omega (arith, l, e)))
          (cases_eq j k),
      subst (λ (l : List ℕ). AreOwn s bs c.args.words.now l (k + 1)) (sym same) r.1,
    )
