use Rattle.std.proofs.Common.{◌≡◌, ℕ, ◌*◌, ◌≤◌, ap, ◌∙◌, subst, arith}
use Rattle.tree_words.specs.Words.{end_of, next_in}
use Rattle.trace_audit.specs.Points.{AreFrugal, EachSite, IsFirst, SomeSite}
use Rattle.trace_audit.proofs.Placed.{root_within}
use Rattle.trace_audit.proofs.Matches.{if_yes, if_no, match_on}
use Rattle.trace_audit.proofs.SiteLaws.{sites_cells, sites_within}
use Rattle.trace_audit.proofs.Verifying.{grown_of, not_first, not_frugal, room_of}
use Rattle.trace_audit.proofs.growth.is_grown.Goals as goal
use Rattle.trace_audit.proofs.growth.is_grown.Goals.{else-at-len-via-then-at-len+else-not-each_frugal}
use Rattle.trace_audit.proofs.growth.is_grown.Goals.{else-at-len-via-else-at-len}

pub each_first-requires : goal.each_first-requires
each_first-requires c
    = sites_within c.args.shape.now c.args.words.now c.args.table.now c.requires.sums.0 c.keeps.ensures.setting c.requires.long c.requires.sums.1

pub returns-then-not-each_first : goal.returns-then-not-each_first
returns-then-not-each_first c = λ bs lk rec a.
    let workers : c.knobs-knobs.result.now.workers ≡ c.args.shape.now.knobs.workers
    = ap (λ k. k.workers) c.knobs-knobs.ensures.value in
    not_first c.args.shape.now c.args.words.now c.args.table.now bs c.keeps.ensures.setting c.requires.long lk c.args.sums.now a
    (subst (λ (m : ℕ). SomeSite c.args.table.now (λ p. IsFirst c.args.words.now m p.start → ⊥)) workers
    (if_no c.each_first.result _ _ c.each_first.ensures c.if-not-each_first.true))

pub each_frugal-requires-clause-within : goal.each_frugal-requires-clause-within
each_frugal-requires-clause-within c
    = sites_within c.args.shape.now c.args.words.now c.args.table.now c.requires.sums.0 c.keeps.ensures.setting c.requires.long c.requires.sums.1

pub each_frugal-requires-clause-cells : goal.each_frugal-requires-clause-cells
each_frugal-requires-clause-cells c
    = sites_cells c.args.shape.now c.args.words.now c.args.table.now c.requires.sums.0 c.keeps.ensures.setting c.requires.long c.requires.sums.1

pub returns-then-not-each_frugal : goal.returns-then-not-each_frugal
returns-then-not-each_frugal c = λ bs lk rec a.
    let most : c.from.result * c.from-2.result ≡ c.args.shape.now.knobs.workers * c.args.shape.now.knobs.expand
    = λ i. (c.from.ensures ∙ ap (λ k. k.workers) c.knobs-knobs.ensures.value) i * (c.from-2.ensures ∙ ap (λ k. k.expand) c.knobs-knobs.ensures.value) i in
    not_frugal c.args.shape.now c.args.words.now c.args.table.now bs c.keeps.ensures.setting c.requires.long lk c.args.sums.now a
    (omega (arith, c.if-at-len.true, c.at.ensures, c.len.ensures, c.requires.long))
    (subst (λ (m : ℕ). SomeSite c.args.table.now (λ p. AreFrugal c.args.words.now c.args.sums.now m p → ⊥)) most
    (if_no c.each_frugal.result _ _ c.each_frugal.ensures c.if-not-each_frugal.true))

pub is_next_bounded-requires-clause-root : goal.is_next_bounded-requires-clause-root
is_next_bounded-requires-clause-root c
    = root_within c.args.shape.now c.args.words.now c.requires.sums.0 c.keeps.ensures.setting c.requires.sums.1.linked c.requires.sums.2

pub returns : goal.returns
returns c = λ bs lk rec a.
    let workers : c.knobs-knobs.result.now.workers ≡ c.args.shape.now.knobs.workers
    = ap (λ k. k.workers) c.knobs-knobs.ensures.value in
    let most : c.from.result * c.from-2.result ≡ c.args.shape.now.knobs.workers * c.args.shape.now.knobs.expand
    = λ i. (c.from.ensures ∙ ap (λ k. k.workers) c.knobs-knobs.ensures.value) i * (c.from-2.ensures ∙ ap (λ k. k.expand) c.knobs-knobs.ensures.value) i in
    let first = subst (λ (m : ℕ). EachSite c.args.table.now (λ p. IsFirst c.args.words.now m p.start)) workers
    (if_yes c.each_first.result _ _ c.each_first.ensures c.if-not-each_first.false) in
    let frugal : next_in c.args.words.now ≤ end_of c.args.shape.now
    → EachSite c.args.table.now
    (AreFrugal c.args.words.now c.args.sums.now (c.args.shape.now.knobs.workers * c.args.shape.now.knobs.expand))
    = elim c.else-at-len.branch [
      | else-at-len-via-then-at-len+else-not-each_frugal w ↦ λ l. subst
          (λ (m : ℕ). EachSite c.args.table.now (AreFrugal c.args.words.now c.args.sums.now m)) most
          (if_yes w.each_frugal.result _ _ w.each_frugal.ensures w.if-not-each_frugal.false)
      | else-at-len-via-else-at-len w ↦ λ l. absurd
          (omega (arith, w.if-at-len.false, c.at.ensures, c.len.ensures, l, c.requires.long))
    ] in
    match_on c.is_next_bounded.result _ _ _ _
    (grown_of c.args.shape.now c.args.words.now c.args.table.now bs c.keeps.ensures.setting c.requires.long lk c.args.sums.now a rec first frugal)
    (λ n g. n (room_of c.args.shape.now c.args.words.now c.args.table.now bs c.keeps.ensures.setting c.requires.long lk c.args.sums.now a g))
    c.is_next_bounded.ensures
