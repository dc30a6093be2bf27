use Rattle.std.proofs.Common.{◌≡◌, ℕ, ◌+◌, slice_index, sym, ap, ◌∙◌}
use Rattle.tree_words.specs.Words.{root_at}
use Rattle.trace_audit.proofs.Matches.{match_on}
use Rattle.trace_audit.proofs.SiteLaws.{sites_within}
use Rattle.trace_audit.proofs.Verifying.{exact_of, not_exact, top_of}
use Rattle.trace_audit.proofs.counts.is_exact.Goals as goal

pub returns-then-at-sums : goal.returns-then-at-sums
returns-then-at-sums c = λ bs lk a e.
    let top : c.root-root.result ≡ root_at c.args.shape.now = c.root-root.ensures in
    c.if-at-sums.true (c.at.ensures ∙ ap (λ (r : ℕ). slice_index c.args.words.now (r + 2)) top
    ∙ top_of c.args.shape.now c.args.words.now c.args.table.now bs c.keeps.ensures.setting c.requires.long lk c.args.sums.now a e
    ∙ sym (ap (λ (r : ℕ). slice_index c.args.sums.now (r + 2)) top))

pub each_same-requires-clause-within : goal.each_same-requires-clause-within
each_same-requires-clause-within c
    = sites_within c.args.shape.now c.args.words.now c.args.table.now c.requires.sums.0 c.keeps.ensures.setting c.requires.long c.requires.sums.1

pub returns : goal.returns
returns c = λ bs lk a.
    let top : c.root-root.result ≡ root_at c.args.shape.now = c.root-root.ensures in
    let word = sym (ap (λ (r : ℕ). slice_index c.args.words.now (r + 2)) top) ∙ sym c.at.ensures
    ∙ c.if-at-sums.false ∙ ap (λ (r : ℕ). slice_index c.args.sums.now (r + 2)) top in
    match_on c.each_same.result _ _ _ _
    (exact_of c.args.shape.now c.args.words.now c.args.table.now bs c.keeps.ensures.setting c.requires.long lk c.args.sums.now a word)
    (not_exact c.args.shape.now c.args.words.now c.args.table.now bs c.keeps.ensures.setting c.requires.long lk c.args.sums.now a) c.each_same.ensures
