use Rattle.std.proofs.Common.{◌≡◌, ℕ, ◌≤◌, List, length, sym, ap, ◌∙◌, subst, arith}
use Rattle.std.specs.Prelude.{min}
use Rattle.tree_words.specs.Settings.{Setting}
use Rattle.tree_words.specs.Areas.{IsNarrower, all_words}
use Rattle.tree_words.specs.Words.{end_of, next_in}
use Rattle.tree_words.proofs.Areas.FirstWords.{widened_kept, widened_words, word_is}
use Rattle.tree_words.proofs.closed_tree.Closed.widened.Goals as goal

pub invariant_of-result : goal.invariant_of-result
invariant_of-result c =
    let s : Setting = c.args.shape.now in
    let words : List ℕ = c.self.inside.words.items in
    let narrower : IsNarrower c.self.inside.shape s
    = subst (λ (t : Setting). IsNarrower t s)
    (sym (ap (λ t. t.shape) c.self.view_is)) c.requires in
    let next : next_in words ≡ c.word-next.result = sym (word_is c.self.inside.shape words 0)
    ∙ ap (λ t. next_in t.words) c.self.view_is ∙ sym c.word-next.ensures in
    let low : min (next_in words) (end_of s) ≤ length words
    = omega (arith, next, c.total.ensures, c.from.ensures, c.min.ensures, c.len.ensures, c.if-min-len.false) in
    widened_kept s c.self.inside.shape words narrower c.self.invariant.0 low c.self.invariant.1

pub returns-clause-words : goal.returns-clause-words
returns-clause-words c =
    let s : Setting = c.args.shape.now in
    let words : List ℕ = c.self.inside.words.items in
    let narrower : IsNarrower c.self.inside.shape s
    = subst (λ (t : Setting). IsNarrower t s)
    (sym (ap (λ t. t.shape) c.self.view_is)) c.requires in
    let next : next_in words ≡ c.word-next.result = sym (word_is c.self.inside.shape words 0)
    ∙ ap (λ t. next_in t.words) c.self.view_is ∙ sym c.word-next.ensures in
    let low : min (next_in words) (end_of s) ≤ length words
    = omega (arith, next, c.total.ensures, c.from.ensures, c.min.ensures, c.len.ensures, c.if-min-len.false) in
    sym (widened_words s c.self.inside.shape words narrower c.self.invariant.0 low)
    ∙ ap (λ t. all_words s t.words) c.self.view_is
