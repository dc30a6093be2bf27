use Rattle.std.proofs.Common.{◌≡◌, take, sym, ap, ◌∙◌}
use Rattle.tree_words.proofs.Areas.FirstWords.{front_is, written_is}
use Rattle.trace_audit.specs.Traces.{fields_of, written_count}
use Rattle.hex_io.proofs.ResultLaws.{on_err}
use Rattle.trace_audit.proofs.Gives.{front_first, ok_then, err_then}
use Rattle.trace_audit.proofs.Parts.{text_all, text_fields, text_words}
use Rattle.trace_audit.proofs.texts.give_text.Goals as goal

pub returns-in_err-give-clause-proper : goal.returns-in_err-give-clause-proper
returns-in_err-give-clause-proper g c
    = on_err _ _ (front_first _ _ _ _ c.in_err-give.ensures.proper)

pub returns-in_err-give_words-clause-proper : goal.returns-in_err-give_words-clause-proper
returns-in_err-give_words-clause-proper g c =
    let count = c.written_count-count.ensures.value
    ∙ sym (written_is c.args.closed.now.shape c.words-words.result.now c.words-words.ensures.first) ∙ ap written_count (sym c.words-words.ensures.value) in
    let fields = c.fields.ensures ∙ ap (fields_of c.args.closed.now.shape) count in
    on_err _ _ (text_fields _ _ _ c.args.closed.now _ fields c.in_ok-give.ensures.all c.in_err-give_words.ensures.proper)

pub returns-clause-all : goal.returns-clause-all
returns-clause-all g c =
    let count = c.written_count-count.ensures.value
    ∙ sym (written_is c.args.closed.now.shape c.words-words.result.now c.words-words.ensures.first) ∙ ap written_count (sym c.words-words.ensures.value) in
    let fields = c.fields.ensures ∙ ap (fields_of c.args.closed.now.shape) count in
    let words : take c.written_count-count.result c.words-words.result.now ≡ take
    (written_count c.args.closed.now.words) c.args.closed.now.words
    = sym (front_is c.args.closed.now.shape c.words-words.result.now c.words-words.ensures.first
    c.written_count-count.result c.written_count-count.ensures.range)
    ∙ (λ i. take (count i) (sym c.words-words.ensures.value i)) in
    ok_then _ _ _
    (text_all _ _ _ _ c.args.closed.now _ _ fields words c.in_ok-give.ensures.all c.in_ok-give_words.ensures.all) c.give_words-2.ensures.all

pub returns-clause-proper : goal.returns-clause-proper
returns-clause-proper g c =
    let count = c.written_count-count.ensures.value
    ∙ sym (written_is c.args.closed.now.shape c.words-words.result.now c.words-words.ensures.first) ∙ ap written_count (sym c.words-words.ensures.value) in
    let fields = c.fields.ensures ∙ ap (fields_of c.args.closed.now.shape) count in
    let words : take c.written_count-count.result c.words-words.result.now ≡ take
    (written_count c.args.closed.now.words) c.args.closed.now.words
    = sym (front_is c.args.closed.now.shape c.words-words.result.now c.words-words.ensures.first
    c.written_count-count.result c.written_count-count.ensures.range)
    ∙ (λ i. take (count i) (sym c.words-words.ensures.value i)) in
    err_then _ _ _
    (text_words _ _ _ _ c.args.closed.now _ _ fields words c.in_ok-give.ensures.all c.in_ok-give_words.ensures.all) c.give_words-2.ensures.proper
