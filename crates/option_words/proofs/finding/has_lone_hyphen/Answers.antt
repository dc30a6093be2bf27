use Rattle.std.proofs.Common.{◌≡◌, ◌≢◌, arith, true, refl, subst}
use Rattle.std.specs.Str.{IsUtf8, bytes_eq}
use Rattle.std.proofs.lemmas.List.Elements.{All-more}
use Rattle.option_words.specs.Values.{lone_hyphen}
use Rattle.option_words.proofs.TextLemmas.{IsOther, all_seen, all_text}
use Rattle.option_words.proofs.finding.has_lone_hyphen.Goals as goal

pub loop-word-preserved : goal.loop-word-preserved
loop-word-preserved c =
    let text : IsUtf8 c.word-item.result = subst IsUtf8 c.as_str.ensures c.as_str.utf8 in
    let other : c.word-item.result ≢ lone_hyphen
    = λ e. let same : bytes_eq c.as_str.result.now lone_hyphen ≡ true
    = rw (c.as_str.ensures, e) refl in cc in
    All-more IsOther c.args.words.now c.loop-word.word-index c.word-item.result
    (omega arith) c.loop-word.invariant (subst IsOther c.word-item.is (text, other))

pub returns-clause-text : goal.returns-clause-text
returns-clause-text c
    = all_text _ (all_seen _ c.loop-word.word-index (omega arith) c.loop-word.invariant)
