use Rattle.std.proofs.Common.{ℕ, List, map, subst, sym, ap, ◌∙◌, ◌++◌}
use Rattle.std.specs.List.{All, flat_map}
use Rattle.win_cert.specs.Texts.{claim_words, ended, head_words, line_words}
use Rattle.win_cert.specs.Writable.{IsLineOf}
use Rattle.win_cert.specs.declared.lines.Line.{Line}
use Rattle.win_cert.proofs.Joining.{text_parts}
use Rattle.win_cert.proofs.writing.write.Goals as goal

pub push_lines-requires : goal.push_lines-requires
push_lines-requires c =
    let cert = c.args.cert.now in
    subst (λ n. All (λ (line : Line). (version : ℕ) × IsLineOf version n line) c.as_slice.result.now) (sym c.size.ensures.value)
    (subst (λ lines. All (λ (line : Line). (version : ℕ) × IsLineOf version cert.board.size line) lines) (sym c.as_slice.ensures)
    (λ k d below. (cert.version, c.requires.0.lines k d below)))

pub returns : goal.returns
returns c =
    let cert = c.args.cert.now in
    let lines = λ (n : ℕ) (lines : List Line). flat_map ended (map (line_words n) lines) in
    c.of.ensures ∙ c.in_ok-push_claim.ensures
    ∙ ap (λ t. t ++ ended (claim_words cert))
    (c.in_ok-push_lines.ensures ∙ ap (λ t. t ++ lines c.size.result c.as_slice.result.now)
    (c.in_ok-push_head.ensures ∙ ap (λ t. t ++ flat_map ended (head_words cert)) c.new-text.ensures.items)
    ∙ ap (λ ls. flat_map ended (head_words cert) ++ lines c.size.result ls) c.as_slice.ensures
    ∙ ap (λ n. flat_map ended (head_words cert) ++ lines n cert.lines) c.size.ensures.value)
    ∙ text_parts cert
