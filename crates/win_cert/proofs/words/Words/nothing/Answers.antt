use Rattle.std.proofs.Common.{ap, sym, ◌∙◌}
use Rattle.win_cert.specs.Words.{is_space_byte, words_in}
use Rattle.win_cert.proofs.Splitting.{split_some}
use Rattle.win_cert.proofs.words.Words.nothing.Goals as goal

pub returns-then-self : goal.returns-then-self
returns-then-self c = λ e.
    let rest = c.self.inside.rest.now in
    split_some is_space_byte rest
    (sym (ap (λ b. words_in b rest) c.if-self.true) ∙ c.self.view_is ∙ e)
