use Rattle.std.proofs.Common.{ap, sym, ◌∙◌, ◌+◌, ◌∷◌, take, drop}
use Rattle.win_cert.specs.Words.{is_space_byte, words_in}
use Rattle.std.proofs.lemmas.List.{take_rest}
use Rattle.win_cert.proofs.Splitting.{split_first, split_whole}
use Rattle.win_cert.proofs.words.Words.next.Goals as goal

pub returns-in-None : goal.returns-in-None
returns-in-None c =
    let rest = c.self.inside.rest.now in
    sym c.self.view_is ∙ ap (λ b. words_in b rest) c.if-not-self.false
    ∙ split_whole is_space_byte rest (sym c.in-None.ensures)

pub returns-in-Some : goal.returns-in-Some
returns-in-Some c =
    let rest = c.self.inside.rest.now in
    let end = c.in-Some.end in
    sym c.self.view_is ∙ ap (λ b. words_in b rest) c.if-not-self.false
    ∙ split_first is_space_byte rest end (sym c.in-Some.ensures)
    ∙ ap (λ b. take end rest ∷ words_in b (drop (end + 1) rest)) (sym c.if-not-self.false)
    ∙ ap (λ xs. take end rest ∷ words_in c.self.inside.more xs) (sym (take_rest rest (end + 1)))
