-- The text that was given is that of the games that were played.
use Rattle.std.proofs.Common.{◌≡◌, ◌∙◌, List, All, sym, ap, subst}
use Rattle.std.proofs.lemmas.Result.{err_from_is_err_and}
use Rattle.hex_io.specs.Grew.{Gave, GaveProperPart}
use Rattle.hex_board.specs.Positions.{empty_board}
use Rattle.hex_game.specs.Games.{AreLegal}
use Rattle.match_ref.specs.MatchTexts.{match_text}
use Rattle.match_ref.specs.declared.played.Played.{Played}
use Rattle.match_ref.proofs.Legal.{all_legal}
use Rattle.match_ref.proofs.running.referee.Goals as goal

pub match_text-requires : goal.match_text-requires
match_text-requires g c =
    let m = c.args.asked.now.setup in
    subst (λ (ps : List Played). All (λ p. AreLegal (empty_board m.size) p.steps) ps)
    (sym c.deref.ensures.value) (all_legal m 0 1 c.in_ok-games.games.items c.requires c.in_ok-games.ensures.all)

pub returns-in_err-give-clause-referees : goal.returns-in_err-give-clause-referees
returns-in_err-give-clause-referees g c =
    let p = err_from_is_err_and c.from_residual-in_err-give.result
    c.from_residual-in_err-give.ensures.1 in
    let before = g.L.Link.told c.args.link.now in
    let now = g.L.Link.told c.give.new.link in
    let text : c.deref-2.result.now ≡ match_text c.args.asked.now c.in_ok-games.games.items =
    c.deref-2.ensures.value ∙ c.in_ok-text.ensures
    ∙ ap (match_text c.args.asked.now) c.deref.ensures.value in
    rw (p.1, p.2) (
      c.in_ok-games.games.items,
      c.in_ok-games.ensures.all,
      subst (GaveProperPart before now) text c.in_err-give.ensures.proper,
    )

pub returns-clause-referees : goal.returns-clause-referees
returns-clause-referees g c =
    let before = g.L.Link.told c.args.link.now in
    let now = g.L.Link.told c.give.new.link in
    let text : c.deref-2.result.now ≡ match_text c.args.asked.now c.in_ok-games.games.items =
    c.deref-2.ensures.value ∙ c.in_ok-text.ensures
    ∙ ap (match_text c.args.asked.now) c.deref.ensures.value in (
      c.in_ok-games.games.items,
      c.in_ok-games.ensures.all,
      subst (Gave before now) text c.in_ok-give.ensures.all,
    )
