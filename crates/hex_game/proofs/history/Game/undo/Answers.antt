use Rattle.std.proofs.Common.{◌≡◌, List, ap, sym, ◌∙◌}
use Rattle.hex_game.specs.Moves.{before_last}
use Rattle.hex_game.specs.Games.{without_last}
use Rattle.hex_game.specs.declared.moves.Step.{Step}
use Rattle.hex_game.proofs.Chains.{one_less, before_last-push}
use Rattle.hex_game.proofs.history.Game.undo.Goals as goal

pub invariant_of-self-in-Some-pop : goal.invariant_of-self-in-Some-pop
invariant_of-self-in-Some-pop c = (
  one_less c.self.inside.start c.self.inside.steps.items c.pop.new.self.items c.self.inside.before.items c.pop-2.new.self.items c.self.inside.board
      c.in-Some-pop.before c.in-Some.field-0
      c.in-Some.ensures.items c.in-Some-pop.ensures.items c.self.invariant.0,
  rw c.pop.ensures.capacity c.self.invariant.1,
  rw c.pop-2.ensures.capacity c.self.invariant.2,
)

pub returns-in-Some-pop-clause-ok : goal.returns-in-Some-pop-clause-ok
returns-in-Some-pop-clause-ok c =
    let e : before_last c.self.inside.steps.items ≡ c.pop.new.self.items
    = ap before_last c.in-Some.ensures.items
    ∙ before_last-push c.pop.new.self.items c.in-Some.field-0 in
    ap (λ (s : List Step). record { start = c.self.inside.start; steps = s }) (sym e)
    ∙ ap without_last c.self.view_is
