use Rattle.std.proofs.Common.{◌+◌, ◌≤◌, [], length, subst, arith}
use Rattle.hex_cells.specs.Sets.{members}
use Rattle.hex_game.specs.Games.{GameData, AreLegal}
use Rattle.hex_game.specs.Kept.{IsFew}
use Rattle.hex_game.proofs.Chains.{legal_steps, few_on}
use Rattle.hex_game.proofs.Room.{members_two}
use Rattle.hex_game.proofs.history.Game.steps_are_legal.Goals as goal

pub returns-clause-legal : goal.returns-clause-legal
returns-clause-legal c =
    subst (λ (g : GameData). AreLegal g.start g.steps) c.self.view_is
    (legal_steps c.self.inside.start c.self.inside.steps.items c.self.inside.before.items c.self.inside.board c.self.invariant.0)

pub returns-clause-few : goal.returns-clause-few
returns-clause-few c =
    let now = c.self.inside.board in
    let few : IsFew c.self.inside.steps.items now
    = few_on c.self.inside.start [] c.self.inside.start _ _ now c.self.invariant.0 in
    let stones : members now.black 121 + members now.white 121 ≤ 121
    = members_two now.black now.white 121 c.keeps.ensures.position.apart in
    subst (λ (g : GameData). length g.steps ≤ 122) c.self.view_is (omega arith)
