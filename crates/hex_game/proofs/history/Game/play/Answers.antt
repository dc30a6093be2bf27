use Rattle.std.proofs.Common.{◌≡◌, ◌++◌, ◌∷◌, [], true, List, Some, length, refl, ap, sym, ◌∙◌}
use Rattle.std.proofs.Common.{subst, length-append, arith}
use Rattle.hex_board.specs.Positions.{Position}
use Rattle.hex_game.specs.Games.{GameData, is_legal_on, refusal_on, IsOnBoard, moved, replay}
use Rattle.hex_game.specs.Games.{with_step}
use Rattle.hex_game.specs.Kept.{IsFew}
use Rattle.hex_game.specs.declared.moves.Step.{Step}
use Rattle.hex_game.proofs.Chains.{leads_to_replay, one_more, few_on, as_many_on}
use Rattle.hex_game.proofs.Rules.{refused, allowed, same_rule, same_refusal, same_board}
use Rattle.hex_game.proofs.history.Game.play.Goals as goal

pub cause_against-requires : goal.cause_against-requires
cause_against-requires c =
    subst (λ (p : Position). IsOnBoard p c.args.what)
    (sym (same_board _ _ c.self.inside.board c.args.self.now c.self.view_is (leads_to_replay _ _ _ _ c.self.invariant.0))) c.requires.on_board

pub returns-in-Some-clause-err : goal.returns-in-Some-clause-err
returns-in-Some-clause-err c =
    let at : c.self.inside.board ≡ replay c.self.inside.start c.self.inside.steps.items
    = leads_to_replay _ _ _ _ c.self.invariant.0 in
    let refusal_is : refusal_on c.self.inside.start c.self.inside.steps.items c.self.inside.board
    (record { colour = c.args.colour; what = c.args.what }) ≡ Some c.in-Some.cause =
    rw (← c.deref.ensures.value) (sym c.cause_against.ensures ∙ c.in-Some.is) in (
      same_rule _ _ _ c.args.self.now _ c.self.view_is at ∙ refused c.self.inside.start c.self.inside.steps.items c.self.inside.board c.args.colour c.args.what
          c.in-Some.cause refusal_is,
      refl,
    )

pub returns-in-Some-clause-cause : goal.returns-in-Some-clause-cause
returns-in-Some-clause-cause c =
    let at : c.self.inside.board ≡ replay c.self.inside.start c.self.inside.steps.items
    = leads_to_replay _ _ _ _ c.self.invariant.0 in
    let refusal_is : refusal_on c.self.inside.start c.self.inside.steps.items c.self.inside.board
    (record { colour = c.args.colour; what = c.args.what }) ≡ Some c.in-Some.cause =
    rw (← c.deref.ensures.value) (sym c.cause_against.ensures ∙ c.in-Some.is) in
    same_refusal _ _ _ c.args.self.now _ c.self.view_is at ∙ refusal_is

pub unwrap-requires : goal.unwrap-requires
unwrap-requires c =
    let few : IsFew c.deref-2.result.now c.self.inside.board
    = rw c.deref-2.ensures.value
    (few_on c.self.inside.start [] c.self.inside.start _ _ c.self.inside.board c.self.invariant.0) in
    c.push.ensures.succeeds (omega (arith, c.board_after-next.ensures.room few, c.self.invariant.1))

pub unwrap-requires-2 : goal.unwrap-requires-2
unwrap-requires-2 c =
    let few : IsFew c.deref-2.result.now c.self.inside.board
    = rw c.deref-2.ensures.value
    (few_on c.self.inside.start [] c.self.inside.start _ _ c.self.inside.board c.self.invariant.0) in
    let many : length c.self.inside.before.items ≡ length c.self.inside.steps.items
    = as_many_on c.self.inside.start [] c.self.inside.start _ _ c.self.inside.board c.self.invariant.0 in
    c.push-2.ensures.succeeds
    (omega (arith, many, ap length c.deref-2.ensures.value, c.self.inside.before.ok.0, c.board_after-next.ensures.room few, c.self.invariant.2))

pub invariant_of-self : goal.invariant_of-self
invariant_of-self c =
    let step : Step = record { colour = c.args.colour; what = c.args.what } in
    let few : IsFew c.deref-2.result.now c.self.inside.board
    = rw c.deref-2.ensures.value
    (few_on c.self.inside.start [] c.self.inside.start _ _ c.self.inside.board c.self.invariant.0) in
    let legal : is_legal_on c.self.inside.start c.self.inside.steps.items c.self.inside.board step ≡ true =
    allowed c.self.inside.start c.self.inside.steps.items c.self.inside.board c.args.colour c.args.what
    (rw (← c.deref.ensures.value) (sym c.cause_against.ensures ∙ c.in_default.is)) in
    let steps_are : c.push.new.self.items ≡ c.self.inside.steps.items ++ step ∷ []
    = rw c.unwrap.ensures at c.push.ensures.items in
    let boards_are : c.push-2.new.self.items ≡ c.self.inside.before.items ++ c.self.inside.board ∷ [] = rw c.unwrap-2.ensures at c.push-2.ensures.items in
    let next_is : c.board_after-next.result ≡ moved c.self.inside.board c.self.inside.steps.items c.args.colour c.args.what =
    c.board_after-next.ensures.value
    ∙ ap (λ (l : List Step). moved c.self.inside.board l c.args.colour c.args.what) c.deref-2.ensures.value in
    let fewer : IsFew c.push.new.self.items c.board_after-next.result =
    rw (steps_are, length-append)
    (omega (arith, ap length c.deref-2.ensures.value, c.board_after-next.ensures.few few)) in (
      one_more c.self.inside.start c.self.inside.steps.items c.push.new.self.items c.self.inside.before.items c.push-2.new.self.items c.self.inside.board
          c.board_after-next.result step
          c.self.invariant.0 legal next_is fewer steps_are boards_are,
      omega (arith, c.push.ensures.capacity, c.self.invariant.1),
      omega (arith, c.push-2.ensures.capacity, c.self.invariant.2),
    )

pub returns-clause-ok : goal.returns-clause-ok
returns-clause-ok c =
    let step : Step = record { colour = c.args.colour; what = c.args.what } in
    let at : c.self.inside.board ≡ replay c.self.inside.start c.self.inside.steps.items
    = leads_to_replay _ _ _ _ c.self.invariant.0 in
    let legal : is_legal_on c.self.inside.start c.self.inside.steps.items c.self.inside.board step ≡ true =
    allowed c.self.inside.start c.self.inside.steps.items c.self.inside.board c.args.colour c.args.what
    (rw (← c.deref.ensures.value) (sym c.cause_against.ensures ∙ c.in_default.is)) in
    let steps_are : c.push.new.self.items ≡ c.self.inside.steps.items ++ step ∷ []
    = rw c.unwrap.ensures at c.push.ensures.items in (
      same_rule _ _ _ c.args.self.now step c.self.view_is at ∙ legal,
      ap (λ (l : List Step). record { start = c.self.inside.start; steps = l }) steps_are
          ∙ ap (λ (g : GameData). with_step g step) c.self.view_is,
    )
