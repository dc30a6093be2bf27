use Rattle.std.proofs.Common.{◌≡◌, ◌<◌, ◌≤◌, Ok, length, take, ap, sym, ◌∙◌, subst, arith, inl}
use Rattle.std.proofs.Common.{below_more}
use Rattle.std.proofs.lemmas.List.{take_all}
use Rattle.hex_game.specs.Games.{GameData}
use Rattle.sgf_game.specs.Playing.{IsSaidOn}
use Rattle.sgf_game.specs.Turns.{game_after, game_unless, steps_of}
use Rattle.sgf_game.proofs.Refusals.{said_at, refused_at, taken_at, game_more, few_turns, first_is}
use Rattle.sgf_game.proofs.Refusals.{first_none}
use Rattle.sgf_game.proofs.playing.game_of_turns.Goals as goal

pub take_turn-requires : goal.take_turn-requires
take_turn-requires c =
    let within : c.loop-index.index < length c.args.turns.now = grind arith in
    subst (λ (g : GameData). IsSaidOn g.start.size c.index-turns-index.result.said)
    (sym c.loop-index.invariant.game)
    (said_at c.args.start.now.size c.args.turns.now c.loop-index.index c.index-turns-index.result c.requires.on_board within c.index-turns-index.is)

pub overflow_cast-result : goal.overflow_cast-result
overflow_cast-result c =
    let within : c.loop-index.index < length c.args.turns.now = grind arith in
    let as_many : length
    (steps_of (take c.loop-index.index c.args.turns.now)) ≡ c.loop-index.index =
    few_turns c.args.start.now c.args.turns.now c.loop-index.index c.requires.ends_last within c.loop-index.invariant.legal in
    let same : c.take_turn.new.game ≡ game_after c.args.start.now
    (take c.loop-index.index c.args.turns.now) =
    c.take_turn.ensures.refused c.if-not-take_turn.true ∙ c.loop-index.invariant.game in
    let few : length (steps_of (take c.loop-index.index c.args.turns.now)) ≤ 122
    = subst (λ (g : GameData). length g.steps ≤ 122) same c.steps_are_legal.ensures.few in
    omega (arith, few, as_many)

pub returns-then-not-take_turn : goal.returns-then-not-take_turn
returns-then-not-take_turn c =
    let within : c.loop-index.index < length c.args.turns.now = grind arith in
    let refused = refused_at c.args.start.now c.args.turns.now c.loop-index.index c.index-turns-index.result c.loop-index.game within c.index-turns-index.is
    c.loop-index.invariant.game
    (sym c.if-not-take_turn.true ∙ c.take_turn.ensures.legal) in
    inl (sym (ap (λ o. game_unless o (game_after c.args.start.now c.args.turns.now))
    (first_is c.args.start.now c.args.turns.now c.loop-index.index within refused c.loop-index.invariant.legal)))

pub loop-index-preserved : goal.loop-index-preserved
loop-index-preserved c =
    let within : c.loop-index.index < length c.args.turns.now = grind arith in
    record {
      game = c.take_turn.ensures.taken c.if-not-take_turn.false
          ∙ game_more c.args.start.now c.args.turns.now c.loop-index.index c.index-turns-index.result c.loop-index.game within c.index-turns-index.is
          c.loop-index.invariant.game;
      legal = below_more _ _ c.loop-index.invariant.legal
          (taken_at c.args.start.now c.args.turns.now c.loop-index.index c.index-turns-index.result c.loop-index.game within c.index-turns-index.is
          c.loop-index.invariant.game
          (sym c.if-not-take_turn.false ∙ c.take_turn.ensures.legal));
    }

pub returns : goal.returns
returns c =
    let none = first_none c.args.start.now c.args.turns.now
    (λ j h. c.loop-index.invariant.legal j (omega arith)) in
    let all = take_all c.loop-index.index c.args.turns.now c.loop-index-test.false in
    inl (ap Ok (c.loop-index.invariant.game ∙ ap (game_after c.args.start.now) all)
    ∙ sym (ap (λ o. game_unless o (game_after c.args.start.now c.args.turns.now)) none))
