-- A plan by connections is one with any budget. A search is among empty cells, and there is one.
use Rattle.std.proofs.Common.{subst}
use Rattle.std.specs.Prelude.{IfOk}
use Rattle.std.proofs.lemmas.Bool.{not-false}
use Rattle.hex_board.specs.Elements.{PlayerBoard}
use Rattle.hex_plan.specs.Resting.{IsConnected}
use Rattle.hex_plan.specs.declared.plans.Planned.{Planned}
use Rattle.hex_plan.proofs.Allowing.{if_allows}
use Rattle.hex_plan.proofs.Sought.{if_planned, if_planned_more, if_rests, if_sought, if_written}
use Rattle.hex_plan.proofs.Sought.{no_loss, none_within}
use Rattle.hex_plan.proofs.planning.plan.Goals as goal

-- ---- the player's report has an entry between his edges

pub returns-in-Some-clause-rests : goal.returns-in-Some-clause-rests
returns-in-Some-clause-rests c = if_rests c.args.means c.args.board.now c.args.colour
    c.win_plan.result (not-false c.args.means.hsearch c.if-not-means.false)
    (if_sought c.args.means.solve c.args.board.now c.args.colour c.win_plan.result
    (subst (λ (e : PlayerBoard). IfOk c.win_plan.result
    (λ (p : Planned). IsConnected e.board e.player p.plan))
    c.in_ok-own.ensures.elements c.win_plan.ensures.connected))

pub returns-in-Some-clause-first : goal.returns-in-Some-clause-first
returns-in-Some-clause-first c =
    let solve = c.args.means.solve in
    if_planned c.args.means c.args.board.now c.args.colour c.win_plan.result
    c.keeps.ensures.position (not-false c.args.means.hsearch c.if-not-means.false)
    (if_sought solve c.args.board.now c.args.colour c.win_plan.result
    (subst (λ (e : PlayerBoard). IfOk c.win_plan.result
    (λ (p : Planned). IsConnected e.board e.player p.plan))
    c.in_ok-own.ensures.elements c.win_plan.ensures.connected))
    (none_within solve c.win_plan.result c.win_plan.ensures.none)
    (no_loss c.args.board.now c.args.colour c.win_plan.result c.win_plan.ensures.loss)

pub returns-in-Some-clause-planned : goal.returns-in-Some-clause-planned
returns-in-Some-clause-planned c = if_planned_more c.args.means c.args.board.now c.args.colour
    c.win_plan.result (returns-in-Some-clause-first c)

pub returns-in-Some-clause-allowed : goal.returns-in-Some-clause-allowed
returns-in-Some-clause-allowed c =
    let solve = c.args.means.solve in
    if_allows c.args.board.now c.args.colour solve c.win_plan.result c.requires.room
    (if_sought solve c.args.board.now c.args.colour c.win_plan.result
    (subst (λ (e : PlayerBoard). IfOk c.win_plan.result
    (λ (p : Planned). IsConnected e.board e.player p.plan))
    c.in_ok-own.ensures.elements c.win_plan.ensures.connected))

pub returns-in-Some-clause-written : goal.returns-in-Some-clause-written
returns-in-Some-clause-written c = if_written c.args.board.now c.args.colour c.win_plan.result
    (no_loss c.args.board.now c.args.colour c.win_plan.result c.win_plan.ensures.loss)

-- ---- it has none

pub returns-in-None-clause-rests : goal.returns-in-None-clause-rests
returns-in-None-clause-rests c = if_rests c.args.means c.args.board.now c.args.colour
    c.unjoined_plan.result (not-false c.args.means.hsearch c.if-not-means.false)
    c.unjoined_plan.ensures.rests

pub returns-in-None-clause-first : goal.returns-in-None-clause-first
returns-in-None-clause-first c =
    if_planned c.args.means c.args.board.now c.args.colour c.unjoined_plan.result
    c.keeps.ensures.position (not-false c.args.means.hsearch c.if-not-means.false)
    c.unjoined_plan.ensures.rests c.unjoined_plan.ensures.within c.unjoined_plan.ensures.loss

pub returns-in-None-clause-planned : goal.returns-in-None-clause-planned
returns-in-None-clause-planned c = if_planned_more c.args.means c.args.board.now c.args.colour
    c.unjoined_plan.result (returns-in-None-clause-first c)

pub returns-in-None-clause-allowed : goal.returns-in-None-clause-allowed
returns-in-None-clause-allowed c
    = if_allows c.args.board.now c.args.colour c.args.means.solve
    c.unjoined_plan.result c.requires.room c.unjoined_plan.ensures.rests

pub returns-in-None-clause-written : goal.returns-in-None-clause-written
returns-in-None-clause-written c = if_written c.args.board.now c.args.colour c.unjoined_plan.result
    c.unjoined_plan.ensures.loss
