use Rattle.std.proofs.Common.{◌≡◌, ℕ, ◌<◌, List, All, ap, subst, sym, ◌∙◌}
use Rattle.hex_cells.specs.declared.colours.Colour.TheVariants.{Black}
use Rattle.tree_words.specs.Settings.{Setting}
use Rattle.tree_words.specs.declared.settings.Knobs.{Knobs}
use Rattle.sim_run.specs.BetweenSteps.{EndsSchedule}
use Rattle.hex_plan.specs.Good.{no_means}
use Rattle.turn_modes.specs.OneTurn.{IsFirstTurn}
use Rattle.turn_modes.specs.Schedules.{schedule_of}
use Rattle.turn_modes.proofs.Decided.{shape_of_tree, sequential_tree}
use Rattle.turn_modes.proofs.searches.simulated_turn.Goals as goal

pub returns-clause-turn : goal.returns-clause-turn
returns-clause-turn c =
    let knobs = c.args.options.now.knobs in
    let board = c.empty-board.result in
    let s = c.in_ok-prepared.prepared.shape in
    let same : c.in_ok-closed.closed.shape ≡ s = c.in_ok-closed.ensures.shape in
    subst (λ p. IsFirstTurn knobs no_means p Black c.decide.result) c.empty-board.ensures.value
    (c.decide.ensures.first knobs board Black c.empty-board.ensures.nobody
    c.in_ok-prepared.ensures.planned
    (shape_of_tree knobs board Black s c.in_ok-closed.closed same c.in_ok-prepared.ensures.shape)
    (sequential_tree knobs board Black s c.in_ok-closed.closed same c.in_ok-prepared.ensures.shape
    c.in_ok-closed.ensures.one))

pub returns-clause-scheduled : goal.returns-clause-scheduled
returns-clause-scheduled c several =
    let knobs = c.args.options.now.knobs in
    let workers : c.in_ok-prepared.prepared.shape.knobs.workers ≡ knobs.workers
    = ap (λ (k : Knobs). k.workers) c.in_ok-prepared.ensures.shape.knobs in
    let list : c.deref.result.now ≡ schedule_of knobs.workers knobs.seed c.args.options.now.steps
    = c.deref.ensures.value ∙ c.in_ok-list.ensures.value in
    let tree = c.in_ok-closed.closed in (
      tree,
      c.decide.ensures.closed,
      subst (λ (z : Setting). EndsSchedule z
          (schedule_of knobs.workers knobs.seed c.args.options.now.steps) tree.words)
          (sym c.in_ok-closed.ensures.shape)
          (subst (λ (xs : List ℕ). EndsSchedule c.in_ok-prepared.prepared.shape xs tree.words) list
          (c.in_ok-closed.ensures.schedule (λ e. several (sym workers ∙ e)))),
    )

pub follow-requires : goal.follow-requires
follow-requires c =
    let workers : c.in_ok-prepared.prepared.shape.knobs.workers ≡ c.args.options.now.knobs.workers
    = ap (λ (k : Knobs). k.workers) c.in_ok-prepared.ensures.shape.knobs in
    subst (λ (xs : List ℕ). All (λ worker. worker < c.in_ok-prepared.prepared.shape.knobs.workers)
    xs) (sym c.deref.ensures.value)
    (subst (λ n. All (λ worker. worker < n) c.in_ok-list.list.items)
    (sym workers) c.in_ok-list.ensures.below)
