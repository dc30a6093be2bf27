use Rattle.std.proofs.Common.{List, ap, ◌∙◌, subst}
use Rattle.hex_cells.specs.declared.colours.Colour.{Colour}
use Rattle.hex_plan.specs.Resting.{IsMustplay}
use Rattle.hex_plan.specs.declared.threats.Threat.{Threat}
use Rattle.hex_plan.proofs.planning.search_plan.Goals as goal

pub returns-clause-connected : goal.returns-clause-connected
returns-clause-connected c = (
  c.args.own,
  c.in_ok-other.other,
  record {
    own_report = c.requires.own;
    unjoined = c.requires.unjoined;
    other_report = record {
      elements = c.in_ok-other.ensures.elements
          ∙ ap (λ (p : Colour). record { board = c.args.board.now; player = p }) c.other.ensures;
      report = c.in_ok-other.ensures.report;
    };
    are_threats = c.in_ok-threats.ensures;
    mustplay = subst (λ (ts : List Threat). IsMustplay c.args.board.now ts c.mustplay_region-region.result.allowed
        c.mustplay_region-region.result.lost) c.as_slice.ensures c.mustplay_region-region.ensures;
  },
)
