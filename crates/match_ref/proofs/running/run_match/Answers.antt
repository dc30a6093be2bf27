use Rattle.std.proofs.Common.{subst, sym, ◌∙◌}
use Rattle.hex_devices.specs.declared.ends.End.TheVariants.{Usage}
use Rattle.hex_devices.proofs.StatusLaws.{same_end}
use Rattle.match_ref.specs.MatchRuns.{RefereesTo}
use Rattle.match_ref.proofs.RunLaws.{complete_at, no_write_fault, refused_end}
use Rattle.match_ref.proofs.running.run_match.Goals as goal

pub returns-clause-usage : goal.returns-clause-usage
returns-clause-usage g c
    = λ e. c.serve-end.ensures.usage
    (same_end c.serve-end.result Usage (sym c.status.ensures ∙ e))

pub returns-clause-untouched : goal.returns-clause-untouched
returns-clause-untouched g c = λ refusal.
    let end = refused_end c.serve-end.result _ c.status.ensures refusal in record {
      told = c.serve-end.ensures.untouched end;
      writes = c.serve-end.ensures.write_fault.kept (no_write_fault c.serve-end.result end);
    }

pub returns-clause-played : goal.returns-clause-played
returns-clause-played g c = λ end e.
    subst (λ x. RefereesTo c.args.words.now x
    (g.L.Link.told c.args.link.now) (g.L.Link.told c.serve-end.new.link))
    (same_end c.serve-end.result end (sym c.status.ensures ∙ e)) c.serve-end.ensures.played

pub returns-clause-complete : goal.returns-clause-complete
returns-clause-complete g c
    = λ w well kept. complete_at c.serve-end.result _ c.status.ensures
    c.serve-end.ensures.status
    (λ is. c.serve-end.ensures.usage is w well)
    (λ is. kept (c.serve-end.ensures.write_fault.rose is))
