use Rattle.std.proofs.Common.{◌≡◌, cond, sym, ap, ◌∙◌}
use Rattle.hex_board.specs.Positions.{Position}
use Rattle.hex_cells.specs.declared.colours.Colour.TheVariants.{Black, White}
use Rattle.play_out.specs.Fills.{playout_of, winner_by}
use Rattle.trace_audit.proofs.recording.ending_of.Goals as goal
use Rattle.trace_audit.proofs.recording.ending_of.Goals.{then-joined, else-joined}

pub returns-clause-winner : goal.returns-clause-winner
unfolding playout_of
returns-clause-winner c =
    let same : winner_by c.fill-full.result.size c.fill-full.result.black ≡ playout_of c.args.site.now.board
    c.args.site.now.player c.args.seed c.args.k = ap (λ (p : Position). winner_by p.size p.black) c.fill-full.ensures.value in
    elim c.if-joined.branch [
      | then-joined w ↦ w.winner-is
          ∙ sym (ap (λ t. cond t Black White) (sym c.joined.ensures.value ∙ w.if-joined.true)) ∙ same
      | else-joined w ↦ w.winner-is
          ∙ sym (ap (λ t. cond t Black White) (sym c.joined.ensures.value ∙ w.if-joined.false)) ∙ same
    ]
