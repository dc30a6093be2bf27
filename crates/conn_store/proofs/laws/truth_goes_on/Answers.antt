use Rattle.std.proofs.Common.{arith}
use Rattle.hex_cells.specs.Sets.{members, with_cell, without_cell}
use Rattle.hex_cells.proofs.Bits.{cell_below}
use Rattle.hex_cells.proofs.Counts.{members_sub}
use Rattle.conn_store.specs.Links.{StonesLink}
use Rattle.conn_store.specs.declared.entries.Kind.TheVariants.{Full}
use Rattle.conn_store.proofs.Sureness.{in_without, same, semi_of_full, sure_less, sure_trimmed}
use Rattle.conn_store.proofs.Sureness.{sure_wider}
use Rattle.conn_store.proofs.Ways.{linked_kept}
use Rattle.conn_store.proofs.laws.truth_goes_on.Goals as goal

pub returns-clause-semi : goal.returns-clause-semi
returns-clause-semi c = λ e x y s d h. semi_of_full (members d 121) (StonesLink e x y) s d
    (linked_kept e x y) h

pub returns-clause-cells : goal.returns-clause-cells
returns-clause-cells c = λ kind e x y s b d i h.
    sure_wider (members b 121) (members d 121) kind (StonesLink e x y) s s b d (linked_kept e x y)
    (members_sub b d 121 i) (same s) i h

pub returns-clause-stones : goal.returns-clause-stones
returns-clause-stones c = λ kind e x y s t d i h.
    sure_wider (members d 121) (members d 121) kind (StonesLink e x y) s t d d (linked_kept e x y)
    (omega arith) i (same d) h

pub returns-clause-rest : goal.returns-clause-rest
returns-clause-rest c = λ e x y s d l h k i.
    sure_trimmed (members d 121) (members (without_cell d k) 121) Full (StonesLink e x y)
    (with_cell s k) (without_cell d k)
    (λ j g. cell_below d 121 j l (in_without d k j g).0) (omega arith)
    (sure_less (members d 121) Full (StonesLink e x y) s d k (linked_kept e x y) i h)
