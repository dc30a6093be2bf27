use Rattle.std.proofs.Common.{ap, ◌∙◌, arith}
use Rattle.hex_cells.specs.Sets.{has}
use Rattle.hex_cells.proofs.Tables.{last_column_below, last_column_has}
use Rattle.hex_cells.proofs.edges.last_column.Goals as goal

pub of_bits-requires : goal.of_bits-requires
of_bits-requires c = rw c.get.ensures.value (last_column_below c.args.size (omega arith))

pub returns : goal.returns
returns c = λ k. ap (λ v. has v k) c.of_bits.ensures.value
    ∙ rw c.get.ensures.value (last_column_has c.args.size k (omega arith))
