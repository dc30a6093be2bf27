use Rattle.std.proofs.Common.{◌&&◌, ap, sym, ◌∙◌, arith}
use Rattle.std.specs.List.{list_all}
use Rattle.hex_cells.specs.Sets.{has}
use Rattle.hex_cells.specs.declared.board_size.TheConstants.{MOST_CELLS}
use Rattle.hex_cells.proofs.Bits.{has_all}
use Rattle.win_cert.specs.Entries.{entries_at}
use Rattle.cert_check.proofs.checkers.Checker.common.Goals as goal

pub numbers-init : goal.numbers-init
numbers-init c
    = λ k. ap (λ b. b && list_all (λ a. has a.carrier k) (entries_at c.args.self.now c.args.numbers.now))
    (sym (c.of_bits-cells.ensures.items k ∙ has_all MOST_CELLS k (omega arith)))
