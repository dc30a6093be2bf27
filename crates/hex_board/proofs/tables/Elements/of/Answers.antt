use Rattle.std.proofs.Common.{◌<◌, IfSome, subst}
use Rattle.hex_board.specs.Elements.{element_count}
use Rattle.hex_board.proofs.tables.Elements.of.Goals as goal

pub returns-clause-range : goal.returns-clause-range
returns-clause-range c
    = subst (λ v. IfSome c.of.result (λ x. x < element_count v)) c.self.view_is c.of.ensures.range
