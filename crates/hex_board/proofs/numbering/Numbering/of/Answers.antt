use Rattle.std.proofs.Common.{subst}
use Rattle.hex_board.specs.ElementTables.{IsNumbered}
use Rattle.hex_board.proofs.Parts.{some_below, none_other}
use Rattle.hex_board.proofs.numbering.Numbering.of.Goals as goal

pub returns-clause-range : goal.returns-clause-range
returns-clause-range c =
    let i : IsNumbered c.args.self.now c.self.inside.joined c.self.inside.first c.self.inside.second c.self.inside.heads =
    subst (λ v. IsNumbered v c.self.inside.joined c.self.inside.first c.self.inside.second c.self.inside.heads) c.self.view_is c.self.invariant in
    some_below c.args.self.now c.self.inside.heads c.args.cell c.find.result i.on_board i.headed c.find.ensures

pub returns-clause-other : goal.returns-clause-other
returns-clause-other c =
    let i : IsNumbered c.args.self.now c.self.inside.joined c.self.inside.first c.self.inside.second c.self.inside.heads =
    subst (λ v. IsNumbered v c.self.inside.joined c.self.inside.first c.self.inside.second c.self.inside.heads) c.self.view_is c.self.invariant in
    rw c.find.ensures (none_other c.args.self.now c.args.cell i.on_board i.apart c.requires)
