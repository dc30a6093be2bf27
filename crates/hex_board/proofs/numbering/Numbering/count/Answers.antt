use Rattle.std.proofs.Common.{◌+◌, ap, ◌∙◌, subst}
use Rattle.hex_board.specs.Elements.{edge_elements}
use Rattle.hex_board.specs.ElementTables.{IsNumbered}
use Rattle.hex_board.proofs.Parts.{all_heads}
use Rattle.hex_board.proofs.numbering.Numbering.count.Goals as goal

pub returns-clause-value : goal.returns-clause-value
returns-clause-value c =
    let i : IsNumbered c.args.self.now c.self.inside.joined c.self.inside.first c.self.inside.second c.self.inside.heads =
    subst (λ v. IsNumbered v c.self.inside.joined c.self.inside.first c.self.inside.second c.self.inside.heads) c.self.view_is c.self.invariant in
    ap (λ v. v + c.count.result) c.edge_elements.ensures.value
    ∙ ap (λ v. edge_elements c.args.self.now + v)
    (c.count.ensures.value ∙ all_heads c.args.self.now c.self.inside.heads i.on_board i.sized i.headed)
