use Rattle.std.proofs.Common.{◌+◌, ap, ◌∙◌, subst}
use Rattle.hex_board.specs.Elements.{edge_elements, is_head}
use Rattle.hex_board.specs.ElementTables.{IsNumbered}
use Rattle.hex_cells.proofs.Counts.{members_test}
use Rattle.hex_board.proofs.numbering.Numbering.head_element.Goals as goal

pub returns : goal.returns
returns c =
    let i : IsNumbered c.args.self.now c.self.inside.joined c.self.inside.first c.self.inside.second c.self.inside.heads =
    subst (λ v. IsNumbered v c.self.inside.joined c.self.inside.first c.self.inside.second c.self.inside.heads) c.self.view_is c.self.invariant in
    ap (λ v. v + c.rank.result) c.edge_elements.ensures.value
    ∙ ap (λ v. edge_elements c.args.self.now + v)
    (c.rank.ensures.value ∙ members_test c.self.inside.heads (is_head c.args.self.now) c.args.cell i.headed)
