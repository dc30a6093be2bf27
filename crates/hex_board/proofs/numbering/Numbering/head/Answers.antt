use Rattle.std.proofs.Common.{◌-◌, ap, ◌∙◌, subst}
use Rattle.hex_board.specs.ElementTables.{IsNumbered}
use Rattle.hex_board.proofs.Parts.{head_at, place_below}
use Rattle.hex_board.proofs.numbering.Numbering.head.Goals as goal

pub nth-requires : goal.nth-requires
nth-requires c =
    let i : IsNumbered c.args.self.now c.self.inside.joined c.self.inside.first c.self.inside.second c.self.inside.heads =
    subst (λ v. IsNumbered v c.self.inside.joined c.self.inside.first c.self.inside.second c.self.inside.heads) c.self.view_is c.self.invariant in
    let p = place_below c.args.self.now c.self.inside.heads c.args.element i.on_board i.sized i.headed c.requires.low c.requires.high in
    rw (c.from.ensures, c.edge_elements.ensures.value) p

pub returns-clause-number : goal.returns-clause-number
returns-clause-number c =
    let i : IsNumbered c.args.self.now c.self.inside.joined c.self.inside.first c.self.inside.second c.self.inside.heads =
    subst (λ v. IsNumbered v c.self.inside.joined c.self.inside.first c.self.inside.second c.self.inside.heads) c.self.view_is c.self.invariant in
    head_at c.args.self.now c.self.inside.heads c.nth.result c.args.element i.headed c.requires.low
    (c.nth.ensures.order ∙ (ap (λ v. v - c.edge_elements.result) c.from.ensures ∙ ap (λ v. c.args.element - v) c.edge_elements.ensures.value))
