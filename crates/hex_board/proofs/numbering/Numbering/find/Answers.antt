use Rattle.std.proofs.Common.{◌≡◌, true, false, Some, sym, ap, ◌∙◌, subst}
use Rattle.hex_board.specs.Positions.{is_empty_at}
use Rattle.hex_board.specs.Elements.{is_tied}
use Rattle.hex_board.specs.ElementTables.{IsNumbered}
use Rattle.hex_board.proofs.Parts.{of_group, of_other}
use Rattle.hex_board.proofs.numbering.Numbering.find.Goals as goal

pub returns-in-Some : goal.returns-in-Some
returns-in-Some c =
    let i : IsNumbered c.args.self.now c.self.inside.joined c.self.inside.first c.self.inside.second c.self.inside.heads =
    subst (λ v. IsNumbered v c.self.inside.joined c.self.inside.first c.self.inside.second c.self.inside.heads) c.self.view_is c.self.invariant in
    let free : is_empty_at c.args.self.now.board c.args.cell ≡ false
    = sym (c.empties.ensures c.args.cell ∙ ap (λ v. is_empty_at v.board c.args.cell) c.self.view_is)
    ∙ (sym c.has.ensures ∙ c.if-has.false) in
    let first : is_tied c.args.self.now false c.args.cell ≡ false = sym (i.to_first c.args.cell)
    ∙ (sym c.has-2.ensures ∙ c.if-has-2.false) in
    let second : is_tied c.args.self.now true c.args.cell ≡ false = sym (i.to_second c.args.cell)
    ∙ (sym c.has-3.ensures ∙ c.if-has-3.false) in
    ap Some c.head_element-in-Some.ensures
    ∙ sym (of_group c.args.self.now c.args.cell c.in-Some.root i.on_board free first second
    (sym (c.linked.ensures c.in-Some.root) ∙ c.in-Some.ensures.0)
    (λ j b. sym (c.linked.ensures j) ∙ c.in-Some.ensures.1 j b))

pub returns-in-None : goal.returns-in-None
returns-in-None c =
    let i : IsNumbered c.args.self.now c.self.inside.joined c.self.inside.first c.self.inside.second c.self.inside.heads =
    subst (λ v. IsNumbered v c.self.inside.joined c.self.inside.first c.self.inside.second c.self.inside.heads) c.self.view_is c.self.invariant in
    let free : is_empty_at c.args.self.now.board c.args.cell ≡ false
    = sym (c.empties.ensures c.args.cell ∙ ap (λ v. is_empty_at v.board c.args.cell) c.self.view_is)
    ∙ (sym c.has.ensures ∙ c.if-has.false) in
    let first : is_tied c.args.self.now false c.args.cell ≡ false = sym (i.to_first c.args.cell)
    ∙ (sym c.has-2.ensures ∙ c.if-has-2.false) in
    let second : is_tied c.args.self.now true c.args.cell ≡ false = sym (i.to_second c.args.cell)
    ∙ (sym c.has-3.ensures ∙ c.if-has-3.false) in
    sym (of_other c.args.self.now c.args.cell free first second (λ j. sym (c.linked.ensures j) ∙ c.in-None.ensures j))
