use Rattle.std.proofs.Common.{◌≡◌, ◌<◌, IfSome, ap, sym, ◌∙◌, subst}
use Rattle.hex_board.specs.Elements.{PlayerBoard, element_count, element_of}
use Rattle.win_cert.specs.Entries.{elements_at, end_element}
use Rattle.cert_check.proofs.checkers.Checker.element.Goals as goal

pub returns-in-At-clause-value : goal.returns-in-At-clause-value
returns-in-At-clause-value c =
    let at : c.self.inside.elements ≡ elements_at c.args.self.now = c.self.invariant.are_elements
    ∙ ap elements_at c.self.view_is in
    c.of.ensures.value ∙ ap (λ e. element_of e c.in-At.cell) at
    ∙ ap (end_element (elements_at c.args.self.now)) (sym c.in-At.is)

pub returns-in-At-clause-range : goal.returns-in-At-clause-range
returns-in-At-clause-range c =
    let at : c.self.inside.elements ≡ elements_at c.args.self.now = c.self.invariant.are_elements
    ∙ ap elements_at c.self.view_is in
    subst (λ (e : PlayerBoard). IfSome c.of.result (λ x. x < element_count e)) at c.of.ensures.range
