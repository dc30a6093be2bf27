use Rattle.std.proofs.Common.{not, refl, ap, sym, ◌∙◌, Some}
use Rattle.conn_store.specs.declared.entries.Kind.TheVariants.{Full}
use Rattle.win_cert.specs.Entries.{edge_entry}
use Rattle.win_cert.specs.declared.statements.Statement.TheVariants.{Derivation}
use Rattle.win_cert.specs.declared.lines.Line.TheVariants.{Cases}
use Rattle.cert_check.proofs.ReasonLaws.{cases_tested, kept_scope, told_first, told_next}
use Rattle.cert_check.proofs.checkers.Checker.cases.Goals as goal

pub returns-then-not-takes_all : goal.returns-then-not-takes_all
returns-then-not-takes_all c =
    let numbers = c.args.numbers.now in
    cases_tested c.args.self.now numbers
    (c.takes_all.ensures (Derivation (Cases numbers)) (refl, refl)) refl refl refl
    ∙ told_first _ _ _ (ap not c.if-not-takes_all.true)

pub returns-then-not-are_in_scope : goal.returns-then-not-are_in_scope
returns-then-not-are_in_scope c =
    let numbers = c.args.numbers.now in
    let taken = c.takes_all.ensures (Derivation (Cases numbers)) (refl, refl) in
    cases_tested c.args.self.now numbers taken
    (kept_scope numbers c.self.view_is c.are_in_scope.ensures) refl refl
    ∙ told_next _ _ _ _ (ap not c.if-not-takes_all.false)
    (told_first _ _ _ (ap not c.if-not-are_in_scope.true))

pub returns-then-shares_cell : goal.returns-then-shares_cell
returns-then-shares_cell c =
    let numbers = c.args.numbers.now in
    let taken = c.takes_all.ensures (Derivation (Cases numbers)) (refl, refl) in
    cases_tested c.args.self.now numbers taken
    (kept_scope numbers c.self.view_is c.are_in_scope.ensures) c.shares_cell.ensures refl
    ∙ told_next _ _ _ _ (ap not c.if-not-takes_all.false)
    (told_next _ _ _ _ (ap not c.if-not-are_in_scope.false)
    (told_first _ _ _ c.if-shares_cell.true))

pub returns-then-not-are_of_edges : goal.returns-then-not-are_of_edges
returns-then-not-are_of_edges c =
    let numbers = c.args.numbers.now in
    let taken = c.takes_all.ensures (Derivation (Cases numbers)) (refl, refl) in
    cases_tested c.args.self.now numbers taken
    (kept_scope numbers c.self.view_is c.are_in_scope.ensures) c.shares_cell.ensures c.are_of_edges.ensures
    ∙ told_next _ _ _ _ (ap not c.if-not-takes_all.false)
    (told_next _ _ _ _ (ap not c.if-not-are_in_scope.false)
    (told_next _ _ _ _ c.if-shares_cell.false (told_first _ _ _ (ap not c.if-not-are_of_edges.true))))

pub returns : goal.returns
returns c =
    let now = c.args.self.now in
    let numbers = c.args.numbers.now in
    let taken = c.takes_all.ensures (Derivation (Cases numbers)) (refl, refl) in (
      cases_tested now numbers taken
          (kept_scope numbers c.self.view_is c.are_in_scope.ensures) c.shares_cell.ensures c.are_of_edges.ensures
          ∙ told_next _ _ _ _ (ap not c.if-not-takes_all.false)
          (told_next _ _ _ _ (ap not c.if-not-are_in_scope.false)
          (told_next _ _ _ _ c.if-shares_cell.false (told_next _ _ _ _ (ap not c.if-not-are_of_edges.false) refl))),
      ap Some (sym (c.of_edges.ensures.value ∙ ap (edge_entry now Full) c.carriers.ensures)),
      c.of_edges.ensures.given,
    )
