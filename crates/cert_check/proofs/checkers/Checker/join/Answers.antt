use Rattle.std.proofs.Common.{◌≡◌, ◌<◌, None, refl, ap, sym, ◌∙◌, subst}
use Rattle.hex_board.specs.Elements.{PlayerBoard, element_count}
use Rattle.win_cert.specs.Entries.{elements_at}
use Rattle.cert_check.specs.Keeping.{entry_of}
use Rattle.cert_check.proofs.ChainReasons.{and_given, first_below, join_reason, joined, key_given}
use Rattle.cert_check.proofs.ChainReasons.{middle_below, second_below, wrong_is}
use Rattle.cert_check.proofs.ReasonLaws.{told_first, told_next}
use Rattle.cert_check.proofs.checkers.Checker.join.Goals as goal
use Rattle.win_cert.proofs.CutChains.{two_at}

pub returns-in_default : goal.returns-in_default
returns-in_default c =
    let now = c.args.self.now in
    let a = entry_of c.args.a.now in
    let b = entry_of c.args.b.now in
    let n = c.requires.named in
    let two = two_at now c.args.i c.args.j a b n.first n.second in
    join_reason now c.args.over_cell c.args.i c.args.j a b None two n.references n.scopes
    (sym c.middle.ensures ∙ c.in_default.is)

pub returns-then-shares_cell : goal.returns-then-shares_cell
returns-then-shares_cell c =
    joined c.requires.named c.middle.ensures c.in-Some.is c.shares_cell.ensures refl refl refl refl
    ∙ told_first _ _ _ c.if-shares_cell.true

pub is_either_in-requires-clause-x : goal.is_either_in-requires-clause-x
is_either_in-requires-clause-x c
    = first_below c.in-Some.middle c.requires.named c.other_end-x.ensures

pub is_either_in-requires-clause-y : goal.is_either_in-requires-clause-y
is_either_in-requires-clause-y c
    = second_below c.in-Some.middle c.requires.named c.other_end-y.ensures

pub between-requires-clause-a : goal.between-requires-clause-a
between-requires-clause-a c = first_below c.in-Some.middle c.requires.named c.other_end-x.ensures

pub between-requires-clause-b : goal.between-requires-clause-b
between-requires-clause-b c = second_below c.in-Some.middle c.requires.named c.other_end-y.ensures

pub between-requires-else-over_cell-2-clause-a : goal.between-requires-else-over_cell-2-clause-a
between-requires-else-over_cell-2-clause-a c
    = first_below c.in-Some.middle c.requires.named c.other_end-x.ensures

pub between-requires-else-over_cell-2-clause-b : goal.between-requires-else-over_cell-2-clause-b
between-requires-else-over_cell-2-clause-b c
    = second_below c.in-Some.middle c.requires.named c.other_end-y.ensures

pub returns-then-is_either_in : goal.returns-then-is_either_in
returns-then-is_either_in c =
    joined c.requires.named c.middle.ensures c.in-Some.is c.shares_cell.ensures c.other_end-x.ensures c.other_end-y.ensures c.is_either_in.ensures refl
    ∙ told_next _ _ _ _ c.if-shares_cell.false (told_first _ _ _ c.if-is_either_in.true)

pub cell-requires : goal.cell-requires
cell-requires c =
    let now = c.args.self.now in
    let at : c.self.inside.elements ≡ elements_at now = c.self.invariant.are_elements
    ∙ ap elements_at c.self.view_is in
    subst (λ (e : PlayerBoard). c.in-Some.middle < element_count e) (sym at)
    (middle_below now c.args.a.now (entry_of c.args.b.now) c.in-Some.middle c.requires.named.first_scope c.requires.named.first_given (sym c.middle.ensures
    ∙ c.in-Some.is))

pub returns-then-over_cell : goal.returns-then-over_cell
returns-then-over_cell c =
    let n = c.requires.named in
    let at = c.self.invariant.are_elements ∙ ap elements_at c.self.view_is in
    let x = c.other_end-x.ensures in
    let y = c.other_end-y.ensures in (
      joined n c.middle.ensures c.in-Some.is c.shares_cell.ensures x y c.is_either_in.ensures
          (wrong_is c.args.self.now c.in-Some.middle at c.cell.ensures.value c.in-Some-cell.is c.if-over_cell.true)
          ∙ told_next _ _ _ _ c.if-shares_cell.false
          (told_next _ _ _ _ c.if-is_either_in.false refl),
      key_given n c.if-over_cell.true c.middle.ensures c.in-Some.is at c.cell.ensures.value c.in-Some-cell.is x y
          c.union-cells.ensures.value c.with.ensures.value c.between.ensures.value,
      c.between.ensures.given,
    )

pub returns-else-over_cell : goal.returns-else-over_cell
returns-else-over_cell c =
    let at = c.self.invariant.are_elements ∙ ap elements_at c.self.view_is in
    joined c.requires.named c.middle.ensures c.in-Some.is c.shares_cell.ensures c.other_end-x.ensures c.other_end-y.ensures c.is_either_in.ensures
    (wrong_is c.args.self.now c.in-Some.middle at c.cell.ensures.value c.in-Some-cell.is c.if-over_cell.false)
    ∙ told_next _ _ _ _ c.if-shares_cell.false (told_next _ _ _ _ c.if-is_either_in.false refl)

pub returns-then-over_cell-2 : goal.returns-then-over_cell-2
returns-then-over_cell-2 c =
    let at = c.self.invariant.are_elements ∙ ap elements_at c.self.view_is in
    joined c.requires.named c.middle.ensures c.in-Some.is c.shares_cell.ensures c.other_end-x.ensures c.other_end-y.ensures c.is_either_in.ensures
    (wrong_is c.args.self.now c.in-Some.middle at c.cell.ensures.value c.in-None.is c.if-over_cell-2.true)
    ∙ told_next _ _ _ _ c.if-shares_cell.false (told_next _ _ _ _ c.if-is_either_in.false refl)

pub returns-else-over_cell-2 : goal.returns-else-over_cell-2
returns-else-over_cell-2 c =
    let n = c.requires.named in
    let at = c.self.invariant.are_elements ∙ ap elements_at c.self.view_is in
    let x = c.other_end-x.ensures in
    let y = c.other_end-y.ensures in (
      joined n c.middle.ensures c.in-Some.is c.shares_cell.ensures x y c.is_either_in.ensures
          (wrong_is c.args.self.now c.in-Some.middle at c.cell.ensures.value c.in-None.is c.if-over_cell-2.false)
          ∙ told_next _ _ _ _ c.if-shares_cell.false
          (told_next _ _ _ _ c.if-is_either_in.false refl),
      and_given n c.if-over_cell-2.false c.middle.ensures c.in-Some.is x y c.union-cells.ensures.value c.between-else-over_cell-2.ensures.value,
      c.between-else-over_cell-2.ensures.given,
    )
