use Rattle.std.proofs.Common.{arith, subst}
use Rattle.hex_board.specs.Elements.{HasCell}
use Rattle.hex_board.specs.ElementTables.{IsTabled}
use Rattle.hex_board.proofs.Tabled.{read}
use Rattle.hex_board.proofs.tables.Elements.cells.Goals as goal

pub listed : goal.listed
listed c =
    let i : IsTabled c.args.self.now c.self.inside.parts c.self.inside.reaches
    = subst (λ v. IsTabled v c.self.inside.parts c.self.inside.reaches) c.self.view_is c.self.invariant in
    omega (arith, i.few, c.requires)

pub bounds-self-inside-element : goal.bounds-self-inside-element
bounds-self-inside-element c =
    let i : IsTabled c.args.self.now c.self.inside.parts c.self.inside.reaches
    = subst (λ v. IsTabled v c.self.inside.parts c.self.inside.reaches) c.self.view_is c.self.invariant in
    omega (arith, i.few, c.requires)

pub returns : goal.returns
returns c =
    let i : IsTabled c.args.self.now c.self.inside.parts c.self.inside.reaches
    = subst (λ v. IsTabled v c.self.inside.parts c.self.inside.reaches) c.self.view_is c.self.invariant in
    λ k. read (HasCell c.args.self.now) c.self.inside.parts c.args.element c.index-self-element.result k (omega (
      arith,
      i.few,
      c.requires,
    )) (i.held c.args.element k c.requires)
