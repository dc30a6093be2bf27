use Rattle.std.proofs.Common.{arith, subst}
use Rattle.hex_board.specs.Elements.{HasCell}
use Rattle.hex_board.specs.ElementTables.{IsTabled, Reaches}
use Rattle.hex_board.proofs.Tabled.{read, sets_meet}
use Rattle.hex_board.proofs.tables.Elements.leads.Goals as goal

pub listed : goal.listed
listed c =
    let i : IsTabled c.args.self.now c.self.inside.parts c.self.inside.reaches
    = subst (λ v. IsTabled v c.self.inside.parts c.self.inside.reaches) c.self.view_is c.self.invariant in
    omega (arith, i.few, c.requires.x)

pub bounds-self-inside-x : goal.bounds-self-inside-x
bounds-self-inside-x c =
    let i : IsTabled c.args.self.now c.self.inside.parts c.self.inside.reaches
    = subst (λ v. IsTabled v c.self.inside.parts c.self.inside.reaches) c.self.view_is c.self.invariant in
    omega (arith, i.few, c.requires.x)

pub listed-2 : goal.listed-2
listed-2 c =
    let i : IsTabled c.args.self.now c.self.inside.parts c.self.inside.reaches
    = subst (λ v. IsTabled v c.self.inside.parts c.self.inside.reaches) c.self.view_is c.self.invariant in
    omega (arith, i.few, c.requires.y)

pub bounds-self-inside-y : goal.bounds-self-inside-y
bounds-self-inside-y c =
    let i : IsTabled c.args.self.now c.self.inside.parts c.self.inside.reaches
    = subst (λ v. IsTabled v c.self.inside.parts c.self.inside.reaches) c.self.view_is c.self.invariant in
    omega (arith, i.few, c.requires.y)

pub returns : goal.returns
returns c =
    let i : IsTabled c.args.self.now c.self.inside.parts c.self.inside.reaches
    = subst (λ v. IsTabled v c.self.inside.parts c.self.inside.reaches) c.self.view_is c.self.invariant in
    sets_meet c.args.self.now c.args.x c.args.y _ _ c.meets.result
    (λ k. read (Reaches c.args.self.now) c.self.inside.reaches c.args.x c.index-self-x.result k (omega (
      arith,
      i.few,
      c.requires.x,
    )) (i.reached c.args.x k c.requires.x))
    (λ k. read (HasCell c.args.self.now) c.self.inside.parts c.args.y c.index-self-y.result k (omega (
      arith,
      i.few,
      c.requires.y,
    )) (i.held c.args.y k c.requires.y))
    c.meets.ensures
