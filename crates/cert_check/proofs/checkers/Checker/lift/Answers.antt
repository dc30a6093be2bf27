use Rattle.std.proofs.Common.{Some, ap, sym, refl, not, ◌∙◌}
use Rattle.std.specs.Option.{is_none}
use Rattle.hex_cells.specs.Sets.{without_cells}
use Rattle.win_cert.specs.Entries.{entry_between}
use Rattle.win_cert.specs.Scopes.{is_part}
use Rattle.cert_check.specs.Keeping.{entry_of}
use Rattle.cert_check.proofs.LiftTests.{held_there, lift_gives, missing_at, named_at, part_test}
use Rattle.cert_check.proofs.ReasonLaws.{lift_reasons, lift_tested, told_first, told_next}
use Rattle.cert_check.proofs.checkers.Checker.lift.Goals as goal

pub returns-in_default : goal.returns-in_default
returns-in_default c = lift_reasons c.args.self.now c.args.i
    ∙ told_first _ _ _ (ap is_none (missing_at c.args.self.now c.args.i c.entry.ensures.value c.in_default.is))

pub returns-then-not-inside : goal.returns-then-not-inside
returns-then-not-inside c =
    let now = c.args.self.now in
    let a = c.in-Some.given in
    let part = part_test a.scope c.self.inside.scope c.inside.result c.inside.ensures
    ∙ ap (λ n. is_part a.scope n.scope) c.self.view_is in
    lift_tested now c.args.i (entry_of a)
    (named_at now c.args.i c.entry.ensures.value c.in-Some.is) part
    ∙ told_first _ _ _ (ap not c.if-not-inside.true)

pub returns-in_default-holder : goal.returns-in_default-holder
returns-in_default-holder c =
    let now = c.args.self.now in
    let a = c.in-Some.given in
    let part = part_test a.scope c.self.inside.scope c.inside.result c.inside.ensures
    ∙ ap (λ n. is_part a.scope n.scope) c.self.view_is in
    let named = named_at now c.args.i c.entry.ensures.value c.in-Some.is in (
      lift_tested now c.args.i (entry_of a) named part
          ∙ told_next _ _ _ _ (ap not c.if-not-inside.false) refl,
      lift_gives now c.args.i a named
          (held_there now a.scope a.x c.elements_in-elements.ensures.value c.holder.ensures.value c.in_default-holder.is)
          refl,
      tt,
    )

pub returns-in_default-holder-2 : goal.returns-in_default-holder-2
returns-in_default-holder-2 c =
    let now = c.args.self.now in
    let a = c.in-Some.given in
    let part = part_test a.scope c.self.inside.scope c.inside.result c.inside.ensures
    ∙ ap (λ n. is_part a.scope n.scope) c.self.view_is in
    let named = named_at now c.args.i c.entry.ensures.value c.in-Some.is in (
      lift_tested now c.args.i (entry_of a) named part
          ∙ told_next _ _ _ _ (ap not c.if-not-inside.false) refl,
      lift_gives now c.args.i a named
          (held_there now a.scope a.x c.elements_in-elements.ensures.value c.holder.ensures.value c.in-Some-holder.is)
          (held_there now a.scope a.y c.elements_in-elements.ensures.value c.holder-2.ensures.value c.in_default-holder-2.is),
      tt,
    )

pub returns : goal.returns
returns c =
    let now = c.args.self.now in
    let a = c.in-Some.given in
    let part = part_test a.scope c.self.inside.scope c.inside.result c.inside.ensures
    ∙ ap (λ n. is_part a.scope n.scope) c.self.view_is in
    let named = named_at now c.args.i c.entry.ensures.value c.in-Some.is in (
      lift_tested now c.args.i (entry_of a) named part
          ∙ told_next _ _ _ _ (ap not c.if-not-inside.false) refl,
      lift_gives now c.args.i a named
          (held_there now a.scope a.x c.elements_in-elements.ensures.value c.holder.ensures.value c.in-Some-holder.is)
          (held_there now a.scope a.y c.elements_in-elements.ensures.value c.holder-2.ensures.value c.in-Some-holder-2.is)
          ∙ ap Some (sym (c.between.ensures.value ∙ ap (entry_between now a.kind c.in-Some-holder.x c.in-Some-holder-2.y)
          (c.minus-carrier.ensures.value ∙ ap (λ n. without_cells a.carrier n.scope) c.self.view_is))),
      c.between.ensures.given,
    )
