use Rattle.std.proofs.Common.{[], ◌∷◌, not, refl, ap, sym, ◌∙◌}
use Rattle.std.specs.Option.{option_map}
use Rattle.win_cert.specs.declared.statements.Statement.TheVariants.{Claim}
use Rattle.cert_check.specs.Keeping.{entry_of}
use Rattle.cert_check.proofs.ReasonLaws.{claim_tested, missing, scope_is, told_first, told_next}
use Rattle.cert_check.proofs.checkers.Checker.claimed.Goals as goal

pub returns-then-not-takes_all : goal.returns-then-not-takes_all
returns-then-not-takes_all c =
    claim_tested c.args.self.now c.args.kind c.args.i
    (c.takes_all.ensures (Claim c.args.kind c.args.i) (refl, refl)) refl refl
    ∙ told_first _ _ _ (ap not c.if-not-takes_all.true)

pub returns-then-not-are_in_scope : goal.returns-then-not-are_in_scope
returns-then-not-are_in_scope c =
    let now = c.args.self.now in
    let inside = scope_is now (c.args.i ∷ []) c.none.ensures.value c.are_in_scope.ensures in
    claim_tested now c.args.kind c.args.i
    (c.takes_all.ensures (Claim c.args.kind c.args.i) (refl, refl)) inside refl
    ∙ told_next _ _ _ _ (ap not c.if-not-takes_all.false)
    (told_first _ _ _ (ap not c.if-not-are_in_scope.true))

pub returns-then-not-are_of_edges : goal.returns-then-not-are_of_edges
returns-then-not-are_of_edges c =
    let now = c.args.self.now in
    let inside = scope_is now (c.args.i ∷ []) c.none.ensures.value c.are_in_scope.ensures in
    claim_tested now c.args.kind c.args.i
    (c.takes_all.ensures (Claim c.args.kind c.args.i) (refl, refl)) inside c.are_of_edges.ensures
    ∙ told_next _ _ _ _ (ap not c.if-not-takes_all.false)
    (told_next _ _ _ _ (ap not c.if-not-are_in_scope.false)
    (told_first _ _ _ (ap not c.if-not-are_of_edges.true)))

pub returns-in-Some : goal.returns-in-Some
returns-in-Some c =
    let now = c.args.self.now in
    let inside = scope_is now (c.args.i ∷ []) c.none.ensures.value c.are_in_scope.ensures in (
      claim_tested now c.args.kind c.args.i
          (c.takes_all.ensures (Claim c.args.kind c.args.i) (refl, refl)) inside c.are_of_edges.ensures
          ∙ told_next _ _ _ _ (ap not c.if-not-takes_all.false)
          (told_next _ _ _ _ (ap not c.if-not-are_in_scope.false)
          (told_next _ _ _ _ (ap not c.if-not-are_of_edges.false) refl)),
      sym c.entry.ensures.value ∙ ap (option_map entry_of) c.in-Some.is,
    )

pub returns-in-None : goal.returns-in-None
returns-in-None c =
    let s = Claim c.args.kind c.args.i in
    absurd (missing c.args.self.now s c.args.i [] (sym (c.takes_all.ensures s (refl, refl)) ∙ c.if-not-takes_all.false)
    (sym c.entry.ensures.value ∙ ap (option_map entry_of) c.in-None.is))
