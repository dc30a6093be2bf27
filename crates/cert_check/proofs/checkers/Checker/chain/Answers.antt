use Rattle.std.proofs.Common.{◌==◌, [], ◌∷◌, not, ap, sym, ◌∙◌, subst}
use Rattle.std.specs.List.{list_all}
use Rattle.std.specs.Option.{option_map}
use Rattle.std.specs.Option.{IfSome}
use Rattle.win_cert.specs.declared.statements.Statement.TheVariants.{Derivation}
use Rattle.cert_check.specs.Keeping.{IsGivenOn, chain_line, entry_of}
use Rattle.cert_check.proofs.ChainReasons.{chain_bad, chain_scopes, chain_takes, two_scopes}
use Rattle.cert_check.proofs.ReasonLaws.{chain_reasons, kept_scope, missing, missing_next}
use Rattle.cert_check.proofs.ReasonLaws.{told_first, told_next}
use Rattle.cert_check.proofs.checkers.Checker.chain.Goals as goal
use Rattle.win_cert.proofs.CutChains.{two_at}

pub returns-then-not-takes_all : goal.returns-then-not-takes_all
returns-then-not-takes_all c =
    let o = c.args.over_cell in
    let s = Derivation (chain_line o c.args.i c.args.j) in
    chain_reasons c.args.self.now o c.args.i c.args.j ∙ told_first _ _ _
    (chain_bad c.args.self.now o c.args.i c.args.j c.takes_all.result (c.takes_all.ensures s (chain_takes o c.args.i c.args.j))
    ∙ ap not c.if-not-takes_all.true)

pub returns-then-not-are_in_scope : goal.returns-then-not-are_in_scope
returns-then-not-are_in_scope c =
    let now = c.args.self.now in
    let o = c.args.over_cell in
    let s = Derivation (chain_line o c.args.i c.args.j) in
    let scope = kept_scope (c.args.i ∷ c.args.j ∷ []) c.self.view_is c.are_in_scope.ensures in
    chain_reasons now o c.args.i c.args.j ∙ told_next _ _ _ _
    (chain_bad now o c.args.i c.args.j c.takes_all.result (c.takes_all.ensures s (chain_takes o c.args.i c.args.j)) ∙ ap not c.if-not-takes_all.false)
    (told_first _ _ _ (chain_scopes now o c.args.i c.args.j c.are_in_scope.result scope ∙ ap not c.if-not-are_in_scope.true))

pub returns-in_default : goal.returns-in_default
returns-in_default c =
    let s = Derivation (chain_line c.args.over_cell c.args.i c.args.j) in
    absurd (missing c.args.self.now s c.args.i (c.args.j ∷ []) (sym (c.takes_all.ensures s (chain_takes c.args.over_cell c.args.i c.args.j))
    ∙ c.if-not-takes_all.false)
    (sym c.entry.ensures.value ∙ ap (option_map entry_of) c.in_default.is))

pub returns-in_default-entry : goal.returns-in_default-entry
returns-in_default-entry c =
    let s = Derivation (chain_line c.args.over_cell c.args.i c.args.j) in
    absurd (missing_next c.args.self.now s c.args.i c.args.j [] (sym (c.takes_all.ensures s (chain_takes c.args.over_cell c.args.i c.args.j))
    ∙ c.if-not-takes_all.false)
    (sym c.entry-2.ensures.value ∙ ap (option_map entry_of) c.in_default-entry.is))

pub join-requires : goal.join-requires
join-requires c =
    let now = c.args.self.now in
    let o = c.args.over_cell in
    let s = Derivation (chain_line o c.args.i c.args.j) in
    let scope = kept_scope (c.args.i ∷ c.args.j ∷ []) c.self.view_is c.are_in_scope.ensures in
    let first = sym c.entry.ensures.value ∙ ap (option_map entry_of) c.in-Some.is in
    let second = sym c.entry-2.ensures.value ∙ ap (option_map entry_of) c.in-Some-entry.is in
    let scopes = two_scopes (entry_of c.in-Some.a) (entry_of c.in-Some-entry.b) now.scope
    (ap (list_all (λ a. a.scope == now.scope)) (sym (two_at now c.args.i c.args.j _ _ first second)) ∙ sym scope ∙ c.if-not-are_in_scope.false) in
    record {
      named = record {
        first = first;
        second = second;
        references = chain_bad now o c.args.i c.args.j c.takes_all.result
            (c.takes_all.ensures s (chain_takes o c.args.i c.args.j))
            ∙ ap not c.if-not-takes_all.false;
        scopes = chain_scopes now o c.args.i c.args.j c.are_in_scope.result scope
            ∙ ap not c.if-not-are_in_scope.false;
        first_scope = scopes.0;
        second_scope = scopes.1;
        first_given = subst (λ o. IfSome o (IsGivenOn now.base)) c.in-Some.is c.entry.ensures.given;
        second_given
            = subst (λ o. IfSome o (IsGivenOn now.base)) c.in-Some-entry.is c.entry-2.ensures.given;
      };
    }
