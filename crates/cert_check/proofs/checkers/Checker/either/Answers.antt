use Rattle.std.proofs.Common.{not, ap, sym, ◌∙◌, refl}
use Rattle.std.specs.List.{list_all}
use Rattle.std.specs.Option.{option_map}
use Rattle.win_cert.specs.Entries.{entries_at, entry_at}
use Rattle.win_cert.specs.Statements.{may_take}
use Rattle.win_cert.specs.declared.statements.Statement.TheVariants.{Derivation}
use Rattle.cert_check.specs.Keeping.{entry_of}
use Rattle.cert_check.proofs.OrReasons.{first_ends, named_first, or_given, or_takes, or_tested}
use Rattle.cert_check.proofs.OrReasons.{same_as_first}
use Rattle.cert_check.proofs.ReasonLaws.{kept_scope, missing, told_first, told_next}
use Rattle.cert_check.proofs.checkers.Checker.either.Goals as goal

pub returns-then-not-takes_all : goal.returns-then-not-takes_all
returns-then-not-takes_all c line h =
    let numbers = c.args.numbers.now in
    or_tested c.args.self.now line numbers h
    (c.takes_all.ensures (Derivation line) (or_takes line numbers h)) refl refl refl
    ∙ told_first _ _ _ (ap not c.if-not-takes_all.true)

pub returns-then-not-are_in_scope : goal.returns-then-not-are_in_scope
returns-then-not-are_in_scope c line h =
    let numbers = c.args.numbers.now in
    let taken = c.takes_all.ensures (Derivation line) (or_takes line numbers h) in
    or_tested c.args.self.now line numbers h taken
    (kept_scope numbers c.self.view_is c.are_in_scope.ensures) refl refl
    ∙ told_next _ _ _ _ (ap not c.if-not-takes_all.false)
    (told_first _ _ _ (ap not c.if-not-are_in_scope.true))

pub returns-in_default : goal.returns-in_default
returns-in_default c line h =
    let now = c.args.self.now in
    let s = Derivation line in
    absurd (missing now s c.args.first c.requires.0
    (ap (list_all (λ i. may_take s (entry_at now i))) (sym c.requires.1) ∙ sym (c.takes_all.ensures s (or_takes line c.args.numbers.now h))
    ∙ c.if-not-takes_all.false)
    (sym c.entry.ensures.value ∙ ap (option_map entry_of) c.in_default.is))

pub returns-then-not-have_ends_of : goal.returns-then-not-have_ends_of
returns-then-not-have_ends_of c line h =
    let now = c.args.self.now in
    let numbers = c.args.numbers.now in
    let taken = c.takes_all.ensures (Derivation line) (or_takes line numbers h) in
    let named = named_first now c.requires.1 c.entry.ensures.value c.in-Some.is in
    let same = c.have_ends_of.ensures ∙ same_as_first _ _ _ named in
    or_tested now line numbers h taken
    (kept_scope numbers c.self.view_is c.are_in_scope.ensures) same refl
    ∙ told_next _ _ _ _ (ap not c.if-not-takes_all.false)
    (told_next _ _ _ _ (ap not c.if-not-are_in_scope.false)
    (told_first _ _ _ (ap not c.if-not-have_ends_of.true)))

pub returns-then-shares_cell : goal.returns-then-shares_cell
returns-then-shares_cell c line h =
    let now = c.args.self.now in
    let numbers = c.args.numbers.now in
    let taken = c.takes_all.ensures (Derivation line) (or_takes line numbers h) in
    let named = named_first now c.requires.1 c.entry.ensures.value c.in-Some.is in
    let same = c.have_ends_of.ensures ∙ same_as_first _ _ _ named in
    or_tested now line numbers h taken
    (kept_scope numbers c.self.view_is c.are_in_scope.ensures) same c.shares_cell.ensures
    ∙ told_next _ _ _ _ (ap not c.if-not-takes_all.false)
    (told_next _ _ _ _ (ap not c.if-not-are_in_scope.false)
    (told_next _ _ _ _ (ap not c.if-not-have_ends_of.false) (told_first _ _ _ c.if-shares_cell.true)))

pub between-requires-clause-a : goal.between-requires-clause-a
between-requires-clause-a c =
    let now = c.args.self.now in
    let numbers = c.args.numbers.now in
    let named = named_first now c.requires.1 c.entry.ensures.value c.in-Some.is in
    (first_ends now (entries_at now numbers) named (kept_scope numbers c.self.view_is c.are_in_scope.ensures) c.if-not-are_in_scope.false c.in-Some.is
    c.entry.ensures.given).0

pub between-requires-clause-b : goal.between-requires-clause-b
between-requires-clause-b c =
    let now = c.args.self.now in
    let numbers = c.args.numbers.now in
    let named = named_first now c.requires.1 c.entry.ensures.value c.in-Some.is in
    (first_ends now (entries_at now numbers) named (kept_scope numbers c.self.view_is c.are_in_scope.ensures) c.if-not-are_in_scope.false c.in-Some.is
    c.entry.ensures.given).1

pub returns : goal.returns
returns c line h =
    let now = c.args.self.now in
    let numbers = c.args.numbers.now in
    let taken = c.takes_all.ensures (Derivation line) (or_takes line numbers h) in
    let named = named_first now c.requires.1 c.entry.ensures.value c.in-Some.is in
    let same = c.have_ends_of.ensures ∙ same_as_first _ _ _ named in (
      or_tested now line numbers h taken
          (kept_scope numbers c.self.view_is c.are_in_scope.ensures) same c.shares_cell.ensures
          ∙ told_next _ _ _ _ (ap not c.if-not-takes_all.false)
          (told_next _ _ _ _ (ap not c.if-not-are_in_scope.false)
          (told_next _ _ _ _ (ap not c.if-not-have_ends_of.false) (told_next _ _ _ _ c.if-shares_cell.false refl))),
      or_given now line numbers c.in-Some.a h named c.carriers.ensures c.between.ensures.value,
      c.between.ensures.given,
    )
