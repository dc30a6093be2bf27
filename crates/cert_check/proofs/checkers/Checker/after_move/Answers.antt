use Rattle.std.proofs.Common.{[], ◌∷◌, not, Some, refl, ap, sym, ◌∙◌}
use Rattle.std.specs.List.{cons_option}
use Rattle.std.specs.Option.{option_map}
use Rattle.hex_cells.specs.Sets.{with_cell}
use Rattle.hex_board.specs.Positions.{is_empty_at}
use Rattle.conn_store.specs.declared.entries.Kind.TheVariants.{Semi}
use Rattle.win_cert.specs.Entries.{edge_entry, elements_at, move_entry}
use Rattle.win_cert.specs.declared.statements.Statement.TheVariants.{Derivation}
use Rattle.win_cert.specs.declared.lines.Line.TheVariants.{Move}
use Rattle.cert_check.specs.Keeping.{entry_of}
use Rattle.cert_check.proofs.ReasonLaws.{missing, move_tested, scope_is, told_first, told_next}
use Rattle.cert_check.proofs.checkers.Checker.after_move.Goals as goal

pub returns-then-not-takes_all : goal.returns-then-not-takes_all
returns-then-not-takes_all c =
    move_tested c.args.self.now c.args.cell c.args.i
    (c.takes_all.ensures (Derivation (Move c.args.cell c.args.i)) (refl, refl)) refl refl refl
    ∙ told_first _ _ _ (ap not c.if-not-takes_all.true)

pub returns-then-not-has : goal.returns-then-not-has
returns-then-not-has c =
    let board = c.self.invariant.is_board ∙ ap (λ n. (elements_at n).board) c.self.view_is in
    let empty = c.has.ensures ∙ c.empties.ensures c.args.cell
    ∙ ap (λ p. is_empty_at p c.args.cell) board in
    move_tested c.args.self.now c.args.cell c.args.i
    (c.takes_all.ensures (Derivation (Move c.args.cell c.args.i)) (refl, refl)) empty refl refl
    ∙ told_next _ _ _ _ (ap not c.if-not-takes_all.false)
    (told_first _ _ _ (ap not c.if-not-has.true))

pub returns-then-not-are_in_scope : goal.returns-then-not-are_in_scope
returns-then-not-are_in_scope c =
    let now = c.args.self.now in
    let board = c.self.invariant.is_board ∙ ap (λ n. (elements_at n).board) c.self.view_is in
    let empty = c.has.ensures ∙ c.empties.ensures c.args.cell
    ∙ ap (λ p. is_empty_at p c.args.cell) board in
    let inside = scope_is now (c.args.i ∷ [])
    (c.with.ensures.value ∙ ap (λ n. with_cell n.scope c.args.cell) c.self.view_is) c.are_in_scope.ensures in
    move_tested now c.args.cell c.args.i
    (c.takes_all.ensures (Derivation (Move c.args.cell c.args.i)) (refl, refl)) empty inside refl
    ∙ told_next _ _ _ _ (ap not c.if-not-takes_all.false)
    (told_next _ _ _ _ (ap not c.if-not-has.false)
    (told_first _ _ _ (ap not c.if-not-are_in_scope.true)))

pub returns-then-not-are_of_edges : goal.returns-then-not-are_of_edges
returns-then-not-are_of_edges c =
    let now = c.args.self.now in
    let board = c.self.invariant.is_board ∙ ap (λ n. (elements_at n).board) c.self.view_is in
    let empty = c.has.ensures ∙ c.empties.ensures c.args.cell
    ∙ ap (λ p. is_empty_at p c.args.cell) board in
    let inside = scope_is now (c.args.i ∷ [])
    (c.with.ensures.value ∙ ap (λ n. with_cell n.scope c.args.cell) c.self.view_is) c.are_in_scope.ensures in
    move_tested now c.args.cell c.args.i
    (c.takes_all.ensures (Derivation (Move c.args.cell c.args.i)) (refl, refl)) empty inside c.are_of_edges.ensures
    ∙ told_next _ _ _ _ (ap not c.if-not-takes_all.false)
    (told_next _ _ _ _ (ap not c.if-not-has.false)
    (told_next _ _ _ _ (ap not c.if-not-are_in_scope.false) (told_first _ _ _ (ap not c.if-not-are_of_edges.true))))

pub returns-in-Some : goal.returns-in-Some
returns-in-Some c =
    let now = c.args.self.now in
    let board = c.self.invariant.is_board ∙ ap (λ n. (elements_at n).board) c.self.view_is in
    let empty = c.has.ensures ∙ c.empties.ensures c.args.cell
    ∙ ap (λ p. is_empty_at p c.args.cell) board in
    let inside = scope_is now (c.args.i ∷ [])
    (c.with.ensures.value ∙ ap (λ n. with_cell n.scope c.args.cell) c.self.view_is) c.are_in_scope.ensures in
    let named = sym c.entry.ensures.value ∙ ap (option_map entry_of) c.in-Some.is in (
      move_tested now c.args.cell c.args.i
          (c.takes_all.ensures (Derivation (Move c.args.cell c.args.i)) (refl, refl)) empty inside c.are_of_edges.ensures
          ∙ told_next _ _ _ _ (ap not c.if-not-takes_all.false)
          (told_next _ _ _ _ (ap not c.if-not-has.false)
          (told_next _ _ _ _ (ap not c.if-not-are_in_scope.false) (told_next _ _ _ _ (ap not c.if-not-are_of_edges.false) refl))),
      ap (λ o. move_entry now c.args.cell (cons_option o [])) named
          ∙ ap Some (sym (c.of_edges.ensures.value ∙ ap (edge_entry now Semi) c.with-in-Some.ensures.value)),
      c.of_edges.ensures.given,
    )

pub returns-in-None : goal.returns-in-None
returns-in-None c =
    let s = Derivation (Move c.args.cell c.args.i) in
    absurd (missing c.args.self.now s c.args.i [] (sym (c.takes_all.ensures s (refl, refl)) ∙ c.if-not-takes_all.false)
    (sym c.entry.ensures.value ∙ ap (option_map entry_of) c.in-None.is))
