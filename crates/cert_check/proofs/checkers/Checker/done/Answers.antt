use Rattle.std.proofs.Common.{◌≡◌, ℕ, Bool, true, false, not, Some, refl, ap, sym, ◌∙◌}
use Rattle.std.proofs.Common.{if◌then◌else◌}
use Rattle.conn_store.specs.declared.entries.Kind.TheVariants.{Full}
use Rattle.hex_board.specs.Elements.{are_joined, edge_element}
use Rattle.win_cert.specs.Entries.{edge_entry, elements_at}
use Rattle.cert_check.proofs.ReasonLaws.{done_reasons, told_first, told_next}
use Rattle.cert_check.proofs.checkers.Checker.done.Goals as goal

-- the number of an edge element
abbrev number_where : Bool → ℕ
number_where b = if b then 0 else 1

zero_where : (b : Bool) → number_where b ≡ 0 → b ≡ true
zero_where true h = refl
zero_where false h = absurd (cc)

one_where : (b : Bool) → (number_where b ≡ 0 → ⊥) → b ≡ false
one_where true h = absurd (h refl)
one_where false h = refl

pub returns-then-edge-eq0 : goal.returns-then-edge-eq0
returns-then-edge-eq0 c =
    let now = c.args.self.now in
    let at : c.self.inside.elements ≡ elements_at now = c.self.invariant.are_elements
    ∙ ap elements_at c.self.view_is in
    let edge : edge_element (elements_at now) true ≡ 0
    = sym (c.edge.ensures.value ∙ ap (λ e. edge_element e true) at) ∙ c.if-edge-eq0.true in (
      done_reasons now
          ∙ told_next _ _ _ _ (ap not (zero_where (are_joined (elements_at now)) edge)) refl,
      ap Some (sym (c.of_edges.ensures.value ∙ ap (edge_entry now Full) c.none.ensures.value)),
      c.of_edges.ensures.given,
    )

pub returns-else-edge-eq0 : goal.returns-else-edge-eq0
returns-else-edge-eq0 c =
    let now = c.args.self.now in
    let at : c.self.inside.elements ≡ elements_at now = c.self.invariant.are_elements
    ∙ ap elements_at c.self.view_is in
    done_reasons now ∙ told_first _ _ _ (ap not (one_where (are_joined (elements_at now))
    (λ e. c.if-edge-eq0.false (c.edge.ensures.value ∙ ap (λ e. edge_element e true) at ∙ e))))
