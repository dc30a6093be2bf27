use Rattle.std.proofs.Common.{◌≡◌, ℕ, Bool, true, false, ◌||◌, ◌↔◌, not, Option, Some, None, refl}
use Rattle.std.proofs.Common.{ap, sym, ◌∙◌}
use Rattle.std.proofs.lemmas.Bool.{false_from_ne_true, or_from, or_right}
use Rattle.hex_board.specs.Places.{is_near}
use Rattle.conn_store.specs.declared.entries.Kind.TheVariants.{Full}
use Rattle.win_cert.specs.Entries.{adj_entry, elements_at, end_element, entry_between}
use Rattle.win_cert.specs.Statements.{are_near, is_other_stone}
use Rattle.cert_check.proofs.ReasonLaws.{adj_reasons, told_first, told_next}
use Rattle.cert_check.proofs.checkers.Checker.adj.Goals as goal

own : (o : Option ℕ) (a : ℕ) (b : Bool) → o ≡ Some a → ((o ≡ None) ↔ (b ≡ true)) → b ≡ false
own o a b e h = false_from_ne_true b (λ t. absurd (cc (e, h.1 t)))

pub returns-in_default : goal.returns-in_default
returns-in_default c =
    let now = c.args.self.now in
    adj_reasons now c.args.x c.args.y ∙ told_first _ _ _
    (ap (λ t. t || is_other_stone (elements_at now) c.args.y) (c.element.ensures.other.0 c.in_default.is))

pub returns-in_default-element : goal.returns-in_default-element
returns-in_default-element c =
    let now = c.args.self.now in
    adj_reasons now c.args.x c.args.y ∙ told_first _ _ _
    (or_right (is_other_stone (elements_at now) c.args.x) (is_other_stone (elements_at now) c.args.y) (c.element-2.ensures.other.0 c.in_default-element.is))

pub returns-then-not-near : goal.returns-then-not-near
returns-then-not-near c =
    let now = c.args.self.now in
    let at : c.self.inside.elements ≡ elements_at now = c.self.invariant.are_elements
    ∙ ap elements_at c.self.view_is in
    let x = sym c.element.ensures.value ∙ c.in-Some.is in
    let y = sym c.element-2.ensures.value ∙ c.in-Some-element.is in
    adj_reasons now c.args.x c.args.y
    ∙ told_next _ _ _ _
    (or_from (is_other_stone (elements_at now) c.args.x) (is_other_stone (elements_at now) c.args.y)
    (own c.element.result c.in-Some.a _ c.in-Some.is c.element.ensures.other)
    (own c.element-2.result c.in-Some-element.b _ c.in-Some-element.is c.element-2.ensures.other))
    (told_first _ _ _ (ap (λ o. not (are_near (elements_at now) o (end_element (elements_at now) c.args.y))) x
    ∙ ap (λ o. not (are_near (elements_at now) (Some c.in-Some.a) o)) y
    ∙ ap not (ap (λ e. is_near e c.in-Some.a c.in-Some-element.b) (sym at) ∙ sym c.near.ensures.value ∙ c.if-not-near.true)))

pub returns : goal.returns
returns c =
    let now = c.args.self.now in
    let at : c.self.inside.elements ≡ elements_at now = c.self.invariant.are_elements
    ∙ ap elements_at c.self.view_is in
    let x = sym c.element.ensures.value ∙ c.in-Some.is in
    let y = sym c.element-2.ensures.value ∙ c.in-Some-element.is in (
      adj_reasons now c.args.x c.args.y
          ∙ told_next _ _ _ _
          (or_from (is_other_stone (elements_at now) c.args.x) (is_other_stone (elements_at now) c.args.y)
          (own c.element.result c.in-Some.a _ c.in-Some.is c.element.ensures.other)
          (own c.element-2.result c.in-Some-element.b _ c.in-Some-element.is c.element-2.ensures.other))
          (told_next _ _ _ _ (ap (λ o. not (are_near (elements_at now) o (end_element (elements_at now) c.args.y))) x
          ∙ ap (λ o. not (are_near (elements_at now) (Some c.in-Some.a) o)) y
          ∙ ap not (ap (λ e. is_near e c.in-Some.a c.in-Some-element.b) (sym at) ∙ sym c.near.ensures.value ∙ c.if-not-near.false)) refl),
      ap (λ o. adj_entry now o (end_element (elements_at now) c.args.y)) x
          ∙ ap (λ o. adj_entry now (Some c.in-Some.a) o) y
          ∙ ap Some (sym (c.between.ensures.value ∙ ap (entry_between now Full c.in-Some.a c.in-Some-element.b) c.none.ensures.value)),
      c.between.ensures.given,
    )
