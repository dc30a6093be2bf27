use Rattle.std.proofs.Common.{sym, ◌∙◌, arith, subst, inl, inr}
use Rattle.hex_cells.specs.Sets.{has}
use Rattle.std.proofs.lemmas.Bool.{both_ways, or_cases, or_left, or_right}
use Rattle.hex_board.specs.Elements.{are_joined}
use Rattle.hex_board.specs.ElementTables.{IsNumbered}
use Rattle.hex_board.proofs.Parts.{zero_out, zero_in, one_out, one_in, of_first, only_second}
use Rattle.hex_board.proofs.numbering.Numbering.cells.Goals as goal

pub returns-then-self : goal.returns-then-self
returns-then-self c =
    let i : IsNumbered c.args.self.now c.self.inside.joined c.self.inside.first c.self.inside.second c.self.inside.heads =
    subst (λ v. IsNumbered v c.self.inside.joined c.self.inside.first c.self.inside.second c.self.inside.heads) c.self.view_is c.self.invariant in
    rw c.if-element-eq0.true (λ k. (
      (λ h. elim (or_cases (has c.self.inside.first k) (has c.self.inside.second k) (sym (c.union.ensures.items k) ∙ h)) [
        | inl t ↦ of_first c.args.self.now k (sym (i.to_first k) ∙ t)
        | inr t ↦ zero_in c.args.self.now k (sym i.joins ∙ c.if-self.true) (sym (i.to_second k) ∙ t)
      ]),
      (λ q. c.union.ensures.items k ∙ elim (zero_out c.args.self.now k i.on_board q) [
        | inl t ↦ or_left (has c.self.inside.first k) (has c.self.inside.second k)
            (i.to_first k ∙ t)
        | inr t ↦ or_right (has c.self.inside.first k) (has c.self.inside.second k)
            (i.to_second k ∙ t.1)
      ]),
    ))

pub returns-else-self : goal.returns-else-self
returns-else-self c =
    let i : IsNumbered c.args.self.now c.self.inside.joined c.self.inside.first c.self.inside.second c.self.inside.heads =
    subst (λ v. IsNumbered v c.self.inside.joined c.self.inside.first c.self.inside.second c.self.inside.heads) c.self.view_is c.self.invariant in
    rw c.if-element-eq0.true (λ k. (
      (λ h. of_first c.args.self.now k (sym (i.to_first k) ∙ h)),
      (λ q. elim (zero_out c.args.self.now k i.on_board q) [
        | inl t ↦ i.to_first k ∙ t
        | inr t ↦ absurd
            (both_ways (are_joined c.args.self.now) (sym i.joins ∙ c.if-self.false) t.0)
      ]),
    ))

pub returns-then-from-edge_elements : goal.returns-then-from-edge_elements
returns-then-from-edge_elements c =
    let i : IsNumbered c.args.self.now c.self.inside.joined c.self.inside.first c.self.inside.second c.self.inside.heads =
    subst (λ v. IsNumbered v c.self.inside.joined c.self.inside.first c.self.inside.second c.self.inside.heads) c.self.view_is c.self.invariant in
    let low = only_second (are_joined c.args.self.now) c.args.element c.if-element-eq0.false
    (omega arith) in
    rw low.0 (λ k. (
      (λ h. one_in c.args.self.now k low.1 (sym (i.to_second k) ∙ h)),
      (λ q. i.to_second k ∙ one_out c.args.self.now k i.on_board low.1 q),
    ))
