use Rattle.std.proofs.Common.{◌≡◌, ℕ, true, false, Some, sym, ap, ◌∙◌, subst, inl, inr}
use Rattle.hex_cells.specs.Sets.{has}
use Rattle.hex_board.specs.Positions.{is_empty_at}
use Rattle.std.proofs.lemmas.Bool.{both_ways}
use Rattle.hex_board.specs.Elements.{element_of, head_element}
use Rattle.hex_board.specs.ElementTables.{IsNumbered}
use Rattle.hex_board.proofs.Parts.{head_out, head_in, of_free, single_in, single_out}
use Rattle.hex_board.proofs.numbering.Numbering.headed.Goals as goal

pub returns-then-has : goal.returns-then-has
returns-then-has c =
    let i : IsNumbered c.args.self.now c.self.inside.joined c.self.inside.first c.self.inside.second c.self.inside.heads =
    subst (λ v. IsNumbered v c.self.inside.joined c.self.inside.first c.self.inside.second c.self.inside.heads) c.self.view_is c.self.invariant in
    let free : (k : ℕ) → has c.empties.result k ≡ is_empty_at c.args.self.now.board k
    = λ k. c.empties.ensures k ∙ ap (λ v. is_empty_at v.board k) c.self.view_is in
    let here : is_empty_at c.args.self.now.board c.args.head ≡ true = sym (free c.args.head)
    ∙ (sym c.has.ensures ∙ c.if-has.true) in
    λ k. (
      (λ h. subst (λ v. element_of c.args.self.now v ≡ Some (head_element c.args.self.now c.args.head))
          (sym (single_out c.with.result c.none.result c.args.head k (c.with.ensures.items k) (c.none.ensures.items k) h))
          (of_free c.args.self.now c.args.head here)),
      (λ q. elim (head_out c.args.self.now c.self.inside.heads c.args.head k i.on_board i.headed c.requires q) [
        | inl t ↦ single_in c.with.result c.none.result c.args.head k (c.with.ensures.items k) t.1
        | inr t ↦ absurd (both_ways (is_empty_at c.args.self.now.board c.args.head) t.0 here)
      ]),
    )

pub returns-else-has : goal.returns-else-has
returns-else-has c =
    let i : IsNumbered c.args.self.now c.self.inside.joined c.self.inside.first c.self.inside.second c.self.inside.heads =
    subst (λ v. IsNumbered v c.self.inside.joined c.self.inside.first c.self.inside.second c.self.inside.heads) c.self.view_is c.self.invariant in
    let free : (k : ℕ) → has c.empties.result k ≡ is_empty_at c.args.self.now.board k
    = λ k. c.empties.ensures k ∙ ap (λ v. is_empty_at v.board k) c.self.view_is in
    let full : is_empty_at c.args.self.now.board c.args.head ≡ false = sym (free c.args.head)
    ∙ (sym c.has.ensures ∙ c.if-has.false) in
    λ k. (
      (λ h. head_in c.args.self.now c.args.head k i.on_board c.requires full (sym (c.linked.ensures k) ∙ h)),
      (λ q. elim (head_out c.args.self.now c.self.inside.heads c.args.head k i.on_board i.headed c.requires q) [
        | inl t ↦ absurd (both_ways (is_empty_at c.args.self.now.board c.args.head) full t.0)
        | inr t ↦ c.linked.ensures k ∙ t.1
      ]),
    )
