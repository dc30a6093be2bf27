use Rattle.std.proofs.Common.{◌≡◌, All, sym, ◌∙◌, ap, subst, arith}
use Rattle.std.proofs.lemmas.Bool.{both_ways}
use Rattle.hex_cells.specs.Sets.{has}
use Rattle.hex_cells.proofs.Bits.{has_none}
use Rattle.win_cert.specs.Scopes.{with_stones}
use Rattle.cert_check.specs.Keeping.{IsGivenOnIf}
use Rattle.cert_check.proofs.checkers.Checker.new.Goals as goal
use Rattle.win_cert.proofs.CutSteps.{with_none}

pub invariant_of-result : goal.invariant_of-result
invariant_of-result c =
    let b = c.args.base.now in
    let p = c.args.player in
    let e : b ≡ with_stones b p c.none.result
    = sym (ap (with_stones b p) c.none.ensures.value ∙ with_none b p) in
    record {
      is_board = e;
      are_elements = c.elements.ensures ∙ ap (λ (q : _). record { board = q; player = p }) e;
      fresh = λ k h. absurd
          (both_ways (has c.none.result k) (ap (λ s. has s k) c.none.ensures.value ∙ has_none k) h);
      are_given = subst (All (IsGivenOnIf (record { board = b; player = p })))
          (sym c.in_ok-with_capacity.ensures.items) (λ k d l. absurd (omega (arith, l)));
    }
