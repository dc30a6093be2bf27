use Rattle.std.proofs.Common.{◌↔◌, IsTrue, inl, inr}
use Rattle.std.proofs.lemmas.Bool.{both_ways}
use Rattle.hex_board.specs.Places.{Near}
use Rattle.hex_board.proofs.Places.{near_from, near_meets, near_test}
use Rattle.hex_board.proofs.tables.Elements.near.Goals as goal

pub returns-then-leads : goal.returns-then-leads
returns-then-leads c =
    let n : IsTrue c.leads.result ↔ Near c.args.self.now c.args.x c.args.y = (
      (λ h. near_from c.args.self.now c.args.x c.args.y c.if-x-y.true (inl (c.leads.ensures.0 c.if-leads.true))),
      (λ n. c.if-leads.true),
    ) in
    record { near = n; value = near_test c.args.self.now c.args.x c.args.y c.leads.result n }

pub returns-else-leads : goal.returns-else-leads
returns-else-leads c =
    let n : IsTrue c.leads-else-leads.result ↔ Near c.args.self.now c.args.x c.args.y = (
      (λ h. near_from c.args.self.now c.args.x c.args.y c.if-x-y.true (inr (c.leads-else-leads.ensures.0 h))),
      (λ n. elim (near_meets c.args.self.now c.args.x c.args.y n) [
        | inl m ↦ absurd (both_ways c.leads.result c.if-leads.false (c.leads.ensures.1 m))
        | inr m ↦ c.leads-else-leads.ensures.1 m
      ]),
    ) in
    record { near = n; value = near_test c.args.self.now c.args.x c.args.y c.leads-else-leads.result n }
