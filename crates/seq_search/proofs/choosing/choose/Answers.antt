use Rattle.std.proofs.Common.{◌≡◌, ◌+◌, ◌-◌, ◌*◌, ◌/◌, ◌<◌, ◌≤◌, ℕ, suc, subst, slice_index}
use Rattle.std.proofs.Common.{List, sym, ap, ◌∙◌, arith}
use Rattle.uct_table.specs.Choice.{Child, score_in}
use Rattle.tree_words.specs.Words.{tally_in, seen_in}
use Rattle.tree_words.specs.Sequence.{child_of, children_in}
use Rattle.uct_table.proofs.Choices.{chosen_from, chosen_first, chosen_here, taken, passed}
use Rattle.seq_search.proofs.Choices.{chosen_last}
use Rattle.seq_search.proofs.choosing.choose.Goals as goal
use Rattle.seq_search.proofs.choosing.choose.Goals.{in-Some, in_default}

pub children-init : goal.children-init
children-init c =
    let p : ℕ = c.args.visits in let w : ℕ = c.args.weight in let y : ℕ = c.args.block + 4 in
    let count : ℕ = slice_index c.args.words.now (c.args.block + 3) in
    let none : 0 ≡ (y - y) / 4 = omega arith in
    let all : count ≡ ((y + 4 * count) - y) / 4 = omega arith in
    record {
      chosen = chosen_first p w (children_in c.args.words.now y count)
          ∙ (λ i. chosen_from p w (none i) (none i) 0 (children_in c.args.words.now y (all i)));
      on = omega arith;
      left = omega arith;
      kept = omega arith;
      below = omega arith;
      fits = omega arith;
    }

pub children-preserved : goal.children-preserved
children-preserved c =
    let p : ℕ = c.args.visits in let w : ℕ = c.args.weight in let y : ℕ = c.args.block + 4 in
    let at : ℕ = c.children.at in let place : ℕ = (at - y) / 4 in
    let best : ℕ = (c.children.best - y) / 4 in let most : ℕ = c.children.most in
    let past : ℕ = y + 4 * slice_index c.args.words.now (c.args.block + 3) in
    let n : ℕ = (past - (at + 4)) / 4 in
    let x : Child = child_of (tally_in c.args.words.now at, seen_in c.args.words.now at) in
    let xs : List Child = children_in c.args.words.now (at + 4) n in
    let some : 0 < x.visits = omega (arith, c.visits_of-own.ensures, c.if-own-eq0.false) in
    let one : (past - at) / 4 ≡ suc n
    = omega (arith, c.children.invariant.left, c.children-test.true) in
    let next : ((at + 4) - y) / 4 ≡ place + 1 = omega (arith, c.children.invariant.on) in
    let pw : ℕ = c.of-parent.result.weight in
    let scored : score_in c.of-parent.result.visits pw x ≡ score_in p w x =
    ap (λ v. score_in v pw x) c.of-parent.ensures.visits
    ∙ ap (λ v. score_in p v x) c.of-parent.ensures.weight in
    record {
      chosen = c.children.invariant.chosen
          ∙ ap (λ m. chosen_from p w place best most (children_in c.args.words.now at m)) one
          ∙ elim c.match-above.branch [
            | in-Some u ↦ taken p w place best most u.in-Some.score x xs some
                (u.in-Some.ensures.above.1 ∙ scored) u.in-Some.ensures.above.0
                ∙ sym (λ i. chosen_from p w (next i) ((u.best-is i - y) / 4) (u.most-is i) xs)
            | in_default u ↦ passed p w place best most x xs some
                (subst (λ k. k ≤ most) scored
                (c.score_above-above.ensures.not_above u.in_default.is))
                ∙ sym (λ i. chosen_from p w (next i) ((u.best-is i - y) / 4) (u.most-is i) xs)
          ];
      on = omega (arith, c.children.invariant.on);
      left = omega (arith, c.children.invariant.left, c.children-test.true);
      kept = elim c.match-above.branch [
        | in-Some u ↦ omega (arith, c.children.invariant.on)
        | in_default u ↦ omega (arith, c.children.invariant.kept)
      ];
      below = elim c.match-above.branch [
        | in-Some u ↦ omega arith
        | in_default u ↦ omega arith
      ];
      fits = elim c.match-above.branch [
        | in-Some u ↦ omega arith
        | in_default u ↦ omega arith
      ];
    }

pub returns-then-own-eq0 : goal.returns-then-own-eq0
returns-then-own-eq0 c =
    let p : ℕ = c.args.visits in let w : ℕ = c.args.weight in let y : ℕ = c.args.block + 4 in
    let at : ℕ = c.children.at in let place : ℕ = (at - y) / 4 in
    let best : ℕ = (c.children.best - y) / 4 in let most : ℕ = c.children.most in
    let past : ℕ = y + 4 * slice_index c.args.words.now (c.args.block + 3) in
    let n : ℕ = (past - (at + 4)) / 4 in
    let x : Child = child_of (tally_in c.args.words.now at, seen_in c.args.words.now at) in
    let xs : List Child = children_in c.args.words.now (at + 4) n in
    let one : (past - at) / 4 ≡ suc n
    = omega (arith, c.children.invariant.left, c.children-test.true) in
    sym (c.children.invariant.chosen
    ∙ ap (λ m. chosen_from p w place best most (children_in c.args.words.now at m)) one
    ∙ chosen_here p w place best most x xs (sym c.visits_of-own.ensures ∙ c.if-own-eq0.true))

pub returns : goal.returns
returns c =
    let y : ℕ = c.args.block + 4 in
    let past : ℕ = y + 4 * slice_index c.args.words.now (c.args.block + 3) in
    sym (c.children.invariant.chosen
    ∙ chosen_last c.args.visits c.args.weight ((c.children.at - y) / 4)
    ((c.children.best - y) / 4) c.children.most c.args.words.now c.children.at
    ((past - c.children.at) / 4) (omega (arith, c.children-test.false)))
