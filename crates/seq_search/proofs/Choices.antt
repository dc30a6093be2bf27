-- A block whose children were all looked at.
use Rattle.std.proofs.Common.{◌≡◌, ℕ, ◌+◌, cond, nat_lt, List, ap, ◌∙◌}
use Rattle.std.proofs.Common.{arith}
use Rattle.tree_words.specs.Sequence.{children_in}
use Rattle.uct_table.proofs.Choices.{chosen_from}

pub chosen_last : (p c place best most : ℕ) (words : List ℕ) (y n : ℕ) → n ≡ 0
    → chosen_from p c place best most (children_in words y n) ≡ best
chosen_last p c place best most words y n e
    = ap (λ m. chosen_from p c place best most (children_in words y m)) e ∙ none most best
  where
    none : (most best : ℕ) → cond (nat_lt most 0) (place + 0) best ≡ best
    none most best = grind arith
