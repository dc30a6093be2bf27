-- The number of the set of a board's empty cells.
use Rattle.std.proofs.Common.{◌≡◌, ℕ, ◌+◌, ◌≤◌, ◌==◌, Bool, true, false, cond, List, [], ◌∷◌}
use Rattle.std.proofs.Common.{count_by, nat_lt, refl, sym, ap, ◌∙◌, ⊎_elim, arith}
use Rattle.std.specs.Prelude.{◌||◌}
use Rattle.std.proofs.Math.Bool.{or-false}
use Rattle.std.proofs.lemmas.Bool.Decides.{nat_tests}
use Rattle.hex_cells.specs.Sets.{has as has_cell}
use Rattle.hex_cells.proofs.Bits.{has_none}
use Rattle.hex_board.specs.Positions.{Position, is_empty_at}
use Rattle.play_out.specs.Fills.{empties_of}
use Rattle.play_out.proofs.Counting.{empties_listed, counted_here, counted_later}
use Rattle.tree_words.specs.Complete.{HasEmpties, set_of}
use Rattle.std.proofs.lemmas.Bool.{eqb-true, eq-eqb, cases_Bool}
use Rattle.tree_words.proofs.Blocks.BlockLaws.{clash}
use Rattle.tree_words.proofs.Boards.EmptyLaws.{has-empties}
use Rattle.hex_cells.proofs.WithCell.{has_with_cell, same_eq}

-- the set of the cells of a list has a cell where the list does
set_items : (cs : List ℕ) (k : ℕ) → has_cell (set_of cs) k ≡ nat_lt 0 (count_by (λ c. c == k) cs)
unfolding set_of
set_items [] k = has_none k
set_items (c ∷ cs) k =
    has_with_cell (set_of cs) c k
    ∙ ap (λ (t : Bool). t || k == c) (set_items cs k)
    ∙ ap (λ (t : Bool). nat_lt 0 (count_by (λ d. d == k) cs) || t) (same_eq k c)
    ∙ ⊎_elim
    (λ (t : (c == k) ≡ true). ap (λ (u : Bool). nat_lt 0 (count_by (λ d. d == k) cs) || u) t
    ∙ here (count_by (λ d. d == k) cs) (count_by (λ d. d == k) (c ∷ cs)) (counted_here k c cs (eqb-true c k t)))
    (λ (t : (c == k) ≡ false). ap (λ (u : Bool). nat_lt 0 (count_by (λ d. d == k) cs) || u) t ∙ or-false (nat_lt 0 (count_by (λ d. d == k) cs))
    ∙ sym (ap (nat_lt 0) (counted_later k c cs (λ e. clash (c == k) (eq-eqb c k e) t))))
    (cases_Bool (c == k))
  where
    here : (n m : ℕ) → m ≡ 1 + n → (nat_lt 0 n || true) ≡ nat_lt 0 m
    here n m e = grind (arith, nat_tests)

pub set_empties : (p : Position) (k : ℕ) → has_cell (set_of (empties_of p)) k ≡ is_empty_at p k
set_empties p k =
    set_items (empties_of p) k
    ∙ ap (nat_lt 0) (empties_listed p k) ∙ by (is_empty_at p k)
  where
    by : (t : Bool) → nat_lt 0 (cond t 1 0) ≡ t
    by true = refl
    by false = refl

-- the set of the empty cells of a board
pub set-has_empties : (p : Position) → p.size ≤ 11 → HasEmpties (set_of (empties_of p)) p
set-has_empties p l = has-empties (set_of (empties_of p)) p l (set_empties p)
