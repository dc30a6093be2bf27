-- A line so far, and the cells that are free for its next move.
use Rattle.std.proofs.Common.{◌≡◌, ◌≢◌, ℕ, ◌==◌, ◌&&◌, not, true, List, [], ◌∷◌, ◌++◌}
use Rattle.std.proofs.Common.{All, sym, ◌∙◌, subst, arith}
use Rattle.std.proofs.lemmas.Bool.{and_parts, eqb-false, not-true}
use Rattle.std.proofs.lemmas.List.Elements.{All-cons, All-nil, All-push}
use Rattle.std.proofs.lemmas.List.Quantifiers.{all_pairs_push}
use Rattle.hex_cells.specs.Sets.{has}
use Rattle.hex_board.specs.Positions.{Position, is_empty_at}
use Rattle.look_ahead.specs.Looked.{IsPlayableLine}

-- two cells that aren't the same
abbrev pub AreTwo : ℕ → ℕ → Type 0
AreTwo a b = a ≢ b

-- a line after cell k so far, and the set of the cells by which it may go on
pub record IsLineSoFar (board : Position) (k : ℕ) (moves : List ℕ) (free : ℕ) : Type 0 where
  pub line : IsPlayableLine board k moves
  pub empty : (j : ℕ) → has free j ≡ true → is_empty_at board j ≡ true
  pub others : (j : ℕ) → has free j ≡ true → All (λ a. AreTwo a j) (k ∷ moves)

-- who is in the set without c is in the set, and isn't c
pub left_in : (set rest c j : ℕ) → has rest j ≡ (has set j && not (j == c)) → has rest j ≡ true
    → (has set j ≡ true) × AreTwo c j
left_in set rest c j is there =
    let both = and_parts (has set j) (not (j == c)) (sym is ∙ there) in
    (both.0, λ e. eqb-false j c (not-true (j == c) both.1) (sym e))

-- before the first move each empty cell but k is left
pub line_begins : (board : Position) (k empties free : ℕ) (line : List ℕ) → line ≡ []
    → ((j : ℕ) → has empties j ≡ is_empty_at board j)
    → ((j : ℕ) → has free j ≡ (has empties j && not (j == k))) → IsLineSoFar board k line free
line_begins board k empties free line none are left =
    subst (λ (v : List ℕ). IsLineSoFar board k v free) (sym none) (record {
      line = record {
        empty = All-nil (λ c. is_empty_at board c ≡ true);
        apart = λ i j d l m. absurd (omega (arith, l, m));
      };
      empty = λ j there. sym (are j) ∙ (left_in empties free k j (left j) there).0;
      others = λ j there. All-cons (λ a. AreTwo a j) k []
          (left_in empties free k j (left j) there).1 (All-nil (λ a. AreTwo a j));
    })

-- it goes on by a cell that is left, which then isn't
pub line_goes_on : (board : Position) (k c free rest : ℕ) (line more : List ℕ)
    → IsLineSoFar board k line free → has free c ≡ true → more ≡ line ++ c ∷ []
    → ((j : ℕ) → has rest j ≡ (has free j && not (j == c))) → IsLineSoFar board k more rest
line_goes_on board k c free rest line more so_far there is left =
    subst (λ (v : List ℕ). IsLineSoFar board k v rest) (sym is) (record {
      line = record {
        empty = All-push (λ a. is_empty_at board a ≡ true) line c so_far.line.empty
            (so_far.empty c there);
        apart = all_pairs_push AreTwo (k ∷ line) c so_far.line.apart (so_far.others c there);
      };
      empty = λ j now. so_far.empty j (left_in free rest c j (left j) now).0;
      others = λ j now. All-push (λ a. AreTwo a j) (k ∷ line) c
          (so_far.others j (left_in free rest c j (left j) now).0)
          (left_in free rest c j (left j) now).1;
    })
