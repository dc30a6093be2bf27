-- Rows on a board.
use Rattle.std.proofs.Common.{◌≡◌, ℕ, zero, suc, ◌+◌, ◌*◌, ◌<◌, List, [], ◌∷◌, length, map, get_or}
use Rattle.std.proofs.Common.{sym, subst, arith}
use Rattle.std.specs.List.{range_with_len}
use Rattle.tree_words.specs.Settings.{Setting, IsSetting}
use Rattle.tree_words.specs.Closing.{IsClosed}
use Rattle.tree_words.proofs.Boards.RootLaws.{has_root}
use Rattle.tree_words.specs.Roots.{HasRoot, root_count, row_at, rows_of}
use Rattle.tree_words.specs.declared.roots.Row.{Row}
use Rattle.hex_plan.specs.TurnTexts.{AreOn}

pub row_on : (size : ℕ) (rows : List Row) (i : ℕ) (row : Row) → AreOn size rows → i < length rows
    → row ≡ get_or rows i row → row.cell < size * size
row_on size [] i row h l e = absurd (omega arith)
row_on size (r ∷ rows) zero row h l e = subst (λ (u : Row). u.cell < size * size) (sym e) h.0
row_on size (r ∷ rows) (suc i) row h l e = row_on size rows i row h.1 (omega arith) e

all_on : (size : ℕ) (row : ℕ → Row) (a n : ℕ) → ((i : ℕ) → i < a + n → (row i).cell < size * size)
    → AreOn size (map row (range_with_len a n))
all_on size row a zero h = tt
all_on size row a (suc n) h
    = (h a (omega arith), all_on size row (a + 1) n (λ i l. h i (omega arith)))

-- the cells of the root's children lie on the board
pub rows_on : (s : Setting) (words : List ℕ) → HasRoot s words
    → AreOn s.board.size (rows_of s words)
rows_on s words root = all_on s.board.size (row_at s words) 0 (root_count s words)
    (λ i l. root.on_board i (omega arith))

-- so do those of a turn's tree
pub turn_rows_on : (s : Setting) (words : List ℕ) (size : ℕ) (rows : List Row) → IsSetting s
    → IsClosed s words → s.board.size ≡ size → rows ≡ rows_of s words → AreOn size rows
turn_rows_on s words size rows set closed same is
    = subst (AreOn size) (sym is)
    (subst (λ n. AreOn n (rows_of s words)) same (rows_on s words (has_root s words set closed)))
