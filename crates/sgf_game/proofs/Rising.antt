-- The cells of a set in rising order: the least, and then the others.
use Rattle.std.proofs.Common.{◌≡◌, ℕ, ◌*◌, ◌<◌, ◌==◌, ◌&&◌, not, Bool, true, false, [], ◌∷◌, map}
use Rattle.std.proofs.Common.{refl, sym, ap, ◌∙◌, arith}
use Rattle.hex_cells.specs.Sets.{has}
use Rattle.hex_cells.specs.Vertices.{vertex_of, vertices_of}
use Rattle.hex_board.specs.Positions.{Within}
use Rattle.hex_cells.proofs.Filters.{least_pass, none_pass}

-- the vertices of a set: that of its least cell, and then those of the others
pub vertices_first : (n s t c : ℕ) → c < n * n → has s c ≡ true
    → ((j : ℕ) → j < c → has s j ≡ false) → ((j : ℕ) → has t j ≡ (has s j && not (j == c)))
    → vertices_of n s ≡ vertex_of n c ∷ vertices_of n t
vertices_first n s t c h e f g
    = ap (map (vertex_of n))
    (least_pass (has s) (has t) 0 (n * n) c (omega arith) (omega arith) e f g)

pub vertices_none : (n s : ℕ) → ((j : ℕ) → has s j ≡ false) → vertices_of n s ≡ []
vertices_none n s f = ap (map (vertex_of n)) (none_pass (has s) 0 (n * n) (λ j l. f j))

kept_was : (b c : Bool) → (b && c) ≡ true → b ≡ true
kept_was true c e = refl
kept_was false c e = e

pub within_less : (n s t c : ℕ) → Within n s → ((j : ℕ) → has t j ≡ (has s j && not (j == c)))
    → Within n t
within_less n s t c h g = λ j e. h j (kept_was (has s j) (not (j == c)) (sym (g j) ∙ e))
