-- The cells and the ends that words are.
use Rattle.std.proofs.Common.{◌≡◌, ℕ, ◌*◌, ◌<◌, ◌≤◌, ◌&&◌, ltb, Bool, true, cond, List, Option}
use Rattle.std.proofs.Common.{Some, None, refl, ap, ◌∙◌, subst}
use Rattle.std.proofs.lemmas.Bool.{and_parts}
use Rattle.std.specs.Option.{option_and_then}
use Rattle.std.specs.Str.{bytes_eq}
use Rattle.std.proofs.lemmas.Bool.Decides.{Decides-ltb}
use Rattle.std.proofs.lemmas.Slice.Eq.{bytes_eq-Decides}
use Rattle.hex_cells.specs.Vertices.{vertex_cell, vertex_of}
use Rattle.hex_cells.proofs.Naming.{read_back}
use Rattle.win_cert.specs.Named.{cell_named}
use Rattle.win_cert.proofs.Options.{some_of_then}
use Rattle.std.proofs.lemmas.Option.{cond_some}

abbrev test : ℕ → List ℕ → ℕ → Option ℕ
test n word k = cond (ltb k (n * n) && bytes_eq word (vertex_of n k)) (Some k) None

-- a word that is no vertex in either case names no cell
pub no_cell : (n : ℕ) (word : List ℕ) → vertex_cell n word ≡ None → cell_named n word ≡ None
unfolding cell_named
no_cell n word e = ap (option_and_then (test n word)) e

-- a vertex names its cell exactly where it is written in lower case
pub cell_found : (n : ℕ) (word : List ℕ) (k : ℕ) (b : Bool)
    → vertex_cell n word ≡ Some k → k < n * n
    → bytes_eq word (vertex_of n k) ≡ b → cell_named n word ≡ cond b (Some k) None
unfolding cell_named
cell_found n word k b e on same =
    ap (option_and_then (test n word)) e
    ∙ ap (λ t. cond (t && bytes_eq word (vertex_of n k)) (Some k) None)
    ((Decides-ltb k (n * n)).1 on)
    ∙ ap (λ t. cond t (Some k) None) same

-- a cell's vertex names it
pub cell_back : (n k : ℕ) → n ≤ 11 → k < n * n → cell_named n (vertex_of n k) ≡ Some k
cell_back n k size on = cell_found n (vertex_of n k) k true (read_back n k size on) on
    ((bytes_eq-Decides (vertex_of n k) (vertex_of n k)).1 refl)

-- a cell that is named is the one whose vertex the word is
pub cell_means : (n : ℕ) (word : List ℕ) (k : ℕ) → cell_named n word ≡ Some k
    → (k < n * n) × (word ≡ vertex_of n k)
unfolding cell_named
cell_means n word k e =
    let found = some_of_then (test n word) (vertex_cell n word) k e in
    let same = cond_some
    (ltb found.0 (n * n) && bytes_eq word (vertex_of n found.0)) found.0 k found.2 in
    let both = and_parts (ltb found.0 (n * n)) (bytes_eq word (vertex_of n found.0)) same.0 in (
      subst (λ j. j < n * n) same.1 ((Decides-ltb found.0 (n * n)).0 both.0),
      (bytes_eq-Decides word (vertex_of n found.0)).0 both.1 ∙ ap (vertex_of n) same.1,
    )
