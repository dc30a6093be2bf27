-- The openings that a list names: they are one list of cells, not too long, and on the board.
use Rattle.std.proofs.Common.{◌≡◌, ◌∙◌, ◌↔◌, ℕ, ◌+◌, ◌*◌, ◌<◌, ◌≤◌, Bool, List, [], ◌∷◌, zero}
use Rattle.std.proofs.Common.{suc, Option, Some, None, inl, inr, sym, ap, subst, refl, map, length}
use Rattle.std.proofs.Common.{get_or, lit≤, arith}
use Rattle.std.specs.Prelude.{All}
use Rattle.std.specs.Borrow.{Bor}
use Rattle.std.specs.List.{find, range_with_len, slice_split}
use Rattle.std.proofs.lemmas.Bool.{cases_Bool}
use Rattle.std.proofs.lemmas.List.{length-map}
use Rattle.std.proofs.lemmas.List.Elements.{All-cons, All-nil}
use Rattle.hex_cells.specs.Vertices.{vertex_cell}
use Rattle.match_ref.specs.Openings.{AreOpenings, AreVertices, is_comma}
use Rattle.match_ref.specs.declared.settings.TheConstants.{MOST_OPENINGS}

abbrev some_cell : ℕ → Option ℕ
some_cell cell = Some cell

abbrev found : List ℕ → List (Option ℕ)
found = map some_cell

-- the text behind a reference
abbrev text_of : Bor (List ℕ) → List ℕ
text_of s = s.now

abbrev texts : List (Bor (List ℕ)) → List (List ℕ)
texts = map text_of

-- ---- one list of cells

same_found : (xs ys : List ℕ) → found xs ≡ found ys → xs ≡ ys
same_found [] [] e = refl
same_found [] (y ∷ ys) e = cc
same_found (x ∷ xs) [] e = cc
same_found (x ∷ xs) (y ∷ ys) e =
    let first : x ≡ y = cc in
    let others : found xs ≡ found ys = cc in
    let more : xs ≡ ys = same_found xs ys others in
    λ k. first k ∷ more k

pub same_openings : (n : ℕ) (value : Option (List ℕ)) (xs ys : List ℕ) → AreOpenings n value xs
    → AreOpenings n value ys → xs ≡ ys
same_openings n None xs ys h g = h ∙ sym g
same_openings n (Some text) xs ys h g = same_found xs ys (sym h.0 ∙ g.0)

-- ---- reading names one after another

-- names of which one is no vertex have no cells
pub none_at : (n : ℕ) (names : List (Bor (List ℕ))) (i : ℕ) (d : Bor (List ℕ)) (cells : List ℕ)
    → i < length names → vertex_cell n (get_or names i d).now ≡ None
    → AreVertices n (texts names) cells → ⊥
none_at n [] i d cells below none h = omega (arith, below)
none_at n (x ∷ names) zero d [] below none h = cc
none_at n (x ∷ names) zero d (c ∷ cells) below none h =
    let here : vertex_cell n x.now ≡ Some c = cc in cc
none_at n (x ∷ names) (suc i) d [] below none h = cc
none_at n (x ∷ names) (suc i) d (c ∷ cells) below none h =
    let others : AreVertices n (texts names) cells = cc in
    none_at n names i d cells (omega (arith, below)) none others

pub many_names : (n : ℕ) (names : List (Bor (List ℕ))) (cells : List ℕ)
    → AreVertices n (texts names) cells → length names ≡ length cells
many_names n names cells h =
    sym (length-map names text_of)
    ∙ (sym (length-map (texts names) (vertex_cell n)) ∙ (ap length h
    ∙ length-map cells some_cell))

-- cells that these names have are the ones
pub one_list : (n : ℕ) (names : List (List ℕ)) (cells xs : List ℕ) → AreVertices n names cells
    → length cells ≤ MOST_OPENINGS
    → (let read : Option (List ℕ) = Some cells in read ≡ Some xs)
    ↔ (AreVertices n names xs × (length xs ≤ MOST_OPENINGS))
one_list n names cells xs h few = (
  λ is. let same : cells ≡ xs = cc in
      subst (λ ys. AreVertices n names ys × (length ys ≤ MOST_OPENINGS)) same (h, few),
  λ g. ap (λ (ys : List ℕ). Some ys) (same_found cells xs (sym h ∙ g.0)),
)

-- ---- ranges

pub few_openings : (n : ℕ) (value : Option (List ℕ)) (cells : List ℕ) → AreOpenings n value cells
    → length cells ≤ MOST_OPENINGS
few_openings n None cells h = rw h (lit≤ tt)
few_openings n (Some text) cells h = h.1

-- a cell, if there is one, lies on the board of size n
abbrev pub IsOn : ℕ → Option ℕ → Type 0
IsOn n None = Unit {0}
IsOn n (Some cell) = cell < n * n

found_within : (p : ℕ → Bool) (m a n : ℕ) → a + n ≡ m * m → IsOn m (find p (range_with_len a n))
found_within p m a zero e = tt
found_within p m a (suc n) e = elim (cases_Bool (p a)) [
  | inl t ↦ rw t (omega arith)
  | inr t ↦ rw t (found_within p m (a + 1) n (omega arith))
]

vertex_on_board : (n : ℕ) (text : List ℕ) → IsOn n (vertex_cell n text)
unfolding vertex_cell
vertex_on_board n text = found_within _ n 0 (n * n) (omega arith)

vertices_on_board : (n : ℕ) (names : List (List ℕ)) (cells : List ℕ) → AreVertices n names cells
    → All (λ cell. cell < n * n) cells
vertices_on_board n names [] h = All-nil (λ cell. cell < n * n)
vertices_on_board n [] (c ∷ cells) h = absurd (cc)
vertices_on_board n (name ∷ names) (c ∷ cells) h =
    let here : vertex_cell n name ≡ Some c = cc in
    let others : AreVertices n names cells = cc in
    All-cons (λ cell. cell < n * n) c cells (subst (IsOn n) here (vertex_on_board n name))
    (vertices_on_board n names cells others)

pub openings_on_board : (n : ℕ) (value : Option (List ℕ)) (cells : List ℕ)
    → AreOpenings n value cells → All (λ cell. cell < n * n) cells
openings_on_board n None cells h
    = subst (All (λ cell. cell < n * n)) (sym h) (All-nil (λ cell. cell < n * n))
openings_on_board n (Some text) cells h
    = vertices_on_board n (slice_split is_comma text) cells h.0
