-- The openings that a list names.
use Rattle.std.specs.Prelude.{◌≡◌, ◌==◌, ◌≤◌, ℕ, Bool, List, [], Option, Some, None, length, map}
use Rattle.std.specs.List.{slice_split}
use Rattle.hex_cells.specs.Vertices.{vertex_cell}
use Rattle.match_ref.specs.declared.settings.TheConstants.{MOST_OPENINGS}

abbrev pub is_comma : ℕ → Bool
is_comma byte = byte == 44

-- each name is a vertex of the board of size n, and these are their cells, in order
abbrev pub AreVertices : ℕ → List (List ℕ) → List ℕ → Type 0
AreVertices n names cells = map (vertex_cell n) names ≡ map (λ cell. Some cell) cells

-- The openings that the value of the option asks for on the board of size n. If it is said, its
-- text is vertices with a comma between two, and not too many; if not, there are none.
abbrev pub AreOpenings : ℕ → Option (List ℕ) → List ℕ → Type 0
AreOpenings n None cells = cells ≡ []
AreOpenings n (Some text) cells =
    AreVertices n (slice_split is_comma text) cells × (length cells ≤ MOST_OPENINGS)
