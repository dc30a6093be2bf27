-- How the reader goes. Only private clauses cite this.
use Rattle.std.specs.Prelude.{ℕ, ◌==◌, Bool, List, [], ◌∷◌, if◌then◌else◌}
use Rattle.std.specs.List.{flat_map, slice_split}
use Rattle.win_cert.specs.Texts.{line_feed, space}

abbrev pub is_space_byte : ℕ → Bool
is_space_byte b = b == space

abbrev pub is_line_feed : ℕ → Bool
is_line_feed b = b == line_feed

-- the words, each after a space
abbrev pub after_spaces : List (List ℕ) → List ℕ
after_spaces words = flat_map (λ word. space ∷ word) words

-- the words of a line that are left to be read, where there are more
abbrev pub words_in : Bool → List ℕ → List (List ℕ)
words_in more rest = if more then slice_split is_space_byte rest else []
