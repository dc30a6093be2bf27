-- The texts of modes sim and bench.
use Rattle.std.specs.Prelude.{ℕ, ◌==◌, List, [], ◌∷◌, ◌++◌, codes, if◌then◌else◌}
use Rattle.std.specs.Prelude.{Option, Some, None}
use Rattle.std.specs.Fmt.{decimal}
use Rattle.hex_cells.specs.Vertices.{vertex_of}
use Rattle.tree_words.specs.Closing.{ClosedTree}
use Rattle.tree_words.specs.Roots.{rows_of}
use Rattle.tree_words.specs.declared.roots.Row.{Row}
use Rattle.tree_words.specs.declared.settings.Knobs.{Knobs}
use Rattle.turn_modes.specs.Records.{records_in}
use Rattle.turn_modes.specs.Rows.{visits_of}

-- a word and its space, a number, and a line feed
abbrev pub number_line : List ℕ → ℕ → List ℕ
number_line word n = word ++ decimal n ++ 10 ∷ []

-- mode sim: the best cell, and the report of the search, each line with a line feed
abbrev pub sim_text : ℕ → ℕ → List ℕ → List ℕ
sim_text size cell report =
    codes "best " ++ vertex_of size cell ++ 10 ∷ report ++ 10 ∷ []

-- mode bench, with one worker: the best cell and its visits
abbrev pub best_line : ℕ → ℕ → ℕ → List ℕ
best_line size cell visits = codes "best " ++ vertex_of size cell ++ number_line (32 ∷ []) visits

-- mode bench: the size, the stones placed, the playouts and the records
abbrev pub bench_lines : ℕ → ℕ → ℕ → ℕ → List ℕ
bench_lines size stones playouts records =
    number_line (codes "size ") size ++ number_line (codes "stones ") stones
    ++ number_line (codes "playouts ") playouts ++ number_line (codes "records ") records

-- of a search: these lines, and with one worker the best cell
abbrev pub bench_text : ℕ → ℕ → Knobs → ℕ → List Row → ℕ → List ℕ
bench_text size stones knobs records rows cell = bench_lines size stones knobs.playouts records
    ++ (if knobs.workers == 1 then best_line size cell (visits_of rows cell) else [])

-- of a win, which isn't searched: the size, the stones placed, and the cell by which it wins
abbrev pub win_text : ℕ → ℕ → ℕ → List ℕ
win_text size stones cell = number_line (codes "size ") size
    ++ number_line (codes "stones ") stones ++ codes "win " ++ vertex_of size cell ++ 10 ∷ []

-- of a turn with this cell: of its tree, if it has one, and otherwise of a win
abbrev pub turn_text : ℕ → ℕ → Knobs → ℕ → Option ClosedTree → List ℕ
turn_text size stones knobs cell (Some tree) =
    bench_text size stones knobs (records_in tree) (rows_of tree.shape tree.words) cell
turn_text size stones knobs cell None = win_text size stones cell
