-- What `search-report`, `look-report`, `mustplay` and `wincert` say of a turn.
use Rattle.std.specs.Prelude.{ℕ, ◌-◌, ◌*◌, ◌<◌, if◌then◌else◌, nat_lt}
use Rattle.std.specs.Prelude.{List, [], ◌∷◌, ◌++◌, codes, length, take}
use Rattle.std.specs.Prelude.{Option, Some, None, option_map}
use Rattle.tree_words.specs.Closing.{ClosedTree}
use Rattle.std.specs.List.{flat_map}
use Rattle.std.specs.Fmt.{decimal}
use Rattle.hex_cells.specs.Vertices.{vertex_of, vertices_of}
use Rattle.look_ahead.specs.Looked.{LookedData}
use Rattle.look_ahead.specs.declared.rows.LookRow.{LookRow}
use Rattle.look_ahead.specs.declared.rows.Outcome.{Outcome}
use Rattle.look_ahead.specs.declared.rows.Outcome.TheVariants.{Won, Lost}
use Rattle.tree_words.specs.Roots.{rows_of}
use Rattle.tree_words.specs.declared.roots.Row.{Row}
use Rattle.win_cert.specs.Texts.{cert_text}
use Rattle.win_cert.specs.declared.certs.Cert.{Cert}
use Rattle.hex_plan.specs.Turns.{TurnData, certificate_of}
use Rattle.hex_plan.specs.declared.threats.Threat.{Threat}
use Rattle.hex_plan.specs.declared.types.Plan.{Plan}
use Rattle.hex_plan.specs.declared.types.Plan.TheVariants.{Win, Search}

-- a line feed, and a row's vertex, visits and wins
abbrev pub report_line : ℕ → Row → List ℕ
report_line size row =
    10 ∷ vertex_of size row.cell ++ 32 ∷ decimal row.visits ++ 32 ∷ decimal row.wins

-- the lines of some rows
abbrev pub report_lines : ℕ → List Row → List ℕ
report_lines size rows = flat_map (report_line size) rows

-- the cells of the rows lie on the board
abbrev pub AreOn : ℕ → List Row → Type 0
AreOn size [] = Unit {0}
AreOn size (row ∷ rows) = (row.cell < size * size) × AreOn size rows

-- the report of a search of so many playouts, by the rows of its tree
abbrev pub report_by : ℕ → ℕ → List Row → List ℕ
report_by size playouts rows = codes "playouts " ++ decimal playouts ++ report_lines size rows

-- that of a closed tree; private clauses alone cite it
abbrev pub report_on : ℕ → ClosedTree → List ℕ
report_on size closed =
    report_by size closed.shape.knobs.playouts (rows_of closed.shape closed.words)

-- the report of a turn's tree, if it has one: a row for each child of its root, in rising order of
-- cells
unfoldable pub report_of : TurnData → Option (List ℕ)
report_of turn = option_map (λ (tree : ClosedTree). report_by turn.board.size
    tree.shape.knobs.playouts (rows_of tree.shape tree.words)) turn.closed

-- the vertices of the cells of a set, in rising order, a space before each
abbrev pub spaced_vertices : ℕ → ℕ → List ℕ
spaced_vertices size set = flat_map (λ vertex. 32 ∷ vertex) (vertices_of size set)

-- a cell's vertex after a space; private clauses alone cite it
abbrev pub spaced_vertex : ℕ → ℕ → List ℕ
spaced_vertex size k = 32 ∷ vertex_of size k

-- a line feed, `threat`, and the vertices of the threat's carrier
abbrev pub threat_line : ℕ → Threat → List ℕ
threat_line size t = codes "\nthreat" ++ spaced_vertices size t.carrier

-- of a win its cell; of a search whether the board is lost, the allowed cells, and each threat
abbrev pub mustplay_of : ℕ → Plan → List ℕ
mustplay_of size (Win cert cell) = codes "win " ++ vertex_of size cell
mustplay_of size (Search threats allowed lost) =
    codes "lost " ++ (if lost then codes "yes" else codes "no")
    ++ codes "\nallowed" ++ spaced_vertices size allowed ++ flat_map (threat_line size) threats

-- the text of a certificate, without its last line feed
abbrev pub cert_body : Cert → List ℕ
cert_body cert = take (length (cert_text cert) - 1) (cert_text cert)

-- of a win its certificate, of a search that of a loss, if there is one
abbrev pub wincert_of : Plan → Option Cert → Option (List ℕ)
wincert_of plan loss = option_map cert_body (certificate_of plan loss)

-- who wins after a stone, if that is known
abbrev pub outcome_text : Option Outcome → List ℕ
outcome_text None = []
outcome_text (Some Won) = codes " won"
outcome_text (Some Lost) = codes " lost"

-- of a cell of the board a space and its vertex
abbrev pub move_text : ℕ → ℕ → List ℕ
move_text size k = if nat_lt k (size * size) then 32 ∷ vertex_of size k else []

-- of a line that has moves `line` and its moves in turn
abbrev pub line_text : ℕ → List ℕ → List ℕ
line_text size [] = []
line_text size (k ∷ ks) = codes " line" ++ flat_map (move_text size) (k ∷ ks)

-- of a cell of the board a line feed, its vertex, its nodes, its value, who wins, and its line
abbrev pub look_line : ℕ → LookRow → List ℕ
look_line size row = if nat_lt row.cell (size * size)
    then 10 ∷ vertex_of size row.cell ++ 32 ∷ decimal row.nodes ++ 32 ∷ decimal row.value
    ++ outcome_text row.known ++ line_text size row.line.items
    else []

-- what the look-ahead of a turn found, if there was one: how many nodes it has, and a line for
-- each cell
abbrev pub look_of : ℕ → LookedData → List ℕ
look_of size looked =
    codes "nodes " ++ decimal looked.nodes ++ flat_map (look_line size) looked.rows

-- what the four commands say of a turn; of a win there is no report and nothing of a look-ahead, of
-- a search a certificate only if it has one of a loss, and without a look-ahead nothing of one
pub record TurnTextsData : Type 0 where
  pub report : Option (List ℕ)
  pub look : Option (List ℕ)
  pub mustplay : List ℕ
  pub wincert : Option (List ℕ)

abbrev pub texts_of : TurnData → TurnTextsData
texts_of t = record {
  report = report_of t;
  look = option_map (look_of t.board.size) t.looked;
  mustplay = mustplay_of t.board.size t.planned.plan;
  wincert = wincert_of t.planned.plan t.planned.loss;
}
