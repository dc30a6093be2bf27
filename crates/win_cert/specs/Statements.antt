-- What a derivation line or the claim takes, and the tests that the reasons against it stand on.
use Rattle.std.specs.Prelude.{ℕ, ◌==◌, ◌&&◌, ◌||◌, not, Bool, true, false, List, [], ◌∷◌, Option}
use Rattle.std.specs.Prelude.{Some, None, if◌then◌else◌}
use Rattle.std.specs.List.{list_all, list_any, range_with_len}
use Rattle.std.specs.Option.{option_map_or}
use Rattle.hex_cells.specs.Sets.{has, with_cell}
use Rattle.hex_cells.specs.Colours.{other_of}
use Rattle.hex_cells.specs.declared.board_size.TheConstants.{MOST_CELLS}
use Rattle.hex_board.specs.Elements.{PlayerBoard, edge_element}
use Rattle.hex_board.specs.Places.{cell_of, is_near}
use Rattle.hex_board.specs.Positions.{stones_of}
use Rattle.conn_store.specs.Stores.{same_kind}
use Rattle.conn_store.specs.declared.entries.Kind.{Kind}
use Rattle.conn_store.specs.declared.entries.Kind.TheVariants.{Full, Semi}
use Rattle.win_cert.specs.Entries.{Context, ScopedEntry, entries_at}
use Rattle.win_cert.specs.Scopes.{elements_in}
use Rattle.win_cert.specs.declared.lines.End.{End}
use Rattle.win_cert.specs.declared.lines.End.TheVariants.{At, First, Second}
use Rattle.win_cert.specs.declared.lines.Line.TheVariants.{Adj, And, Key, Or2, Or3, Put, Done, Move}
use Rattle.win_cert.specs.declared.lines.Line.TheVariants.{Cases, Lift, OrMany}
use Rattle.win_cert.specs.declared.statements.Statement.{Statement}
use Rattle.win_cert.specs.declared.statements.Statement.TheVariants.{Claim, Derivation}

-- the numbers that a statement names
abbrev pub numbers_in : Statement → List ℕ
numbers_in (Derivation (Adj x y)) = []
numbers_in (Derivation (And i j)) = i ∷ j ∷ []
numbers_in (Derivation (Key i j)) = i ∷ j ∷ []
numbers_in (Derivation (Or2 i j)) = i ∷ j ∷ []
numbers_in (Derivation (Or3 i j k)) = i ∷ j ∷ k ∷ []
numbers_in (Derivation (OrMany numbers)) = numbers
numbers_in (Derivation (Put cells)) = []
numbers_in (Derivation Done) = []
numbers_in (Derivation (Move k i)) = i ∷ []
numbers_in (Derivation (Cases numbers)) = numbers
numbers_in (Derivation (Lift i)) = i ∷ []
numbers_in (Claim kind i) = i ∷ []

-- the entries that it names
abbrev pub entries_named : Context → Statement → List ScopedEntry
entries_named c s = entries_at c (numbers_in s)

-- whether the statement is an `and` or a `key`
abbrev pub is_chain : Statement → Bool
is_chain (Derivation (And i j)) = true
is_chain (Derivation (Key i j)) = true
is_chain s = false

-- whether it is an `or`
abbrev pub is_or : Statement → Bool
is_or (Derivation (Or2 i j)) = true
is_or (Derivation (Or3 i j k)) = true
is_or (Derivation (OrMany numbers)) = true
is_or s = false

-- whether it is a `cases`
abbrev pub is_cases : Statement → Bool
is_cases (Derivation (Cases numbers)) = true
is_cases s = false

-- whether it takes entries of the player's edges: `move`, `cases` and the claim
abbrev pub takes_edges : Statement → Bool
takes_edges (Derivation (Move k i)) = true
takes_edges (Derivation (Cases numbers)) = true
takes_edges (Derivation line) = false
takes_edges (Claim kind i) = true

-- the kind of entry that a statement takes; `lift` takes either
abbrev pub kind_taken : Statement → Kind
kind_taken (Claim kind i) = kind
kind_taken (Derivation line) =
    if is_or (Derivation line) || is_cases (Derivation line) then Semi else Full

-- the scope in which a statement takes entries: for `move` its own with the cell too, for the claim
-- the empty one, else its own; `lift` takes one in any part of its own
abbrev pub scope_taken : Context → Statement → ℕ
scope_taken c (Derivation (Move k i)) = with_cell c.scope k
scope_taken c (Derivation line) = c.scope
scope_taken c (Claim kind i) = 0

-- whether a statement may take an entry: there is one, of the kind, and of two elements where
-- they must differ
abbrev pub may_take : Statement → Option ScopedEntry → Bool
may_take s None = false
may_take s (Some a) = same_kind a.kind (kind_taken s) && not ((is_chain s || is_or s) && a.x == a.y)

-- the numbers of cells
abbrev pub cell_numbers : List ℕ
cell_numbers = range_with_len 0 MOST_CELLS

-- whether some cell is in the carriers of all entries
abbrev pub share_cell : List ScopedEntry → Bool
share_cell entries = list_any (λ k. list_all (λ a. has a.carrier k) entries) cell_numbers

-- whether element x is an empty cell in the set c
abbrev pub is_cell_in : PlayerBoard → ℕ → ℕ → Bool
is_cell_in e x c = option_map_or (has c) (cell_of e x) false

-- whether the end is a stone of the opponent
abbrev pub is_other_stone : PlayerBoard → End → Bool
is_other_stone e (At k) = has (stones_of e.board (other_of e.player)) k
is_other_stone e First = false
is_other_stone e Second = false

-- whether the elements are near
abbrev pub are_near : PlayerBoard → Option ℕ → Option ℕ → Bool
are_near e (Some x) (Some y) = is_near e x y
are_near e (Some x) None = false
are_near e None y = false

-- whether the two entries have the same elements
abbrev pub same_ends : ScopedEntry → ScopedEntry → Bool
same_ends a b = a.x == b.x && a.y == b.y

-- whether all entries have the same elements
abbrev pub have_same_ends : List ScopedEntry → Bool
have_same_ends [] = true
have_same_ends (a ∷ entries) = list_all (same_ends a) entries

-- whether the entry is one of the player's edges, on the board of its own scope
abbrev pub is_edge_entry : PlayerBoard → ScopedEntry → Bool
is_edge_entry base a =
    a.x == edge_element (elements_in base a.scope) false
    && a.y == edge_element (elements_in base a.scope) true
