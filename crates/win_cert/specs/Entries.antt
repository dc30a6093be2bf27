-- Entries in scopes: what each line gives.
use Rattle.std.specs.Prelude.{ℕ, ◌==◌, ◌||◌, Bool, true, false, List, [], ◌∷◌, ◌++◌, Option, Some}
use Rattle.std.specs.Prelude.{None, zero, suc, max, min, bit_or, take, if◌then◌else◌}
use Rattle.std.specs.List.{filter_map, find, slice_get}
use Rattle.std.specs.Option.{option_and_then, option_flatten, option_map}
use Rattle.hex_cells.specs.Sets.{with_cell, without_cells}
use Rattle.hex_board.specs.Elements.{PlayerBoard, edge_element, element_of}
use Rattle.hex_board.specs.Joined.{cells_of}
use Rattle.hex_board.specs.Places.{at_cell, cell_of, is_member}
use Rattle.hex_board.specs.Positions.{stones_of}
use Rattle.conn_store.specs.Entries.{Connects}
use Rattle.conn_store.specs.declared.entries.Kind.{Kind}
use Rattle.conn_store.specs.declared.entries.Kind.TheVariants.{Full, Semi}
use Rattle.win_cert.specs.Scopes.{elements_in, player_board, scope_after}
use Rattle.win_cert.specs.declared.certs.Cert.{Cert}
use Rattle.win_cert.specs.declared.lines.End.{End}
use Rattle.win_cert.specs.declared.lines.End.TheVariants.{At, First, Second}
use Rattle.win_cert.specs.declared.lines.Line.{Line}
use Rattle.win_cert.specs.declared.lines.Line.TheVariants.{Adj, And, Key, Or2, Or3, Put, Done, Move}
use Rattle.win_cert.specs.declared.lines.Line.TheVariants.{Cases, Lift, OrMany}

-- an entry of elements x and y on the board of a scope, the lesser first; where the player is
-- joined there, an entry of his edges has element 0 twice
pub record ScopedEntry : Type 0 where
  pub kind : Kind
  pub x : ℕ
  pub y : ℕ
  pub carrier : ℕ
  pub scope : ℕ

-- what a line is read over: the player's board, the line's scope, and what each earlier line gave
pub record Context : Type 0 where
  pub base : PlayerBoard
  pub scope : ℕ
  pub earlier : List (Option ScopedEntry)

-- the player's elements on the board of the line's scope
abbrev pub elements_at : Context → PlayerBoard
elements_at c = elements_in c.base c.scope

-- the entry with this number, where it is that of an earlier line that gave one
abbrev pub entry_at : Context → ℕ → Option ScopedEntry
entry_at c i = option_flatten (slice_get c.earlier i)

-- the entries with these numbers
abbrev pub entries_at : Context → List ℕ → List ScopedEntry
entries_at c numbers = filter_map (entry_at c) numbers

-- the entry of x and y, in either order, in the line's scope
abbrev pub entry_between : Context → Kind → ℕ → ℕ → ℕ → ScopedEntry
entry_between c kind x y carrier =
    record { kind = kind; x = min x y; y = max x y; carrier = carrier; scope = c.scope }

-- the entry of the player's edges in the line's scope
abbrev pub edge_entry : Context → Kind → ℕ → ScopedEntry
edge_entry c kind carrier = entry_between c kind
    (edge_element (elements_at c) false) (edge_element (elements_at c) true) carrier

-- the element that an end of a connection names: none for a stone of the opponent
abbrev pub end_element : PlayerBoard → End → Option ℕ
end_element e (At k) = element_of e k
end_element e First = Some (edge_element e false)
end_element e Second = Some (edge_element e true)

-- an end that names element x: an edge that it holds, or else its least cell
abbrev pub end_for : PlayerBoard → ℕ → Option End
end_for e x =
    if x == edge_element e false then Some First
    else (if x == edge_element e true then Some Second
    else option_map At (find (λ k. is_member e x (at_cell k)) (cells_of e.board.size)))

-- the element on the board of d that holds element x of e
abbrev pub element_on : PlayerBoard → PlayerBoard → ℕ → Option ℕ
element_on d e x = option_and_then (end_element d) (end_for e x)

-- x is one of the entry's elements
abbrev pub is_end : ScopedEntry → ℕ → Bool
is_end a x = a.x == x || a.y == x

-- the one element that two entries have in common: none where they share none, or both
abbrev pub middle_of : ScopedEntry → ScopedEntry → Option ℕ
middle_of a b =
    if is_end b a.x then (if is_end b a.y then None else Some a.x)
    else (if is_end b a.y then Some a.y else None)

-- the entry's element other than u
abbrev pub other_end : ScopedEntry → ℕ → ℕ
other_end a u = if a.x == u then a.y else a.x

-- the cells of all the carriers
abbrev pub carriers_of : List ScopedEntry → ℕ
carriers_of [] = 0
carriers_of (a ∷ entries) = bit_or a.carrier (carriers_of entries)

-- what `adj` gives of two elements
abbrev pub adj_entry : Context → Option ℕ → Option ℕ → Option ScopedEntry
adj_entry c (Some x) (Some y) = Some (entry_between c Full x y 0)
adj_entry c (Some x) None = None
adj_entry c None y = None

-- what `and` gives of the entries named
abbrev pub and_entry : Context → List ScopedEntry → Option ScopedEntry
and_entry c (a ∷ b ∷ []) = option_map
    (λ u. entry_between c Full (other_end a u) (other_end b u) (carriers_of (a ∷ b ∷ [])))
    (middle_of a b)
and_entry c entries = None

-- what `key` gives of the entries named: the middle is a cell of the carrier
abbrev pub key_entry : Context → List ScopedEntry → Option ScopedEntry
key_entry c (a ∷ b ∷ []) = option_and_then
    (λ u. option_map
    (λ k. entry_between c Semi (other_end a u) (other_end b u)
    (with_cell (carriers_of (a ∷ b ∷ [])) k))
    (cell_of (elements_at c) u))
    (middle_of a b)
key_entry c entries = None

-- what `or` gives of the entries named
abbrev pub or_entry : Context → List ScopedEntry → Option ScopedEntry
or_entry c [] = None
or_entry c (a ∷ entries) = Some (entry_between c Full a.x a.y (carriers_of (a ∷ entries)))

-- what `move` gives of the entry named
abbrev pub move_entry : Context → ℕ → List ScopedEntry → Option ScopedEntry
move_entry c k [] = None
move_entry c k (a ∷ entries) = Some (edge_entry c Semi (with_cell a.carrier k))

-- what `lift` gives of an entry whose elements x and y hold: the scope's cells leave the carrier
abbrev pub lift_between : Context → ScopedEntry → Option ℕ → Option ℕ → Option ScopedEntry
lift_between c a (Some x) (Some y) =
    Some (entry_between c a.kind x y (without_cells a.carrier c.scope))
lift_between c a (Some x) None = None
lift_between c a None y = None

-- what `lift` gives of the entry named
abbrev pub lift_entry : Context → List ScopedEntry → Option ScopedEntry
lift_entry c [] = None
lift_entry c (a ∷ entries) = lift_between c a
    (element_on (elements_at c) (elements_in c.base a.scope) a.x)
    (element_on (elements_at c) (elements_in c.base a.scope) a.y)

-- what a derivation line gives
abbrev pub gives : Context → Line → Option ScopedEntry
gives c (Adj x y) = adj_entry c (end_element (elements_at c) x) (end_element (elements_at c) y)
gives c (And i j) = and_entry c (entries_at c (i ∷ j ∷ []))
gives c (Key i j) = key_entry c (entries_at c (i ∷ j ∷ []))
gives c (Or2 i j) = or_entry c (entries_at c (i ∷ j ∷ []))
gives c (Or3 i j k) = or_entry c (entries_at c (i ∷ j ∷ k ∷ []))
gives c (OrMany numbers) = or_entry c (entries_at c numbers)
gives c (Put cells) = None
gives c Done = Some (edge_entry c Full 0)
gives c (Move k i) = move_entry c k (entries_at c (i ∷ []))
gives c (Cases numbers) = Some (edge_entry c Full (carriers_of (entries_at c numbers)))
gives c (Lift i) = lift_entry c (entries_at c (i ∷ []))

-- line k, read over what the lines before it give, in the scope after these
abbrev pub context_over : Cert → ℕ → List (Option ScopedEntry) → Context
context_over cert k earlier = record {
  base = player_board cert;
  scope = scope_after 0 (take k cert.lines);
  earlier = earlier;
}

-- what each of the first k lines gives, where each is read over those before it
abbrev pub entries_below : Cert → ℕ → List (Option ScopedEntry)
entries_below cert zero = []
entries_below cert (suc k) = entries_below cert k ++ option_and_then
    (gives (context_over cert k (entries_below cert k))) (slice_get cert.lines k) ∷ []

-- what line k, or the claim, is read over
abbrev pub context_at : Cert → ℕ → Context
context_at cert k = context_over cert k (entries_below cert k)

-- with his stones on the board of the entry's scope the player is sure of linking the entry's
-- elements inside its carrier
abbrev pub IsTrueInScope : PlayerBoard → ScopedEntry → Type 0
IsTrueInScope base a = Connects a.kind (elements_in base a.scope) a.x a.y
    (stones_of (elements_in base a.scope).board base.player) a.carrier
