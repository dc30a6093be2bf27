-- The thirteen reasons against a derivation line or the claim, and their order.
use Rattle.std.specs.Prelude.{ℕ, ◌==◌, ◌&&◌, ◌||◌, not, Bool, true, false, List, [], ◌∷◌, Option}
use Rattle.std.specs.List.{find, list_all, list_any}
use Rattle.std.specs.Option.{is_none, is_some, option_map_or}
use Rattle.hex_cells.specs.Sets.{has}
use Rattle.hex_board.specs.Elements.{are_joined}
use Rattle.hex_board.specs.Places.{cell_of}
use Rattle.hex_board.specs.Positions.{is_empty_at}
use Rattle.win_cert.specs.Entries.{Context, ScopedEntry, elements_at, end_element, entries_at}
use Rattle.win_cert.specs.Entries.{entry_at, middle_of, other_end}
use Rattle.win_cert.specs.Scopes.{is_part}
use Rattle.win_cert.specs.Statements.{cell_numbers, entries_named}
use Rattle.win_cert.specs.declared.statements.Statement.{Statement}
use Rattle.win_cert.specs.declared.statements.Statement.TheVariants.{Derivation}
use Rattle.win_cert.specs.Statements.{have_same_ends, is_cases, is_cell_in, is_chain, is_edge_entry}
use Rattle.win_cert.specs.Statements.{is_or, is_other_stone, are_near, may_take, numbers_in}
use Rattle.win_cert.specs.Statements.{scope_taken, share_cell, takes_edges}
use Rattle.win_cert.specs.declared.lines.Line.TheVariants.{Adj, And, Key, Put, Done, Move}
use Rattle.win_cert.specs.declared.lines.Line.TheVariants.{Lift}
use Rattle.win_cert.specs.declared.reasons.Reason.{Reason}
use Rattle.win_cert.specs.declared.reasons.Reason.TheVariants.{BadReference, WrongColour}
use Rattle.win_cert.specs.declared.reasons.Reason.TheVariants.{NotNeighbours, NoCommonMiddle}
use Rattle.win_cert.specs.declared.reasons.Reason.TheVariants.{CarriersMeet, EndInCarrier}
use Rattle.win_cert.specs.declared.reasons.Reason.TheVariants.{MiddleKind, EndsDiffer, CommonCell}
use Rattle.win_cert.specs.declared.reasons.Reason.TheVariants.{NotEdges, BadStone, WrongScope}
use Rattle.win_cert.specs.declared.reasons.Reason.TheVariants.{NotJoined}

-- the order in which reasons are told
abbrev pub order : List Reason
order =
    BadReference ∷ BadStone ∷ WrongScope ∷ WrongColour ∷ NotNeighbours ∷ NoCommonMiddle
    ∷ CarriersMeet ∷ EndInCarrier ∷ MiddleKind ∷ EndsDiffer ∷ CommonCell ∷ NotEdges
    ∷ NotJoined ∷ []

-- a number that is named is not that of an earlier line that gives an entry of the kind taken, or
-- for `lift` of either kind
abbrev pub is_bad_reference : Context → Statement → Bool
is_bad_reference c (Derivation (Lift i)) = is_none (entry_at c i)
is_bad_reference c s = not (list_all (λ i. may_take s (entry_at c i)) (numbers_in s))

-- a cell of `put` is not empty on the board, or that of `move` on the board of the scope
abbrev pub is_bad_stone : Context → Statement → Bool
is_bad_stone c (Derivation (Put cells)) =
    list_any (λ k. has cells k && not (is_empty_at c.base.board k)) cell_numbers
is_bad_stone c (Derivation (Move k i)) = not (is_empty_at (elements_at c).board k)
is_bad_stone c s = false

-- an entry's scope is not the one in which the statement takes entries, or for `lift` no part of
-- its own
abbrev pub is_wrong_scope : Context → Statement → Bool
is_wrong_scope c (Derivation (Lift i)) =
    not (list_all (λ a. is_part a.scope c.scope) (entries_at c (i ∷ [])))
is_wrong_scope c s = not (list_all (λ a. a.scope == scope_taken c s) (entries_named c s))

-- an end of `adj` is a stone of the opponent
abbrev pub is_wrong_colour : Context → Statement → Bool
is_wrong_colour c (Derivation (Adj x y)) =
    is_other_stone (elements_at c) x || is_other_stone (elements_at c) y
is_wrong_colour c s = false

-- the elements of `adj` are not near
abbrev pub are_not_neighbours : Context → Statement → Bool
are_not_neighbours c (Derivation (Adj x y)) =
    not (are_near (elements_at c) (end_element (elements_at c) x) (end_element (elements_at c) y))
are_not_neighbours c s = false

-- whether something holds of the two entries that `and` or `key` names, and of their middle
abbrev pub holds_of_chain : (ScopedEntry → ScopedEntry → ℕ → Bool) → List ScopedEntry → Bool
holds_of_chain test (a ∷ b ∷ []) = option_map_or (test a b) (middle_of a b) false
holds_of_chain test entries = false

-- the entries of `and` or `key` do not share exactly one element
abbrev pub has_no_middle : Context → Statement → Bool
has_no_middle c s =
    is_chain s && not (holds_of_chain (λ a b u. true) (entries_named c s))

-- a cell is in both carriers of `and` or `key`
abbrev pub do_carriers_meet : Context → Statement → Bool
do_carriers_meet c s = is_chain s && share_cell (entries_named c s)

-- an end other than the middle is a cell of the other entry's carrier
abbrev pub is_end_in_carrier : Context → Statement → Bool
is_end_in_carrier c s = is_chain s && holds_of_chain
    (λ a b u. is_cell_in (elements_at c) (other_end a u) b.carrier
    || is_cell_in (elements_at c) (other_end b u) a.carrier)
    (entries_named c s)

-- the middle of `and` is an empty cell, or that of `key` is a group
abbrev pub is_middle_wrong : Context → Statement → Bool
is_middle_wrong c (Derivation (And i j)) = holds_of_chain
    (λ a b u. is_some (cell_of (elements_at c) u)) (entries_named c (Derivation (And i j)))
is_middle_wrong c (Derivation (Key i j)) = holds_of_chain
    (λ a b u. is_none (cell_of (elements_at c) u)) (entries_named c (Derivation (Key i j)))
is_middle_wrong c s = false

-- a cell is in all the carriers of `or` or `cases`
abbrev pub is_cell_common : Context → Statement → Bool
is_cell_common c s = (is_or s || is_cases s) && share_cell (entries_named c s)

-- an entry of `move`, `cases` or the claim is not one of the player's edges in its scope
abbrev pub is_no_edge_entry : Context → Statement → Bool
is_no_edge_entry c s =
    takes_edges s && not (list_all (is_edge_entry c.base) (entries_named c s))

-- the player is not joined on the board of the scope of `done`
abbrev pub is_not_joined : Context → Statement → Bool
is_not_joined c (Derivation Done) = not (are_joined (elements_at c))
is_not_joined c s = false

-- whether a reason applies to a statement
abbrev pub applies : Context → Statement → Reason → Bool
applies c s BadReference = is_bad_reference c s
applies c s WrongColour = is_wrong_colour c s
applies c s NotNeighbours = are_not_neighbours c s
applies c s NoCommonMiddle = has_no_middle c s
applies c s CarriersMeet = do_carriers_meet c s
applies c s EndInCarrier = is_end_in_carrier c s
applies c s MiddleKind = is_middle_wrong c s
applies c s EndsDiffer = is_or s && not (have_same_ends (entries_named c s))
applies c s CommonCell = is_cell_common c s
applies c s NotEdges = is_no_edge_entry c s
applies c s BadStone = is_bad_stone c s
applies c s WrongScope = is_wrong_scope c s
applies c s NotJoined = is_not_joined c s

-- the first reason, in that order, that applies to a statement
unfoldable pub reason_against : Context → Statement → Option Reason
reason_against c s = find (applies c s) order

-- the number by which texts name a reason
abbrev pub number_of_reason : Reason → ℕ
number_of_reason BadReference = 1
number_of_reason WrongColour = 2
number_of_reason NotNeighbours = 3
number_of_reason NoCommonMiddle = 4
number_of_reason CarriersMeet = 5
number_of_reason EndInCarrier = 6
number_of_reason MiddleKind = 7
number_of_reason EndsDiffer = 8
number_of_reason CommonCell = 9
number_of_reason NotEdges = 10
number_of_reason BadStone = 11
number_of_reason WrongScope = 12
number_of_reason NotJoined = 13
