-- What the checker keeps between two lines. No clause of a public call cites this.
use Rattle.std.specs.Prelude.{◌≡◌, ℕ, ◌<◌, ◌||◌, Bool, true, false}
use Rattle.std.specs.Prelude.{List, Option, Some, None, Result, Ok, Err, All}
use Rattle.std.specs.Option.{option_map}
use Rattle.conn_store.specs.declared.entries.Kind.{Kind}
use Rattle.hex_board.specs.Elements.{PlayerBoard, element_count}
use Rattle.hex_board.specs.Positions.{AllEmpty, Position}
use Rattle.win_cert.specs.Entries.{Context, ScopedEntry, entry_at, gives}
use Rattle.win_cert.specs.Reasons.{is_bad_reference, is_wrong_scope, reason_against}
use Rattle.win_cert.specs.Scopes.{elements_in}
use Rattle.win_cert.specs.Statements.{is_chain, is_edge_entry, is_or}
use Rattle.win_cert.specs.declared.statements.Statement.{Statement}
use Rattle.win_cert.specs.declared.statements.Statement.TheVariants.{Claim, Derivation}
use Rattle.win_cert.specs.Statements.{kind_taken, numbers_in}
use Rattle.win_cert.specs.declared.lines.Line.{Line}
use Rattle.win_cert.specs.declared.lines.Line.TheVariants.{And, Key}
use Rattle.win_cert.specs.declared.reasons.Reason.{Reason}
use Rattle.cert_check.specs.declared.given.Given.{Given}

-- the entry that was given
abbrev pub entry_of : Given → ScopedEntry
entry_of g = record { kind = g.kind; x = g.x; y = g.y; carrier = g.carrier; scope = g.scope }

-- the elements of what was given are some of the board of its scope, and it is told whether they
-- are those of the player's edges there
pub record IsGivenOn (base : PlayerBoard) (g : Given) : Type 0 where
  pub x : g.x < element_count (elements_in base g.scope)
  pub y : g.y < element_count (elements_in base g.scope)
  pub edges : g.of_edges ≡ is_edge_entry base (entry_of g)

-- the same, if something was given
abbrev pub IsGivenOnIf : PlayerBoard → Option Given → Type 0
IsGivenOnIf base None = Unit {0}
IsGivenOnIf base (Some g) = IsGivenOn base g

-- what a line gives, if a reason doesn't stand against it: else the first reason
abbrev pub ReadsLine : Context → Line → Result (Option Given) Reason → Type 0
ReadsLine c line (Ok g) =
    (reason_against c (Derivation line) ≡ None) × (gives c line ≡ option_map entry_of g)
    × IsGivenOnIf c.base g
ReadsLine c line (Err reason) = reason_against c (Derivation line) ≡ Some reason

-- there is no reason against a line, or this is the first
abbrev pub AllowsLine : Context → Line → Result (Unit {0}) Reason → Type 0
AllowsLine c line (Ok t) = reason_against c (Derivation line) ≡ None
AllowsLine c line (Err reason) = reason_against c (Derivation line) ≡ Some reason

-- there is no reason against the claim of this kind and number, and it is of this entry, or there
-- is a first one
abbrev pub ReadsClaim : Context → Kind → ℕ → Result Given Reason → Type 0
ReadsClaim c kind i (Ok g) =
    (reason_against c (Claim kind i) ≡ None) × (entry_at c i ≡ Some (entry_of g))
ReadsClaim c kind i (Err reason) = reason_against c (Claim kind i) ≡ Some reason

-- an entry that was given by a line, or the first reason against it
abbrev pub DerivesLine : Context → Line → Result Given Reason → Type 0
DerivesLine c line (Ok g) =
    (reason_against c (Derivation line) ≡ None) × (gives c line ≡ Some (entry_of g))
    × IsGivenOn c.base g
DerivesLine c line (Err reason) = reason_against c (Derivation line) ≡ Some reason

-- the statement takes entries of this kind, and of two elements if `apart` holds
abbrev pub TakesKind : Statement → Kind → Bool → Type 0
TakesKind s kind apart = (kind_taken s ≡ kind) × ((is_chain s || is_or s) ≡ apart)

-- `key` if the middle is to be a cell, else `and`
abbrev pub chain_line : Bool → ℕ → ℕ → Line
chain_line true i j = Key i j
chain_line false i j = And i j

-- the line is an `or` of these numbers
abbrev pub IsOrOf : Line → List ℕ → Type 0
IsOrOf line numbers = (is_or (Derivation line) ≡ true) × (numbers_in (Derivation line) ≡ numbers)

-- a and b are the entries that `and` or `key` names: there are such, and they stand in the scope
pub record AreBothNamed (c : Context) (over_cell : Bool) (i j : ℕ) (a b : Given) : Type 0 where
  pub first : entry_at c i ≡ Some (entry_of a)
  pub second : entry_at c j ≡ Some (entry_of b)
  pub references : is_bad_reference c (Derivation (chain_line over_cell i j)) ≡ false
  pub scopes : is_wrong_scope c (Derivation (chain_line over_cell i j)) ≡ false
  pub first_scope : a.scope ≡ c.scope
  pub second_scope : b.scope ≡ c.scope
  pub first_given : IsGivenOn c.base a
  pub second_given : IsGivenOn c.base b

-- what is kept of a board, a scope, its board and elements, and what the lines gave
pub record IsChecker (base : PlayerBoard) (scope : ℕ) (board : Position) (elements : PlayerBoard)
    (given : List (Option Given)) : Type 0 where
  pub is_board : board ≡ (elements_in base scope).board
  pub are_elements : elements ≡ elements_in base scope
  pub fresh : AllEmpty base.board scope
  pub are_given : All (IsGivenOnIf base) given
