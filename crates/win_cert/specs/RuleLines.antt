-- What the law of lines says: which rule of connection a line without a reason against it stands
-- for.
use Rattle.std.specs.Prelude.{◌≡◌, ℕ, ◌≤◌, ◌↔◌, false, List, [], ◌∷◌, Some, None, All, map}
use Rattle.hex_cells.specs.declared.board_size.TheConstants.Size.{MAX}
use Rattle.hex_board.specs.Elements.{PlayerBoard}
use Rattle.conn_store.specs.Entries.{IsBetween, IsValid}
use Rattle.conn_store.specs.Rules.{AndRule, IsCell, IsGroup, OrRule, is_in_all}
use Rattle.conn_store.specs.declared.entries.Entry.{Entry}
use Rattle.conn_store.specs.declared.entries.Kind.TheVariants.{Semi}
use Rattle.win_cert.specs.Cuts.{scoped}
use Rattle.win_cert.specs.Entries.{Context, elements_at, entry_at}
use Rattle.win_cert.specs.Reasons.{reason_against}
use Rattle.win_cert.specs.declared.statements.Statement.TheVariants.{Derivation}
use Rattle.win_cert.specs.declared.lines.Line.{Line}

-- the numbers are those of earlier lines that gave these entries in the line's scope, each a valid
-- one
pub record AreNamed (c : Context) (numbers : List ℕ) (entries : List Entry) : Type 0 where
  pub size : c.base.board.size ≤ MAX
  pub at : map (entry_at c) numbers ≡ map (λ (a : Entry). Some (scoped c.scope a)) entries
  pub valid : All (IsValid (elements_at c)) entries

-- there is no reason against the line
abbrev pub IsClear : Context → Line → Type 0
IsClear c line = reason_against c (Derivation line) ≡ None

-- the rule of AND applies to the entries over a group
abbrev pub JoinOverGroup : PlayerBoard → Entry → Entry → Type 0
JoinOverGroup e a b = (x : ℕ) × (u : ℕ) × (y : ℕ) × AndRule e a b x u y × IsGroup e u

-- the rule of AND applies to the entries over an empty cell
abbrev pub JoinOverCell : PlayerBoard → Entry → Entry → Type 0
JoinOverCell e a b =
    (x : ℕ) × (u : ℕ) × (y : ℕ) × (k : ℕ) × AndRule e a b x u y × IsCell e u k

-- the rule of OR applies to the entries
abbrev pub OrOverTwo : PlayerBoard → Entry → Entry → Type 0
OrOverTwo e a b = OrRule (a ∷ b ∷ []) a.x a.y

abbrev pub OrOverThree : PlayerBoard → Entry → Entry → Entry → Type 0
OrOverThree e a b d = OrRule (a ∷ b ∷ d ∷ []) a.x a.y

-- the rule of OR, whose reports take two or three entries, applies to any number of them: semi
-- entries of x and y, and no cell in all their carriers
pub record OrOverMany (ways : List Entry) (x y : ℕ) : Type 0 where
  pub kinds : All (λ (a : Entry). a.kind ≡ Semi) ways
  pub pairs : All (λ (a : Entry). IsBetween a x y) ways
  pub free : (k : ℕ) → is_in_all ways k ≡ false

-- of two entries that earlier lines gave in its scope, there is no reason against this form of line
-- exactly where the rule applies
abbrev pub StandsForTwo : (ℕ → ℕ → Line) → (PlayerBoard → Entry → Entry → Type 0) → Type 0
StandsForTwo line rule = (c : Context) (i j : ℕ) (a b : Entry)
    → AreNamed c (i ∷ j ∷ []) (a ∷ b ∷ []) → IsClear c (line i j) ↔ rule (elements_at c) a b

-- the same of three entries
abbrev pub StandsForThree : (ℕ → ℕ → ℕ → Line)
    → (PlayerBoard → Entry → Entry → Entry → Type 0) → Type 0
StandsForThree line rule = (c : Context) (i j k : ℕ) (a b d : Entry)
    → AreNamed c (i ∷ j ∷ k ∷ []) (a ∷ b ∷ d ∷ [])
    → IsClear c (line i j k) ↔ rule (elements_at c) a b d

-- the same of any number of entries, of which a is the first
abbrev pub StandsForMany : (List ℕ → Line) → (List Entry → ℕ → ℕ → Type 0) → Type 0
StandsForMany line rule = (c : Context) (numbers : List ℕ) (a : Entry) (others : List Entry)
    → AreNamed c numbers (a ∷ others) → IsClear c (line numbers) ↔ rule (a ∷ others) a.x a.y
