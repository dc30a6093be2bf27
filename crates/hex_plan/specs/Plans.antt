-- What is planned before a search: a certified win, or the cells among which is searched.
use Rattle.std.specs.Prelude.{◌≡◌, ◌<◌, ◌≤◌, ◌+◌, ◌==◌, ◌↔◌, ℕ, Bool, true, false}
use Rattle.std.specs.Prelude.{if◌then◌else◌}
use Rattle.std.specs.Prelude.{List, [], ◌∷◌, Option, None, All, IfSome}
use Rattle.hex_cells.specs.Colours.{other_of}
use Rattle.hex_cells.specs.Sets.{has}
use Rattle.hex_cells.specs.declared.colours.Colour.{Colour}
use Rattle.hex_board.specs.Positions.{AllEmpty, Position, is_empty_at, placed}
use Rattle.hex_board.specs.Wins.{Wins}
use Rattle.conn_store.specs.declared.entries.Kind.{Kind}
use Rattle.hex_found.specs.Found.{Certifies}
use Rattle.tree_words.specs.Complete.{HasEmpties}
use Rattle.tree_words.specs.Settings.{IsAny}
use Rattle.win_cert.specs.Verdicts.{Accepted, IsVerdict}
use Rattle.win_cert.specs.Writable.{IsWritable}
use Rattle.win_cert.specs.declared.certs.Cert.{Cert}
use Rattle.win_cert.specs.declared.verdicts.Verdict.TheVariants.{Yes}
use Rattle.hex_plan.specs.declared.settings.Means.{Means}
use Rattle.hex_plan.specs.declared.settings.TheConstants.{SOLVE_AFTER}
use Rattle.hex_plan.specs.declared.types.Plan.{Plan}
use Rattle.hex_plan.specs.declared.types.Plan.TheVariants.{Win, Search}
use Rattle.hex_plan.specs.declared.plans.Planned.{Planned}
use Rattle.hex_plan.specs.declared.threats.Threat.{Threat}

-- ---- a win

-- after the player's stone on cell k he wins against every reply
abbrev pub WinsBy : Position → Colour → ℕ → Type 0
WinsBy board player k = Wins player (placed board player k) (other_of player)

-- the certificate can be written, is accepted, and is of this board and player, who wins after his
-- stone on the cell, which is empty
pub record IsCertifiedWin (p : Position) (mover : Colour) (cert : Cert) (cell : ℕ) : Type 0 where
  pub writable : IsWritable cert
  pub accepted : Accepted cert
  pub board : cert.board ≡ p
  pub player : cert.player ≡ mover
  pub empty : is_empty_at p cell ≡ true
  pub wins : WinsBy p mover cell

-- ---- threats, and the cells that are left

-- after the player's stone on cell k the other player wins with himself to move
abbrev pub LosesBy : Position → Colour → ℕ → Type 0
LosesBy board player k = Wins (other_of player) (placed board player k) (other_of player)

-- the certificate is accepted with this carrier, and is of this board and the other player: each
-- move outside the carrier loses
pub record IsCertifiedThreat (p : Position) (mover : Colour) (t : Threat) : Type 0 where
  pub board : t.cert.board ≡ p
  pub player : t.cert.player ≡ other_of mover
  pub verdict : (kind : Kind) × IsVerdict t.cert (Yes kind t.carrier)
  pub outside : (k : ℕ) → is_empty_at p k ≡ true → has t.carrier k ≡ false → LosesBy p mover k

-- the carriers rise, as numbers
abbrev pub AreRising : List Threat → Type 0
AreRising [] = Unit {0}
AreRising (t ∷ ts) = All (λ u. t.carrier < u.carrier) ts × AreRising ts

-- the empty cell k lies in the carrier of each threat
abbrev pub IsInEach : Position → List Threat → ℕ → Type 0
IsInEach board threats k =
    (is_empty_at board k ≡ true) × All (λ t. has t.carrier k ≡ true) threats

-- the threats are certified, by rising carriers; on a lost board all empty cells are allowed, and
-- each loses; else those that lie in each threat's carrier are, the mustplay region
pub record IsSearchPlan (board : Position) (player : Colour) (threats : List Threat) (allowed : ℕ)
    (lost : Bool) : Type 0 where
  pub certified : All (IsCertifiedThreat board player) threats
  pub rising : AreRising threats
  pub narrowed : lost ≡ false → (k : ℕ) → (has allowed k ≡ true) ↔ IsInEach board threats k
  pub free : lost ≡ true → HasEmpties allowed board
  pub loses : lost ≡ true → (k : ℕ) → is_empty_at board k ≡ true → LosesBy board player k

-- ---- plans

-- a certified win, or a search
abbrev pub IsPlan : Position → Colour → Plan → Type 0
IsPlan board player (Win cert cell) = IsCertifiedWin board player cert cell
IsPlan board player (Search threats allowed lost) =
    IsSearchPlan board player threats allowed lost

-- no connections were looked for: there is no threat, and all empty cells are allowed
pub record IsFree (board : Position) (p : Planned) : Type 0 where
  pub allowed : ℕ
  pub plan : p.plan ≡ Search [] allowed false
  pub empties : HasEmpties allowed board
  pub loss : p.loss ≡ None

-- what is planned if connections are looked for or not
abbrev pub IsPlannedFor : Position → Colour → Bool → Planned → Type 0
IsPlannedFor board player false p = IsFree board p
IsPlannedFor board player true p = IsPlan board player p.plan

-- the plan is a win
abbrev pub IsWin : Plan → Type 0
IsWin (Win cert cell) = Unit {0}
IsWin (Search threats allowed lost) = ⊥

-- the plan is a search of a lost board
abbrev pub IsLost : Plan → Type 0
IsLost (Win cert cell) = ⊥
IsLost (Search threats allowed lost) = lost ≡ true

-- a certificate of a loss, if there is one, stands beside the plan of a lost board alone, and shows
-- that it is lost
abbrev pub IsLossOf : Position → Colour → Plan → Option Cert → Type 0
IsLossOf board player plan loss =
    IfSome loss (λ cert. IsLost plan × Certifies board player (other_of player) cert)

-- the means without a look-ahead
abbrev pub unlooked : Means → Means
unlooked means = record means { look = 0 }

-- how many positions the solver may enter after the stone of a look-ahead, if there is one: as many
-- as before it, or so many if that is none
abbrev pub most_after : Means → ℕ
most_after means = if means.look == 0 then 0
    else (if means.solve == 0 then SOLVE_AFTER else means.solve)

-- how many positions the solver may enter with these means, before a look-ahead and after its
-- stone: none if no connections are looked for
abbrev pub most_entered : Means → ℕ
most_entered means = if means.hsearch then means.solve + most_after means else 0

-- what is planned with these means on the board for the player to move, by entering at most as many
-- positions as they say
pub record IsPlanned (board : Position) (player : Colour) (means : Means)
    (p : Planned) : Type 0 where
  pub plan : IsPlannedFor board player means.hsearch p
  pub within : p.entered ≤ most_entered means
  pub loss : IsLossOf board player p.plan p.loss

-- the plan is a win by cell k
abbrev pub IsWinBy : Plan → ℕ → Type 0
IsWinBy (Win cert cell) k = cell ≡ k
IsWinBy (Search threats allowed lost) k = ⊥

-- the plan is a search among these cells
abbrev pub IsSearchAmong : Plan → ℕ → Type 0
IsSearchAmong (Win cert cell) set = ⊥
IsSearchAmong (Search threats allowed lost) set = allowed ≡ set

-- a search of the plan is among empty cells of the board, and there is one
abbrev pub AllowsEmpties : Position → Plan → Type 0
AllowsEmpties board (Win cert cell) = Unit {0}
AllowsEmpties board (Search threats allowed lost) = IsAny allowed × AllEmpty board allowed
