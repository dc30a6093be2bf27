-- What a plan rests on: reports of connections, or a certificate that was found.
use Rattle.std.specs.Prelude.{◌≡◌, ◌<◌, ◌↔◌, ◌⊎◌, ℕ, Bool, true, false, zero, suc}
use Rattle.std.specs.Prelude.{List, [], ◌∷◌, Some, All}
use Rattle.std.specs.List.{slice_get}
use Rattle.hex_cells.specs.Colours.{other_of}
use Rattle.hex_cells.specs.Sets.{has}
use Rattle.hex_cells.specs.declared.colours.Colour.{Colour}
use Rattle.hex_board.specs.Positions.{Position}
use Rattle.conn_store.specs.Entries.{IsBetween}
use Rattle.conn_store.specs.Rules.{AreAt, IsCell, IsChain}
use Rattle.conn_store.specs.Stores.{StoreData}
use Rattle.conn_store.specs.declared.entries.Cause.TheVariants.{AndEmpty}
use Rattle.conn_store.specs.declared.entries.Entry.{Entry}
use Rattle.conn_store.specs.declared.entries.Kind.{Kind}
use Rattle.conn_store.specs.declared.entries.Kind.TheVariants.{Full, Semi}
use Rattle.hsearch.specs.Closed.{IsReportOf}
use Rattle.hex_found.specs.Found.{Certifies}
use Rattle.tree_words.specs.Complete.{HasEmpties}
use Rattle.win_cert.specs.Cuts.{CertifiesEntry, HasLinesFor, IsEdgeEntryAt}
use Rattle.win_cert.specs.Laws.{ClaimsMove}
use Rattle.win_cert.specs.Verdicts.{IsVerdict}
use Rattle.win_cert.specs.declared.certs.Cert.{Cert}
use Rattle.win_cert.specs.declared.verdicts.Verdict.TheVariants.{Yes}
use Rattle.hex_plan.specs.Plans.{AreRising, IsInEach}
use Rattle.hex_plan.specs.declared.types.Plan.{Plan}
use Rattle.hex_plan.specs.declared.types.Plan.TheVariants.{Win, Search}
use Rattle.hex_plan.specs.declared.threats.Threat.{Threat}

-- the entry is one of the store, between the player's two edges
abbrev pub IsEdgeEntry : StoreData → Entry → Type 0
IsEdgeEntry d a = (n : ℕ) × IsEdgeEntryAt d n a

-- ---- a win

-- the entry follows by a rule of AND over the empty cell k
pub record IsMiddle (d : StoreData) (a : Entry) (k : ℕ) : Type 0 where
  pub numbers : ℕ × ℕ
  pub cause : a.cause ≡ AndEmpty numbers.0 numbers.1
  pub parts : Entry × Entry
  pub at : AreAt d.entries (numbers.0 ∷ numbers.1 ∷ []) (parts.0 ∷ parts.1 ∷ [])
  pub ends : ℕ × ℕ
  pub middle : ℕ
  pub chain : IsChain parts.0 parts.1 ends.0 middle ends.1
  pub pair : IsBetween a ends.0 ends.1
  pub cell : IsCell d.elements middle k

-- the cell by which an entry of that kind wins: the middle of a semi one, and the least cell of the
-- carrier of a full one
abbrev pub IsWinningCell : StoreData → Entry → Kind → ℕ → Type 0
IsWinningCell d a Semi k = IsMiddle d a k
IsWinningCell d a Full k =
    (has a.carrier k ≡ true) × ((j : ℕ) → j < k → has a.carrier j ≡ false)

-- the certificate was cut from an entry between the player's two edges of his report on the board,
-- with the lines on which the entry rests, and the cell is the one by which this entry wins
pub record IsConnectedWin (board : Position) (player : Colour) (cert : Cert) (cell : ℕ)
    (own : StoreData) : Type 0 where
  pub report : IsReportOf board player own
  pub entry : Entry
  pub edges : IsEdgeEntry own entry
  pub cut : CertifiesEntry own entry cert
  pub lines : HasLinesFor own edges.0 cert
  pub winning : IsWinningCell own entry entry.kind cell

-- the certificate was found: it has the version that its lines need, is accepted, is of the board
-- and the player, claims that he wins by placing first, and does so by a `move`, whose cell is this
-- one
pub record IsFoundWin (board : Position) (player : Colour) (cert : Cert) (cell : ℕ) : Type 0 where
  pub certifies : Certifies board player player cert
  pub moved : ClaimsMove cert cell

-- ---- threats, and the mustplay region

-- the threat was cut from a semi entry between the two edges, with the lines on which it rests, and
-- has its carrier
pub record IsThreat (d : StoreData) (t : Threat) : Type 0 where
  pub entry : Entry
  pub edges : IsEdgeEntry d entry
  pub semi : entry.kind ≡ Semi
  pub carrier : t.carrier ≡ entry.carrier
  pub cut : CertifiesEntry d entry t.cert
  pub lines : HasLinesFor d edges.0 t.cert

-- these are the threats of the store: one for each semi entry between the two edges, by rising
-- carriers
pub record AreThreats (d : StoreData) (threats : List Threat) : Type 0 where
  pub cut : All (IsThreat d) threats
  pub all : (a : Entry) → IsEdgeEntry d a → a.kind ≡ Semi
      → (i : ℕ) × (t : Threat) × (slice_get threats i ≡ Some t) × (t.carrier ≡ a.carrier)
  pub rising : AreRising threats

-- the mustplay region: the empty cells that lie in each threat's carrier; if there is none, the
-- board is lost, and all empty cells are allowed
pub record IsMustplay (board : Position) (threats : List Threat) (allowed : ℕ)
    (lost : Bool) : Type 0 where
  pub none : (lost ≡ true) ↔ ((k : ℕ) → ¬ (IsInEach board threats k))
  pub narrowed : lost ≡ false → (k : ℕ) → (has allowed k ≡ true) ↔ IsInEach board threats k
  pub free : lost ≡ true → HasEmpties allowed board

-- the player's own report has no entry between his two edges, and the threats are those of the
-- other's report
pub record IsNarrowed (board : Position) (player : Colour) (threats : List Threat) (allowed : ℕ)
    (lost : Bool) (own other : StoreData) : Type 0 where
  pub own_report : IsReportOf board player own
  pub unjoined : (a : Entry) → ¬ (IsEdgeEntry own a)
  pub other_report : IsReportOf board (other_of player) other
  pub are_threats : AreThreats other threats
  pub mustplay : IsMustplay board threats allowed lost

-- the certificate of the threat was found: it has the version that its lines need, is accepted, is
-- of the board and the other player, and claims that he wins whoever places first; the carrier is
-- that of the claim
pub record IsFoundThreat (board : Position) (player : Colour) (t : Threat) : Type 0 where
  pub certifies : Certifies board player (other_of player) t.cert
  pub verdict : IsVerdict t.cert (Yes Full t.carrier)

-- ---- plans

-- the plan rests on connections: a win by the own report, or a search by the reports of both
abbrev pub IsConnected : Position → Colour → Plan → Type 0
IsConnected board player (Win cert cell) =
    (own : StoreData) × IsConnectedWin board player cert cell own
IsConnected board player (Search threats allowed lost) =
    (own : StoreData) × (other : StoreData)
    × IsNarrowed board player threats allowed lost own other

-- the plan rests on a certificate that was found: a win by it; or, if the other player wins, a
-- search among all empty cells of a lost board, with this certificate as the only threat
abbrev pub IsFoundPlan : Position → Colour → Plan → Type 0
IsFoundPlan board player (Win cert cell) = IsFoundWin board player cert cell
IsFoundPlan board player (Search threats allowed lost) =
    (threat : Threat) × (threats ≡ threat ∷ []) × IsFoundThreat board player threat
    × HasEmpties allowed board × (lost ≡ true)

-- the player's own report has no entry between his two edges, and the plan rests on a certificate
-- that was found
pub record IsSolved (board : Position) (player : Colour) (plan : Plan) : Type 0 where
  pub found : IsFoundPlan board player plan
  pub own : StoreData
  pub own_report : IsReportOf board player own
  pub unjoined : (a : Entry) → ¬ (IsEdgeEntry own a)

-- what a plan rests on if connections are looked for or not, and certificates with this budget:
-- with 0 on connections alone
abbrev pub RestsOn : Position → Colour → Bool → ℕ → Plan → Type 0
RestsOn board player false budget plan = Unit {0}
RestsOn board player true zero plan = IsConnected board player plan
RestsOn board player true (suc less) plan =
    IsConnected board player plan ⊎ IsSolved board player plan
