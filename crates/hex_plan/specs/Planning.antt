-- What the calls say that make a plan. Only private clauses cite this.
use Rattle.std.specs.Prelude.{◌≡◌, ℕ, ◌<◌, ◌≤◌, List}
use Rattle.std.specs.Prelude.{Bool, true, IfSome, Option, Some, MatchOption, length, slice_index}
use Rattle.std.specs.List.{slice_get}
use Rattle.conn_store.specs.Stores.{StoreData}
use Rattle.conn_store.specs.declared.entries.Entry.{Entry}
use Rattle.conn_store.specs.declared.entries.Held.{Held}
use Rattle.win_cert.specs.Cuts.{CertifiesEntry, HasLinesFor, IsEdgeEntryAt}
use Rattle.hex_cells.specs.declared.colours.Colour.{Colour}
use Rattle.hex_board.specs.Positions.{Position}
use Rattle.win_cert.specs.declared.certs.Cert.{Cert}
use Rattle.hex_cells.specs.Colours.{other_of}
use Rattle.hex_found.specs.Found.{Certifies}
use Rattle.hex_plan.specs.Plans.{IsLossOf}
use Rattle.hex_plan.specs.Resting.{IsFoundPlan}
use Rattle.hex_plan.specs.declared.threats.Threat.{Threat}
use Rattle.hex_plan.specs.declared.types.Plan.{Plan}

-- the threat was cut from entry n of the store, between the two edges, with the lines on which it
-- rests, and has its carrier
abbrev pub ShowsEntryAt : StoreData → ℕ → Threat → Type 0
ShowsEntryAt d n t = (a : Entry) → IsEdgeEntryAt d n a
    → CertifiesEntry d a t.cert × HasLinesFor d n t.cert × (t.carrier ≡ a.carrier)

-- these are numbers of entries
abbrev pub AreWithin : List Entry → Held → Type 0
AreWithin entries h = (j : ℕ) → j < h.count → slice_index h.at j < length entries

-- the entry at place j of the numbers is this one
abbrev pub IsAt : List Entry → Held → ℕ → Entry → Type 0
IsAt entries h j a = slice_get entries (slice_index h.at j) ≡ Some a

-- the carriers of the entries at the first m places are below the bound
abbrev pub AreBelow : List Entry → Held → ℕ → ℕ → Type 0
AreBelow entries h bound m =
    (j : ℕ) (a : Entry) → j < m → IsAt entries h j a → a.carrier < bound

-- entry n stands at one of the first m places, and its carrier is least among theirs that are not
-- below the bound
pub record HasLeast (entries : List Entry) (h : Held) (bound m n : ℕ) : Type 0 where
  pub place : ℕ
  pub before : place < m
  pub number : slice_index h.at place ≡ n
  pub entry : Entry
  pub at : slice_get entries n ≡ Some entry
  pub from : bound ≤ entry.carrier
  pub least : (j : ℕ) (a : Entry) → j < m → IsAt entries h j a → bound ≤ a.carrier
      → entry.carrier ≤ a.carrier

-- what is answered for the first m places: such a number, if there is one
abbrev pub IsLeastOf : List Entry → Held → ℕ → ℕ → Option ℕ → Type 0
IsLeastOf entries h bound m best =
    MatchOption best (AreBelow entries h bound m) (HasLeast entries h bound m)

-- the budget is not 0, and the plan rests on a certificate that was found, which is that of a loss
-- too
pub record IsFoundFor (board : Position) (player : Colour) (budget : ℕ) (plan : Plan)
    (loss : Option Cert) : Type 0 where
  pub some : 0 < budget
  pub found : IsFoundPlan board player plan
  pub shown : IsLossOf board player plan loss

-- the certificate, if there is one, shows that the board is lost, and it is known to be
abbrev pub IsLossWhere : Position → Colour → Bool → Option Cert → Type 0
IsLossWhere board player lost loss =
    IfSome loss (λ cert. (lost ≡ true) × Certifies board player (other_of player) cert)
