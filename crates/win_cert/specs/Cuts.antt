-- What is cut from a report: a certificate of an entry between the player's edges.
use Rattle.std.specs.Prelude.{◌≡◌, ℕ, ◌<◌, ◌==◌, Bool, true, false, List, [], ◌∷◌, Some}
use Rattle.std.specs.Prelude.{All, map, length, get_or, slice_index, suc, if◌then◌else◌}
use Rattle.std.specs.List.{slice_get}
use Rattle.hex_board.specs.Elements.{edge_element}
use Rattle.conn_store.specs.Entries.{IsBetween}
use Rattle.conn_store.specs.Stores.{StoreData}
use Rattle.conn_store.specs.declared.entries.Cause.{Cause}
use Rattle.conn_store.specs.declared.entries.Cause.TheVariants.{Adjacent, AndGroup, AndEmpty, Or}
use Rattle.conn_store.specs.declared.entries.Entry.{Entry}
use Rattle.conn_store.specs.declared.entries.Held.{Held}
use Rattle.conn_store.specs.declared.entries.Kind.{Kind}
use Rattle.conn_store.specs.declared.entries.Kind.TheVariants.{Full}
use Rattle.win_cert.specs.Entries.{ScopedEntry, entries_below}
use Rattle.win_cert.specs.Verdicts.{IsVerdict}
use Rattle.win_cert.specs.declared.verdicts.Verdict.TheVariants.{Yes}
use Rattle.win_cert.specs.Versions.{version_for}
use Rattle.win_cert.specs.Writable.{IsWritable}
use Rattle.win_cert.specs.declared.certs.Cert.{Cert}
use Rattle.win_cert.specs.declared.certs.TheConstants.{FIRST_VERSION}

-- entry n of the store is this one, and it is between the player's two edges
abbrev pub IsEdgeEntryAt : StoreData → ℕ → Entry → Type 0
IsEdgeEntryAt d n a = (slice_get d.entries n ≡ Some a)
    × IsBetween a (edge_element d.elements false) (edge_element d.elements true)

-- the store has an entry n, between the player's two edges
abbrev pub HasEdgeEntryAt : StoreData → ℕ → Type 0
HasEdgeEntryAt d n = (a : Entry) × IsEdgeEntryAt d n a

-- these are the numbers of the store's entries of that kind between the player's two edges
pub record AreEdgeNumbers (d : StoreData) (kind : Kind) (h : Held) : Type 0 where
  pub each : (j : ℕ) → j < h.count
      → (a : Entry) × IsEdgeEntryAt d (slice_index h.at j) a × (a.kind ≡ kind)
  pub all : (n : ℕ) (a : Entry) → IsEdgeEntryAt d n a → a.kind ≡ kind
      → (j : ℕ) × (j < h.count) × (slice_index h.at j ≡ n)

-- the certificate is one of the first version on the store's board, for its player, which can be
-- written and is accepted with the kind and the carrier of the entry
pub record CertifiesEntry (d : StoreData) (a : Entry) (cert : Cert) : Type 0 where
  pub version : cert.version ≡ FIRST_VERSION
  pub board : cert.board ≡ d.elements.board
  pub player : cert.player ≡ d.elements.player
  pub verdict : IsVerdict cert (Yes a.kind a.carrier)
  pub writable : IsWritable cert

-- the certificate shows entry n of the store
abbrev pub CertifiesEntryAt : StoreData → ℕ → Cert → Type 0
CertifiesEntryAt d n cert = (a : Entry) → IsEdgeEntryAt d n a → CertifiesEntry d a cert

-- the certificate has the version that its lines need, is one on the store's board, for its player,
-- and claims that he wins whoever places first
pub record IsDraftOf (d : StoreData) (cert : Cert) : Type 0 where
  pub version : cert.version ≡ version_for cert.lines
  pub board : cert.board ≡ d.elements.board
  pub player : cert.player ≡ d.elements.player
  pub claim : cert.claim ≡ Full

-- ---- the entries on which an entry rests

-- the numbers of the premises of an entry with that cause
abbrev pub premises : Cause → List ℕ
premises Adjacent = []
premises (AndGroup i j) = i ∷ j ∷ []
premises (AndEmpty i j) = i ∷ j ∷ []
premises (Or numbers count) =
    get_or numbers 0 0 ∷ get_or numbers 1 0 ∷ (if count == 2 then [] else get_or numbers 2 0 ∷ [])

-- the set has entry n, and with each entry its premises
pub record IsClosedSet (entries : List Entry) (n : ℕ) (set : ℕ → Bool) : Type 0 where
  pub asked : set n ≡ true
  pub closed : (i : ℕ) (a : Entry) → set i ≡ true → slice_get entries i ≡ Some a
      → All (λ j. set j ≡ true) (premises a.cause)

-- the set is the least such set: entry n rests on the entries in it
pub record IsSupport (entries : List Entry) (n : ℕ) (set : ℕ → Bool) : Type 0 where
  pub closed : IsClosedSet entries n set
  pub least : (other : ℕ → Bool) → IsClosedSet entries n other
      → (i : ℕ) → set i ≡ true → other i ≡ true

-- the entries whose numbers are in the set, in their order
abbrev pub entries_numbered : (ℕ → Bool) → List Entry → List Entry
entries_numbered set [] = []
entries_numbered set (a ∷ entries) = if set 0 then a ∷ entries_numbered (λ i. set (suc i)) entries
    else entries_numbered (λ i. set (suc i)) entries

-- these are the entries on which entry n rests, in their order, each once
abbrev pub RestOn : List Entry → ℕ → List Entry → Type 0
RestOn entries n own =
    (set : ℕ → Bool) × IsSupport entries n set × (own ≡ entries_numbered set entries)

-- the entry of a line for entry a of a store, in the scope s
abbrev pub scoped : ℕ → Entry → ScopedEntry
scoped s a = record { kind = a.kind; x = a.x; y = a.y; carrier = a.carrier; scope = s }

-- the lines of the certificate give the entries on which entry n of the store rests, in the store's
-- order and each once, and nothing else
abbrev pub HasLinesFor : StoreData → ℕ → Cert → Type 0
HasLinesFor d n cert = (own : List Entry) × RestOn d.entries n own
    × (entries_below cert (length cert.lines) ≡ map (λ a. Some (scoped 0 a)) own)
