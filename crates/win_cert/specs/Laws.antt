-- What the law of accepted certificates says.
use Rattle.std.specs.Prelude.{◌≡◌, ℕ, true, Some}
use Rattle.std.specs.List.{slice_get}
use Rattle.hex_cells.specs.Colours.{other_of}
use Rattle.hex_cells.specs.declared.colours.Colour.{Colour}
use Rattle.hex_board.specs.Positions.{is_empty_at, placed}
use Rattle.hex_board.specs.Wins.{Wins}
use Rattle.conn_store.specs.declared.entries.Kind.{Kind}
use Rattle.conn_store.specs.declared.entries.Kind.TheVariants.{Full, Semi}
use Rattle.win_cert.specs.Entries.{ScopedEntry, IsTrueInScope, context_at, entry_at}
use Rattle.win_cert.specs.Scopes.{player_board}
use Rattle.win_cert.specs.declared.certs.Cert.{Cert}
use Rattle.win_cert.specs.declared.lines.Line.TheVariants.{Move}

-- who moves first where the player wins by a claim of that kind: himself, or even the opponent
abbrev pub first_mover : Kind → Colour → Colour
first_mover Semi player = player
first_mover Full player = other_of player

-- the player wins the certificate's board as the claim says
abbrev pub WinsAsClaimed : Cert → Type 0
WinsAsClaimed cert = Wins cert.player cert.board (first_mover cert.claim cert.player)

-- each entry that one of the first n lines gives is true on the board of its scope
abbrev pub GivesTrueEntries : Cert → ℕ → Type 0
GivesTrueEntries cert n = (i : ℕ) (a : ScopedEntry)
    → entry_at (context_at cert n) i ≡ Some a → IsTrueInScope (player_board cert) a

-- the claimed line is a `move`, and this is its cell
abbrev pub ClaimsMove : Cert → ℕ → Type 0
ClaimsMove cert k = (i : ℕ) × (slice_get cert.lines cert.entry ≡ Some (Move k i))

-- cell k is empty, and after the player's stone there he wins against every reply
pub record WinsByCell (cert : Cert) (k : ℕ) : Type 0 where
  pub empty : is_empty_at cert.board k ≡ true
  pub wins : Wins cert.player (placed cert.board cert.player k) (other_of cert.player)
