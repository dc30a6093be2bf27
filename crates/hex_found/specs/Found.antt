-- Certificates that say who wins a position p with `mover` to place next.
use Rattle.std.specs.Prelude.{◌≡◌}
use Rattle.std.specs.Prelude.{if◌then◌else◌}
use Rattle.hex_cells.specs.Colours.{is_same}
use Rattle.hex_cells.specs.declared.colours.Colour.{Colour}
use Rattle.hex_board.specs.Positions.{Position}
use Rattle.hex_board.specs.Wins.{Wins}
use Rattle.conn_store.specs.declared.entries.Kind.{Kind}
use Rattle.conn_store.specs.declared.entries.Kind.TheVariants.{Full, Semi}
use Rattle.win_cert.specs.Verdicts.{Accepted, IsVerdict}
use Rattle.win_cert.specs.Versions.{version_for}
use Rattle.win_cert.specs.Writable.{IsWritable}
use Rattle.win_cert.specs.declared.certs.Cert.{Cert}
use Rattle.win_cert.specs.declared.verdicts.Verdict.TheVariants.{Yes}
use Rattle.hex_found.specs.declared.certificates.Found.{Found}

-- what is claimed for the winner: that he wins by moving first, or even with the other to move
abbrev pub claim_for : Colour → Colour → Kind
claim_for winner mover = if is_same winner mover then Semi else Full

-- the certificate has the version that its lines need, can be written, is accepted, is of this
-- board and player, and claims that he wins
pub record Certifies (p : Position) (mover winner : Colour) (cert : Cert) : Type 0 where
  pub version : cert.version ≡ version_for cert.lines
  pub writable : IsWritable cert
  pub accepted : Accepted cert
  pub board : cert.board ≡ p
  pub player : cert.player ≡ winner
  pub claims : cert.claim ≡ claim_for winner mover

-- the winner wins p, by this certificate
pub record IsCertifiedWinner (p : Position) (mover winner : Colour) (cert : Cert) : Type 0 where
  pub certified : Certifies p mover winner cert
  pub wins : Wins winner p mover

-- the certificate's player wins p by it, and the carrier is that of what it claims
pub record IsFound (p : Position) (mover : Colour) (found : Found) : Type 0 where
  pub wins : IsCertifiedWinner p mover found.cert.player found.cert
  pub verdict : IsVerdict found.cert (Yes found.cert.claim found.carrier)
