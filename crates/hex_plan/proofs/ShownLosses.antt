-- What shows that a board is lost.
use Rattle.std.proofs.Common.{◌≡◌, refl, sym, ◌∙◌, subst}
use Rattle.hex_cells.specs.Colours.{other_of}
use Rattle.hex_cells.specs.declared.colours.Colour.{Colour}
use Rattle.hex_cells.specs.declared.colours.Colour.TheVariants.{Black, White}
use Rattle.hex_board.specs.Positions.{Position}
use Rattle.conn_store.specs.declared.entries.Kind.{Kind}
use Rattle.conn_store.specs.declared.entries.Kind.TheVariants.{Full}
use Rattle.win_cert.specs.Verdicts.{IsVerdict}
use Rattle.win_cert.specs.declared.certs.Cert.{Cert}
use Rattle.win_cert.specs.declared.verdicts.Verdict.TheVariants.{Yes}
use Rattle.hex_found.specs.Found.{Certifies, IsFound, claim_for}
use Rattle.hex_found.specs.declared.certificates.Found.{Found}
use Rattle.hex_plan.specs.Resting.{IsFoundThreat}

other_is : (a b : Colour) → (a ≡ b → ⊥) → a ≡ other_of b
other_is Black Black n = absurd (n refl)
other_is Black White n = refl
other_is White Black n = refl
other_is White White n = absurd (n refl)

claims_full : (player : Colour) → claim_for (other_of player) player ≡ Full
claims_full Black = refl
claims_full White = refl

-- the certificate that was found is the other player's
pub found_loss : (board : Position) (player : Colour) (found : Found) (copy : Cert)
    → IsFound board player found → (found.cert.player ≡ player → ⊥) → copy ≡ found.cert
    → Certifies board player (other_of player) copy
found_loss board player found copy h n same =
    subst (Certifies board player (other_of player)) (sym same)
    (subst (λ (v : Colour). Certifies board player v found.cert)
    (other_is found.cert.player player n) h.wins.certified)

-- and the threat that it is
pub found_threat : (board : Position) (player : Colour) (found : Found)
    → IsFound board player found → (found.cert.player ≡ player → ⊥)
    → IsFoundThreat board player (record { cert = found.cert; carrier = found.carrier })
found_threat board player found h n =
    let certifies = found_loss board player found found.cert h n refl in
    let claim : found.cert.claim ≡ Full = certifies.claims ∙ claims_full player in
    record {
      certifies = certifies;
      verdict = subst (λ (k : Kind). IsVerdict found.cert (Yes k found.carrier)) claim h.verdict;
    }
