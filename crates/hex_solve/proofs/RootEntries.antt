-- What a report's semi entry between the mover's edges shows, and that there is none.
use Rattle.std.proofs.Common.{◌≡◌, ◌≤◌, All, max, sym, ◌∙◌, ap, subst, arith}
use Rattle.hex_cells.specs.declared.colours.Colour.{Colour}
use Rattle.hex_board.specs.Elements.{PlayerBoard}
use Rattle.hex_board.specs.Positions.{IsPosition, Position}
use Rattle.hex_board.specs.Wins.{Wins}
use Rattle.conn_store.specs.Stores.{StoreData}
use Rattle.conn_store.specs.declared.entries.Entry.{Entry}
use Rattle.conn_store.specs.declared.entries.Held.{Held}
use Rattle.conn_store.specs.declared.entries.Kind.{Kind}
use Rattle.conn_store.specs.declared.entries.Kind.TheVariants.{Semi}
use Rattle.win_cert.specs.Cuts.{AreEdgeNumbers, CertifiesEntry}
use Rattle.win_cert.specs.Laws.{WinsAsClaimed, first_mover}
use Rattle.win_cert.specs.Verdicts.{Accepted, HaveSameVerdict, IsVerdict, raised}
use Rattle.win_cert.specs.Versions.{version_for}
use Rattle.win_cert.specs.Writable.{HasBoard, IsLineOf, IsWritable}
use Rattle.win_cert.specs.declared.certs.Cert.{Cert}
use Rattle.win_cert.specs.declared.certs.TheConstants.{SECOND_VERSION}
use Rattle.win_cert.specs.declared.verdicts.Verdict.TheVariants.{Yes}
use Rattle.hex_solve.specs.Solved.{IsUndecided}
use Rattle.hex_found.specs.Found.{IsCertifiedWinner}
use Rattle.win_cert.proofs.VersionLines.{second_suffices}
use Rattle.hex_solve.proofs.LedgersTell.{semi_for}

pub no_semi : (d : StoreData) (h : Held) → AreEdgeNumbers d Semi h → h.count ≤ 0 → IsUndecided d
no_semi d h g l n a w k = let p = g.all n a w k in absurd (omega (arith, p.1))

-- the law of accepted certificates
abbrev pub AcceptedWins : Type 0
AcceptedWins = (cert : Cert) → HasBoard cert → Accepted cert → WinsAsClaimed cert

-- the certificate of a semi entry, in version 2, shows that the mover wins
pub certified_win : (e : PlayerBoard) (d : StoreData) (a : Entry) (cert new : Cert) → d.elements ≡ e
    → a.kind ≡ Semi → CertifiesEntry d a cert → new ≡ raised cert → IsWritable new
    → HaveSameVerdict cert new
    → IsPosition e.board.size e.board.black e.board.white → AcceptedWins
    → IsCertifiedWinner e.board e.player e.player new
certified_win e d a cert new is k c r w same on law =
    let v : IsVerdict new (Yes a.kind a.carrier) = (same (Yes a.kind a.carrier)).0 c.verdict in
    let two : new.version ≡ SECOND_VERSION = ap (λ (x : Cert). x.version) r
    ∙ ap (λ n. max n SECOND_VERSION) c.version in
    let needed : version_for new.lines ≡ SECOND_VERSION = second_suffices new.board.size new.lines
    (subst (λ n. All (IsLineOf n new.board.size) new.lines) two w.0.lines) in
    let board : new.board ≡ e.board = ap (λ (x : Cert). x.board) r
    ∙ (c.board ∙ ap (λ (x : PlayerBoard). x.board) is) in
    let player : new.player ≡ e.player = ap (λ (x : Cert). x.player) r
    ∙ (c.player ∙ ap (λ (x : PlayerBoard). x.player) is) in
    let claims : new.claim ≡ Semi = sym v.1 ∙ k in
    let there : HasBoard new = subst (λ (x : Position). IsPosition x.size x.black x.white)
    (sym board) on in
    let wins : Wins new.player new.board new.player
    = subst (λ (x : Kind). Wins new.player new.board (first_mover x new.player)) claims
    (law new there v.0) in
    record {
      certified = record { version = two ∙ sym needed; writable = w; accepted = v.0; board = board; player = player; claims = claims ∙ semi_for e.player };
      wins = subst (λ (x : Colour). Wins x e.board x) player
          (subst (λ (x : Position). Wins new.player x new.player) board wins);
    }
