-- Who has an entry of a report between his two edges is sure of linking them.
use Rattle.std.proofs.Common.{◌≡◌, ℕ, ◌<◌, Bool, true, false, List, Some, length, get_or, refl, sym}
use Rattle.std.proofs.Common.{ap, subst, ◌∙◌}
use Rattle.std.specs.Prelude.{if◌then◌else◌}
use Rattle.std.specs.List.{slice_get}
use Rattle.std.proofs.lemmas.Option.{slice_get_read}
use Rattle.hex_cells.specs.declared.colours.Colour.{Colour}
use Rattle.hex_board.specs.Elements.{PlayerBoard, are_joined, edge_element}
use Rattle.hex_board.specs.Positions.{Position, Within, stones_of}
use Rattle.conn_store.specs.Entries.{Connects}
use Rattle.conn_store.specs.Stores.{AreTrue, IsSound, StoreData}
use Rattle.conn_store.specs.declared.entries.Entry.{Entry}
use Rattle.conn_store.specs.declared.entries.Kind.{Kind}
use Rattle.look_ahead.specs.Shown.{IsAcross, IsSureAcross}

pub sure_across : (d : StoreData) (i : ℕ) (a : Entry) (kind : Kind) → IsSound d → AreTrue d
    → Within d.elements.board.size (stones_of d.elements.board d.elements.player)
    → are_joined d.elements ≡ false → slice_get d.entries i ≡ Some a → IsAcross kind a
    → IsSureAcross kind d.elements
sure_across d i a kind sound are_true on apart at across =
    let e = d.elements in
    let s = stones_of e.board e.player in
    let second : edge_element e true ≡ 1 = ap (λ (b : Bool). if b then 0 else 1) apart in (
      a.carrier,
      record {
        later = record { on_board = on; size = refl; stones = λ k h. h };
        empty = (sound.valid i a at).empty;
        sure = subst (λ v. Connects kind e 0 v s a.carrier) (sym second)
            (subst (λ v. Connects kind e v 1 s a.carrier) across.1
            (subst (λ v. Connects kind e a.x v s a.carrier) across.2
            (subst (λ v. Connects v e a.x a.y s a.carrier) across.0 (are_true i a at))));
      },
    )

-- his stones lie on the board
pub stones_within : (e : PlayerBoard) (board : Position) (player : Colour) (stones : ℕ)
    → board ≡ e.board → player ≡ e.player → stones ≡ stones_of board player
    → Within board.size stones → Within e.board.size (stones_of e.board e.player)
stones_within e board player stones b p s on =
    subst (λ (v : Position). Within v.size (stones_of v e.player)) b
    (subst (λ (v : Colour). Within board.size (stones_of board v)) p
    (subst (λ v. Within board.size v) s on))

-- the same of what the store is found to be
pub report_sure : (d s : StoreData) (entries : List Entry) (i : ℕ) (a : Entry) (kind : Kind)
    → s ≡ d → entries ≡ s.entries → IsSound s → AreTrue s
    → Within s.elements.board.size (stones_of s.elements.board s.elements.player)
    → are_joined d.elements ≡ false → i < length entries → a ≡ get_or entries i a
    → IsAcross kind a → IsSureAcross kind d.elements
report_sure d s entries i a kind is same sound are_true on apart l at across =
    subst (λ (v : StoreData). IsSureAcross kind v.elements) is
    (sure_across s i a kind sound are_true on
    (ap (λ (v : StoreData). are_joined v.elements) is ∙ apart)
    (subst (λ (v : List Entry). slice_get v i ≡ Some a) same
    (slice_get_read entries (length entries) i a refl l at)) across)
