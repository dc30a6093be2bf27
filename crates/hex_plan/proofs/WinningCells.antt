-- The cell by which an entry wins, as it is read of a report.
use Rattle.std.proofs.Common.{◌≡◌, ℕ, ◌<◌, List, Option, Some, None, true, false, get_or, refl, sym}
use Rattle.std.proofs.Common.{◌∙◌, ap, subst}
use Rattle.std.specs.Prelude.{MatchOption}
use Rattle.std.specs.List.{slice_get}
use Rattle.std.specs.Option.{IsSome}
use Rattle.hex_cells.specs.Sets.{has}
use Rattle.hex_board.specs.Elements.{are_joined}
use Rattle.hex_board.specs.Positions.{Within, stones_of}
use Rattle.conn_store.specs.Stores.{AreTrue, StoreData}
use Rattle.conn_store.specs.declared.entries.Entry.{Entry}
use Rattle.conn_store.specs.declared.entries.Kind.{Kind}
use Rattle.conn_store.specs.declared.entries.Kind.TheVariants.{Full, Semi}
use Rattle.win_cert.specs.Cuts.{IsEdgeEntryAt}
use Rattle.hex_plan.specs.Resting.{IsMiddle, IsWinningCell}
use Rattle.hex_plan.proofs.MiddleOf.{read_is}
use Rattle.hex_plan.proofs.Middles.{full_has_cell}

-- what the least cell of a set is
abbrev pub IsLeastCell : Option ℕ → ℕ → Type 0
IsLeastCell o c
    = MatchOption o ((k : ℕ) → has c k ≡ false)
    (λ m. (has c m ≡ true) × ((k : ℕ) → k < m → has c k ≡ false))

the_entry : (d s : StoreData) (entries : List Entry) (n : ℕ) (a r : Entry) → s ≡ d
    → entries ≡ s.entries → IsEdgeEntryAt d n a → r ≡ get_or entries n r → r ≡ a
the_entry d s entries n a r p q at e
    = read_is d entries n a r (q ∙ ap (λ (v : StoreData). v.entries) p) at.0 e

pub full_some : (d s : StoreData) (entries : List Entry) (n : ℕ) (a r : Entry) (o : Option ℕ)
    → s ≡ d → entries ≡ s.entries → AreTrue s → IsEdgeEntryAt d n a → r ≡ get_or entries n r
    → r.kind ≡ Full
    → Within s.elements.board.size (stones_of s.elements.board s.elements.player)
    → are_joined d.elements ≡ false → IsLeastCell o r.carrier → IsSome o
full_some d s entries n a r None p q ts at e k on j f =
    let is : r ≡ a = the_entry d s entries n a r p q at e in
    absurd (full_has_cell d n a (subst AreTrue p ts) at (sym (ap (λ (v : Entry). v.kind) is) ∙ k)
    (subst (λ (v : StoreData). Within v.elements.board.size (stones_of v.elements.board v.elements.player)) p on) j
    (subst (λ (v : Entry). (k : ℕ) → has v.carrier k ≡ false) is f))
full_some d s entries n a r (Some m) p q ts at e k on j f = refl

pub semi_there : (d s : StoreData) (entries : List Entry) (n : ℕ) (a r : Entry) → s ≡ d
    → entries ≡ s.entries → IsEdgeEntryAt d n a → r ≡ get_or entries n r → r.kind ≡ Semi
    → (b : Entry) × (slice_get s.entries n ≡ Some b) × (b.kind ≡ Semi)
semi_there d s entries n a r p q at e k =
    let is : r ≡ a = the_entry d s entries n a r p q at e in
    (a, subst (λ (v : StoreData). slice_get v.entries n ≡ Some a) (sym p) at.0, sym (ap (λ (v : Entry). v.kind) is) ∙ k)

pub least_wins : (d s : StoreData) (entries : List Entry) (n : ℕ) (a r : Entry) (k : ℕ)
    (o : Option ℕ) → s ≡ d → entries ≡ s.entries → IsEdgeEntryAt d n a → r ≡ get_or entries n r
    → r.kind ≡ Full
    → o ≡ Some k → IsLeastCell o r.carrier → IsWinningCell d a a.kind k
least_wins d s entries n a r k o p q at e f h l =
    let is : r ≡ a = the_entry d s entries n a r p q at e in
    let m = subst (λ (v : Entry). IsLeastCell (Some k) v.carrier) is
    (subst (λ (v : Option ℕ). IsLeastCell v r.carrier) h l) in
    subst (λ (v : Kind). IsWinningCell d a v k) (sym (sym (ap (λ (v : Entry). v.kind) is) ∙ f)) m

pub middle_wins : (d s : StoreData) (entries : List Entry) (n : ℕ) (a r : Entry) (k : ℕ) → s ≡ d
    → entries ≡ s.entries → IsEdgeEntryAt d n a → r ≡ get_or entries n r → r.kind ≡ Semi
    → ((b : Entry) → slice_get s.entries n ≡ Some b → IsMiddle s b k) → IsWinningCell d a a.kind k
middle_wins d s entries n a r k p q at e f h =
    let is : r ≡ a = the_entry d s entries n a r p q at e in
    let m : IsMiddle d a k
    = subst (λ (v : StoreData). IsMiddle v a k) p
    (h a (subst (λ (v : StoreData). slice_get v.entries n ≡ Some a) (sym p) at.0)) in
    subst (λ (v : Kind). IsWinningCell d a v k) (sym (sym (ap (λ (v : Entry). v.kind) is) ∙ f)) m
