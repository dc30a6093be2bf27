-- An entry stands between the player's two edges if one has a number, and else none does.
use Rattle.std.proofs.Common.{◌≡◌, ◌<◌, ◌≤◌, refl, arith}
use Rattle.std.specs.Prelude.{slice_index}
use Rattle.conn_store.specs.Stores.{StoreData}
use Rattle.conn_store.specs.declared.entries.Entry.{Entry}
use Rattle.conn_store.specs.declared.entries.Held.{Held}
use Rattle.conn_store.specs.declared.entries.Kind.{Kind}
use Rattle.conn_store.specs.declared.entries.Kind.TheVariants.{Full, Semi}
use Rattle.win_cert.specs.Cuts.{AreEdgeNumbers, HasEdgeEntryAt}
use Rattle.std.proofs.lemmas.Option.{slice_get_within}
use Rattle.hex_plan.specs.Planning.{AreWithin}
use Rattle.hex_plan.specs.Resting.{IsEdgeEntry}

pub first_there : (d : StoreData) (kind : Kind) (h : Held) → AreEdgeNumbers d kind h → 0 < h.count
    → HasEdgeEntryAt d (slice_index h.at 0)
first_there d kind h g l = let w = g.each 0 l in (w.0, w.1)

-- each number is one of an entry
pub each_within : (d : StoreData) (kind : Kind) (h : Held) → AreEdgeNumbers d kind h
    → AreWithin d.entries h
each_within d kind h g j l = let w = g.each j l in
    slice_get_within d.entries (slice_index h.at j) w.0 w.1.0

none_there : (d : StoreData) (kind : Kind) (h : Held) → AreEdgeNumbers d kind h → h.count ≤ 0
    → (a : Entry) → IsEdgeEntry d a → a.kind ≡ kind → ⊥
none_there d kind h g l a w k = let p = g.all w.0 a w.1 k in absurd (omega (arith, p.1))

-- neither kind has an entry
pub no_edge_entry : (d : StoreData) (s f : Held) → AreEdgeNumbers d Semi s → AreEdgeNumbers d Full f
    → s.count ≤ 0 → f.count ≤ 0 → (a : Entry) → IsEdgeEntry d a → ⊥
no_edge_entry d s f g h l m a w = by_kind a.kind refl
  where
    by_kind : (kind : Kind) → a.kind ≡ kind → ⊥
    by_kind Semi e = none_there d Semi s g l a w e
    by_kind Full e = none_there d Full f h m a w e
