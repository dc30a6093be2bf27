use Rattle.std.proofs.Common.{◌≡◌, ℕ, ◌<◌, ◌≤◌, length, List, ◌∷◌, [], ◌++◌, set, arith, sym, ap}
use Rattle.std.proofs.Common.{◌∙◌, subst, inl, inr, refl}
use Rattle.std.specs.Vec.{vec_capacity, with_item}
use Rattle.conn_store.specs.Entries.{IsValid}
use Rattle.conn_store.specs.Index.{number_of_pair}
use Rattle.conn_store.specs.Rules.{FollowsFrom}
use Rattle.conn_store.specs.Stores.{StoreData, held_of, most_of, numbers_of}
use Rattle.conn_store.specs.declared.entries.Entry.{Entry}
use Rattle.conn_store.specs.declared.entries.Held.{Held}
use Rattle.conn_store.specs.declared.entries.Kind.TheVariants.{Full, Semi}
use Rattle.conn_store.specs.declared.entries.TheConstants.{MOST_ENTRIES}
use Rattle.conn_store.specs.declared.stores.Store.TheInside.{Inside}
use Rattle.conn_store.proofs.Tables.{Writes, held_here, held_room, more_held, place_here, room_more, stored_few}
use Rattle.conn_store.proofs.Tables.{stored_more}
use Rattle.conn_store.proofs.stores.Store.append.Goals as goal
use Rattle.conn_store.proofs.stores.Store.append.Goals.{in-Full, in-Semi}

pub overflow_cast-number : goal.overflow_cast-number
overflow_cast-number c =
    let l : length c.self.inside.entries.items ≤ MOST_ENTRIES
    = stored_few _ _ _ _ _ _ c.self.invariant in
    omega arith

pub index_mut-requires : goal.index_mut-requires
index_mut-requires c =
    let l : c.pair_number-pair.result < length c.self.inside.full.items =
    place_here _ _ _ _ _ _ _ c.self.invariant.full_table c.self.view_is c.pair_number-pair.ensures c.requires.valid.order c.requires.valid.elements in
    omega arith

pub index_mut-requires-in-Semi : goal.index_mut-requires-in-Semi
index_mut-requires-in-Semi c =
    let l : c.pair_number-pair.result < length c.self.inside.semi.items =
    place_here _ _ _ _ _ _ _ c.self.invariant.semi_table c.self.view_is c.pair_number-pair.ensures c.requires.valid.order c.requires.valid.elements in
    omega arith

pub push_number-requires : goal.push_number-requires
push_number-requires c =
    held_room c.args.entry.kind c.index_mut.result.now _ (held_here _ _ _ _ _ _ _ _ _ c.self.invariant.full_table c.self.view_is c.in-Full.is
    c.pair_number-pair.ensures c.requires.valid.order c.requires.valid.elements c.index_mut.ensures.value)
    c.requires.room

pub push_number-requires-in-Semi : goal.push_number-requires-in-Semi
push_number-requires-in-Semi c =
    held_room c.args.entry.kind c.index_mut-in-Semi.result.now _
    (held_here _ _ _ _ _ _ _ _ _ c.self.invariant.semi_table c.self.view_is c.in-Semi.is c.pair_number-pair.ensures c.requires.valid.order
    c.requires.valid.elements c.index_mut-in-Semi.ensures.value)
    c.requires.room

-- what the write of one table leaves
record Written (i n : Inside) (a : Entry) (h : Held) : Type 0 where
  board : n.board ≡ i.board
  colour : n.colour ≡ i.colour
  elements : n.elements ≡ i.elements
  entries : n.entries ≡ i.entries
  tables : Writes a (number_of_pair a.x a.y)
      (more_held h (length i.entries.items)) i.full.items i.semi.items n.full.items n.semi.items

pushed_is : (h g m : Held) (k : ℕ) → m ≡ more_held g k → g ≡ h → m ≡ more_held h k
pushed_is h g m k e f = e ∙ ap (λ v. more_held v k) f

more_is : (h m : Held) (k l : ℕ) → m ≡ more_held h k → k ≡ l → m ≡ more_held h l
more_is h m k l e f = e ∙ ap (λ v. more_held h v) f

set_at : (xs : List Held) (p q : ℕ) (m w : Held) → p ≡ q → m ≡ w → set xs p m ≡ set xs q w
set_at xs p q m w e f = cc

full_written : (i n : Inside) (a : Entry) (h m : Held) (p k : ℕ) → m ≡ more_held h k
    → p ≡ number_of_pair a.x a.y → k ≡ length i.entries.items → a.kind ≡ Full
    → n ≡ record i { full = with_item i.full p m } → Written i n a h
full_written i n a h m p k e q l f w = record {
  board = ap (λ (v : Inside). v.board) w;
  colour = ap (λ (v : Inside). v.colour) w;
  elements = ap (λ (v : Inside). v.elements) w;
  entries = ap (λ (v : Inside). v.entries) w;
  tables = inl (
    f,
    ap (λ (v : Inside). v.full.items) w ∙ set_at i.full.items p (number_of_pair a.x a.y) m
        (more_held h (length i.entries.items)) q (more_is h m k (length i.entries.items) e l),
    ap (λ (v : Inside). v.semi.items) w,
  );
}

semi_written : (i n : Inside) (a : Entry) (h m : Held) (p k : ℕ) → m ≡ more_held h k
    → p ≡ number_of_pair a.x a.y → k ≡ length i.entries.items → a.kind ≡ Semi
    → n ≡ record i { semi = with_item i.semi p m } → Written i n a h
semi_written i n a h m p k e q l f w = record {
  board = ap (λ (v : Inside). v.board) w;
  colour = ap (λ (v : Inside). v.colour) w;
  elements = ap (λ (v : Inside). v.elements) w;
  entries = ap (λ (v : Inside). v.entries) w;
  tables = inr (
    f,
    ap (λ (v : Inside). v.full.items) w,
    ap (λ (v : Inside). v.semi.items) w ∙ set_at i.semi.items p (number_of_pair a.x a.y) m
        (more_held h (length i.entries.items)) q (more_is h m k (length i.entries.items) e l),
  );
}

-- what is asked of the entry, of the fields
record Asked (i : Inside) (a : Entry) (h : Held) : Type 0 where
  valid : IsValid i.elements a
  follows : FollowsFrom i.elements i.entries.items a
  held : h ≡ held_of
      (numbers_of (record { elements = i.elements; entries = i.entries.items }) a.kind a.x a.y)
  room : h.count < most_of a.kind

asked : (i : Inside) (d : StoreData) (a : Entry) (h : Held)
    → record { elements = i.elements; entries = i.entries.items } ≡ d → IsValid d.elements a
    → FollowsFrom d.elements d.entries a
    → h ≡ held_of (numbers_of d a.kind a.x a.y) → h.count < most_of a.kind → Asked i a h
asked i d a h e v f q r = record {
  valid = subst (λ (w : StoreData). IsValid w.elements a) (sym e) v;
  follows = subst (λ (w : StoreData). FollowsFrom w.elements w.entries a) (sym e) f;
  held = q ∙ ap (λ w. held_of (numbers_of w a.kind a.x a.y)) (sym e);
  room = r;
}

pub unwrap-requires : goal.unwrap-requires
unwrap-requires c =
    let q : Asked c.self.inside c.args.entry (held_of (numbers_of c.args.self.now c.args.entry.kind c.args.entry.x c.args.entry.y)) =
    asked c.self.inside c.args.self.now c.args.entry (held_of (numbers_of c.args.self.now c.args.entry.kind c.args.entry.x c.args.entry.y)) c.self.view_is
    c.requires.valid c.requires.follows refl c.requires.room in
    let k : c.len-number.result ≡ length c.self.inside.entries.items = omega arith in
    let w : Written c.self.inside c.match-entry.self-inside c.args.entry
    (held_of (numbers_of c.args.self.now c.args.entry.kind c.args.entry.x c.args.entry.y))
    = elim c.match-entry.branch [
      | in-Full w ↦ full_written _ _ _ _ _ _ _
          (pushed_is _ _ _ _ w.push_number.ensures (held_here _ _ _ _ _ _ _ _ _ c.self.invariant.full_table c.self.view_is w.in-Full.is
          c.pair_number-pair.ensures c.requires.valid.order c.requires.valid.elements w.index_mut.ensures.value)) c.pair_number-pair.ensures k w.in-Full.is
          w.self-inside-is
      | in-Semi w ↦ semi_written _ _ _ _ _ _ _ (pushed_is _ _ _ _ w.push_number-in-Semi.ensures
          (held_here _ _ _ _ _ _ _ _ _ c.self.invariant.semi_table c.self.view_is w.in-Semi.is c.pair_number-pair.ensures c.requires.valid.order
          c.requires.valid.elements w.index_mut-in-Semi.ensures.value)) c.pair_number-pair.ensures k w.in-Semi.is w.self-inside-is
    ] in
    let l : length c.self.inside.entries.items < vec_capacity c.self.inside.entries =
    room_more _ _ _ _ _ _ c.args.entry (held_of (numbers_of c.args.self.now c.args.entry.kind c.args.entry.x c.args.entry.y)) _ _ c.self.invariant q.valid
    q.held q.room w.tables in
    c.push.ensures.succeeds (rw w.entries (omega arith))

pub invariant_of-self : goal.invariant_of-self
invariant_of-self c =
    let q : Asked c.self.inside c.args.entry (held_of (numbers_of c.args.self.now c.args.entry.kind c.args.entry.x c.args.entry.y)) =
    asked c.self.inside c.args.self.now c.args.entry (held_of (numbers_of c.args.self.now c.args.entry.kind c.args.entry.x c.args.entry.y)) c.self.view_is
    c.requires.valid c.requires.follows refl c.requires.room in
    let k : c.len-number.result ≡ length c.self.inside.entries.items = omega arith in
    let w : Written c.self.inside c.match-entry.self-inside c.args.entry
    (held_of (numbers_of c.args.self.now c.args.entry.kind c.args.entry.x c.args.entry.y))
    = elim c.match-entry.branch [
      | in-Full w ↦ full_written _ _ _ _ _ _ _
          (pushed_is _ _ _ _ w.push_number.ensures (held_here _ _ _ _ _ _ _ _ _ c.self.invariant.full_table c.self.view_is w.in-Full.is
          c.pair_number-pair.ensures c.requires.valid.order c.requires.valid.elements w.index_mut.ensures.value)) c.pair_number-pair.ensures k w.in-Full.is
          w.self-inside-is
      | in-Semi w ↦ semi_written _ _ _ _ _ _ _ (pushed_is _ _ _ _ w.push_number-in-Semi.ensures
          (held_here _ _ _ _ _ _ _ _ _ c.self.invariant.semi_table c.self.view_is w.in-Semi.is c.pair_number-pair.ensures c.requires.valid.order
          c.requires.valid.elements w.index_mut-in-Semi.ensures.value)) c.pair_number-pair.ensures k w.in-Semi.is w.self-inside-is
    ] in
    let items : c.push.new.self.items ≡ c.self.inside.entries.items ++ c.args.entry ∷ []
    = rw (← w.entries) (rw c.unwrap.ensures at c.push.ensures.items) in
    let room : vec_capacity c.self.inside.entries ≤ vec_capacity c.push.new.self
    = rw (← w.entries) (omega (arith, c.push.ensures.capacity)) in
    rw (w.board, w.colour, w.elements, items)
    (stored_more _ _ _ _ _ _ c.args.entry (held_of (numbers_of c.args.self.now c.args.entry.kind c.args.entry.x c.args.entry.y)) _ _ _ c.self.invariant
    q.valid q.follows q.held q.room w.tables room)
