-- What is read of a semi entry and of its two parts.
use Rattle.std.proofs.Common.{◌≡◌, ℕ, ◌<◌, List, Option, Some, None, true, get_or, refl, sym, ◌∙◌}
use Rattle.std.proofs.Common.{ap, subst}
use Rattle.std.specs.Prelude.{IfNone, IfSome}
use Rattle.std.specs.List.{slice_get}
use Rattle.std.specs.Option.{IsSome}
use Rattle.std.proofs.lemmas.Option.{get_or_from_slice_get}
use Rattle.hex_board.specs.Elements.{HasCell, PlayerBoard, element_count}
use Rattle.hex_board.specs.Positions.{is_empty_at}
use Rattle.conn_store.specs.Rules.{IsCell, IsChain}
use Rattle.conn_store.specs.Stores.{IsSound, StoreData}
use Rattle.conn_store.specs.declared.entries.Cause.TheVariants.{AndEmpty}
use Rattle.conn_store.specs.declared.entries.Entry.{Entry}
use Rattle.conn_store.proofs.Chains.{ends_below}
use Rattle.hex_plan.specs.Resting.{IsMiddle}
use Rattle.hex_plan.proofs.Middles.{IsOverCell, is_middle, over_cell}

pub cause_of : (d : StoreData) (entries : List Entry) (n : ℕ) (a r : Entry) (i j : ℕ)
    → entries ≡ d.entries → slice_get d.entries n ≡ Some a
    → (get_or entries n r).cause ≡ AndEmpty i j → a.cause ≡ AndEmpty i j
cause_of d entries n a r i j q at e =
    sym (ap (λ (v : Entry). v.cause) (get_or_from_slice_get d.entries n a r at))
    ∙ (sym (ap (λ (v : List Entry). (get_or v n r).cause) q) ∙ e)

-- the entry that was read
pub read_is : (d : StoreData) (entries : List Entry) (n : ℕ) (a r : Entry) → entries ≡ d.entries
    → slice_get d.entries n ≡ Some a → r ≡ get_or entries n r → r ≡ a
read_is d entries n a r q at e = e
    ∙ (ap (λ (v : List Entry). get_or v n r) q ∙ get_or_from_slice_get d.entries n a r at)

-- what was read for the middle of an entry: the entries, its two parts, and the element that they
-- share
pub record IsRead (d : StoreData) (a : Entry) (i j m : ℕ) : Type 0 where
  pub cause : a.cause ≡ AndEmpty i j
  pub over : IsOverCell d a i j
  pub shared : m ≡ over.u

pub is_read : (d : StoreData) (entries : List Entry) (n : ℕ) (a r v w : Entry) (i j m : ℕ)
    → IsSound d → entries ≡ d.entries → slice_get d.entries n ≡ Some a
    → (get_or entries n r).cause ≡ AndEmpty i j
    → v ≡ get_or entries i v → w ≡ get_or entries j w → ((x u y : ℕ) → IsChain v w x u y → m ≡ u)
    → IsRead d a i j m
is_read d entries n a r v w i j m s q at e g h f =
    let c : a.cause ≡ AndEmpty i j = cause_of d entries n a r i j q at e in
    let o : IsOverCell d a i j = over_cell d n a i j s at c in
    let one : v ≡ o.first = read_is d entries i o.first v q o.first_at g in
    let two : w ≡ o.second = read_is d entries j o.second w q o.second_at h in
    record {
      cause = c;
      over = o;
      shared = f o.x o.u o.y
          (subst (λ (z : Entry). IsChain z w o.x o.u o.y) (sym one) (subst (λ (z : Entry). IsChain o.first z o.x o.u o.y) (sym two) o.rule.chain));
    }

pub read_within : (d : StoreData) (e : PlayerBoard) (a : Entry) (i j m : ℕ) → IsSound d
    → e ≡ d.elements → IsRead d a i j m → m < element_count e
read_within d e a i j m s q r =
    let o = r.over in
    let l = ends_below d.elements o.first o.x o.u
    (s.valid i o.first o.first_at) o.rule.chain.first in
    subst (λ (v : PlayerBoard). m < element_count v) (sym q)
    (subst (λ v. v < element_count d.elements) (sym r.shared) l.1)

pub read_some : (d : StoreData) (e : PlayerBoard) (a : Entry) (i j m : ℕ) (o : Option ℕ)
    → e ≡ d.elements → IsRead d a i j m
    → IfNone o ((k : ℕ) → is_empty_at e.board k ≡ true → ¬ (HasCell e m k)) → IsSome o
read_some d e a i j m None q r f =
    let g = subst (λ (v : PlayerBoard). (k : ℕ) → is_empty_at v.board k ≡ true → ¬ (HasCell v m k)) q f in
    absurd (g r.over.place r.over.cell.0 (subst (λ v. HasCell d.elements v r.over.place) (sym r.shared) r.over.cell.1))
read_some d e a i j m (Some k) q r f = refl

pub read_middle : (d : StoreData) (e : PlayerBoard) (a : Entry) (i j m k : ℕ) (o : Option ℕ)
    → e ≡ d.elements → IsRead d a i j m → o ≡ Some k
    → IfSome o (λ k. (is_empty_at e.board k ≡ true) × HasCell e m k) → IsMiddle d a k
read_middle d e a i j m k o q r h f =
    let g = subst (λ (v : Option ℕ). IfSome v (λ k. (is_empty_at e.board k ≡ true) × HasCell e m k)) h f in
    is_middle d a i j m k r.over r.cause r.shared (subst (λ (v : PlayerBoard). IsCell v m k) q g)
