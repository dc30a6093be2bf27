-- The entries on which an entry rests: those that are marked.
use Rattle.std.proofs.Common.{◌≡◌, ℕ, ◌+◌, true, false, Bool, List, [], ◌∷◌, ◌++◌, Some, take, refl}
use Rattle.std.proofs.Common.{sym, ◌∙◌, ap, zero, suc, if◌then◌else◌, arith}
use Rattle.std.specs.List.{slice_get}
use Rattle.std.proofs.lemmas.List.Elements.{All-cons, All-head, All-nil}
use Rattle.conn_store.specs.Stores.{StoreData}
use Rattle.conn_store.specs.declared.entries.Entry.{Entry}
use Rattle.win_cert.specs.Cuts.{RestOn, entries_numbered}
use Rattle.win_cert.specs.Cutting.{AreMarks, is_marked}
use Rattle.win_cert.proofs.CutDerivations.{some_entry}

-- ---- the entries in a set

front : (b : Bool) (a : Entry) (xs ys zs : List Entry) → xs ≡ ys ++ zs
    → (if b then a ∷ xs else xs) ≡ (if b then a ∷ ys else ys) ++ zs
front true a xs ys zs h = ap (λ v. a ∷ v) h
front false a xs ys zs h = h

picked : (set : ℕ → Bool) (entries : List Entry) (n : ℕ) (a : Entry) → slice_get entries n ≡ Some a
    → entries_numbered set (take (suc n) entries)
    ≡ entries_numbered set (take n entries) ++ (if set n then a ∷ [] else [])
picked set [] n a h = absurd (cc)
picked set (e ∷ entries) zero a h = ap (λ v. if set 0 then v ∷ [] else []) (some_entry e a h)
picked set (e ∷ entries) (suc n) a h
    = front (set 0) e _ _ (if set (suc n) then a ∷ [] else []) (picked (λ i. set (suc i)) entries n a h)

-- one entry more
pub picked_next : (set : ℕ → Bool) (entries : List Entry) (n : ℕ) (a : Entry) (b : Bool)
    → slice_get entries n ≡ Some a → set n ≡ b
    → entries_numbered set (take (n + 1) entries)
    ≡ entries_numbered set (take n entries) ++ (if b then a ∷ [] else [])
picked_next set entries n a b h k =
    let q : suc n ≡ n + 1 = omega arith in
    ap (λ v. entries_numbered set (take v entries)) (sym q) ∙ picked set entries n a h
    ∙ ap (λ b. entries_numbered set (take n entries) ++ (if b then a ∷ [] else [])) k

-- ---- the marked entries

-- the entries on which entry n rests are the marked ones
pub marked_rest : (d : StoreData) (n : ℕ) (marks : List Bool) → AreMarks d.entries (n ∷ []) marks
    → RestOn d.entries n (entries_numbered (is_marked marks) d.entries)
marked_rest d n marks m = (
  is_marked marks,
  record {
    closed = record {
      asked = All-head (λ i. is_marked marks i ≡ true) n [] m.asked;
      closed = λ i a h q. m.closed i a (omega arith) h q;
    };
    least = λ set h. m.least set
        (All-cons (λ i. set i ≡ true) n [] h.asked (All-nil (λ i. set i ≡ true))) h.closed;
  },
  refl,
)
