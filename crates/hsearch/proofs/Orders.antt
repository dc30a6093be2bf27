-- The rules without an order of the entries.
use Rattle.std.proofs.Common.{◌≡◌, ℕ, ◌⊎◌, ◌∷◌, [], min, max, bit_or, true, refl, sym, ◌∙◌, ap}
use Rattle.std.proofs.Common.{subst, inl, inr}
use Rattle.std.proofs.Math.Nat.{min_comm, max_comm}
use Rattle.std.proofs.lemmas.List.Elements.{All-cons, All-head, All-nil}
use Rattle.std.proofs.lemmas.Nat.{or_comm}
use Rattle.hex_cells.specs.Sets.{has, with_cell}
use Rattle.hex_board.specs.Elements.{PlayerBoard}
use Rattle.hex_board.proofs.Placed.{apart_back}
use Rattle.conn_store.specs.Entries.{IsBetween}
use Rattle.conn_store.specs.Rules.{AndRule, OrRule, both_of, union_of}
use Rattle.conn_store.specs.Stores.{IsCovered, IsPairFull, StoreData}
use Rattle.conn_store.specs.declared.entries.Entry.{Entry}
use Rattle.conn_store.specs.declared.entries.Kind.{Kind}
use Rattle.conn_store.specs.declared.entries.Kind.TheVariants.{Full, Semi}
use Rattle.conn_store.proofs.RuleEntries.{all_full, all_not, both_full, both_not}
use Rattle.conn_store.proofs.RuleTruth.{second_of, third_of}
use Rattle.conn_store.proofs.Sureness.{in_union, union_left, union_right}
use Rattle.hsearch.specs.Closed.{SettlesAnd, SettlesOr, IsSettled}
use Rattle.hsearch.proofs.Growth.{wider_answer}

-- ---- AND

pub turned_pair : (a : Entry) (x y : ℕ) → IsBetween a x y → IsBetween a y x
turned_pair a x y h = (h.0 ∙ min_comm x y, h.1 ∙ max_comm x y)

turned_rule : (e : PlayerBoard) (a b : Entry) (x u y : ℕ) → AndRule e a b x u y
    → AndRule e b a y u x
turned_rule e a b x u y r = record {
  first_kind = r.second_kind;
  second_kind = r.first_kind;
  chain = record { first = turned_pair b u y r.chain.second; second = turned_pair a x u r.chain.first; ends = λ q. r.chain.ends (sym q) };
  apart = apart_back a.carrier b.carrier r.apart;
  first_end = r.second_end;
  second_end = r.first_end;
}

turned_answer : (d : StoreData) (kind : Kind) (x y b c : ℕ) → b ≡ c → IsSettled d kind y x b
    → IsSettled d kind x y c
turned_answer d kind x y b c q h = subst (λ v. IsSettled d kind x y v) q
    (subst (λ v. IsCovered d kind v (max x y) b ⊎ IsPairFull d kind v (max x y)) (min_comm y x)
    (subst (λ v. IsCovered d kind (min y x) v b ⊎ IsPairFull d kind (min y x) v) (max_comm y x) h))

pub turned_and : (d : StoreData) (a b : Entry) (x u y : ℕ) → SettlesAnd d b a y u x
    → SettlesAnd d a b x u y
turned_and d a b x u y h r n =
    let w = h (turned_rule d.elements a b x u y r) n in
    let q : both_of b a ≡ both_of a b = or_comm b.carrier a.carrier in (
      λ g. turned_answer d Full x y (both_of b a) (both_of a b) q (w.0 g),
      λ k g. turned_answer d Semi x y (with_cell (both_of b a) k) (with_cell (both_of a b) k)
          (ap (λ v. with_cell v k) q) (w.1 k g),
    )

-- ---- OR

-- what the rule says of each of three ways
pub record AreThree (a b c : Entry) (x y : ℕ) : Type 0 where
  pub first_kind : a.kind ≡ Semi
  pub second_kind : b.kind ≡ Semi
  pub third_kind : c.kind ≡ Semi
  pub first_pair : IsBetween a x y
  pub second_pair : IsBetween b x y
  pub third_pair : IsBetween c x y
  pub free : (k : ℕ) → has a.carrier k ≡ true → has b.carrier k ≡ true → has c.carrier k ≡ true → ⊥

pub record AreTwo (a b : Entry) (x y : ℕ) : Type 0 where
  pub first_kind : a.kind ≡ Semi
  pub second_kind : b.kind ≡ Semi
  pub first_pair : IsBetween a x y
  pub second_pair : IsBetween b x y
  pub free : (k : ℕ) → has a.carrier k ≡ true → has b.carrier k ≡ true → ⊥

pub two_of : (a b : Entry) (x y : ℕ) → OrRule (a ∷ b ∷ []) x y → AreTwo a b x y
two_of a b x y r = record {
  first_kind = All-head (λ (v : Entry). v.kind ≡ Semi) a (b ∷ []) r.kinds;
  second_kind = second_of (λ (v : Entry). v.kind ≡ Semi) a b [] r.kinds;
  first_pair = All-head (λ (v : Entry). IsBetween v x y) a (b ∷ []) r.pairs;
  second_pair = second_of (λ (v : Entry). IsBetween v x y) a b [] r.pairs;
  free = λ k. both_not (has a.carrier k) (has b.carrier k) (r.free k);
}

pub three_of : (a b c : Entry) (x y : ℕ) → OrRule (a ∷ b ∷ c ∷ []) x y → AreThree a b c x y
three_of a b c x y r = record {
  first_kind = All-head (λ (v : Entry). v.kind ≡ Semi) a (b ∷ c ∷ []) r.kinds;
  second_kind = second_of (λ (v : Entry). v.kind ≡ Semi) a b (c ∷ []) r.kinds;
  third_kind = third_of (λ (v : Entry). v.kind ≡ Semi) a b c [] r.kinds;
  first_pair = All-head (λ (v : Entry). IsBetween v x y) a (b ∷ c ∷ []) r.pairs;
  second_pair = second_of (λ (v : Entry). IsBetween v x y) a b (c ∷ []) r.pairs;
  third_pair = third_of (λ (v : Entry). IsBetween v x y) a b c [] r.pairs;
  free = λ k. all_not (has a.carrier k) (has b.carrier k) (has c.carrier k) (r.free k);
}

two_rule : (a b : Entry) (x y : ℕ) → AreTwo a b x y → OrRule (a ∷ b ∷ []) x y
two_rule a b x y t = record {
  number = inl refl;
  kinds = All-cons (λ (v : Entry). v.kind ≡ Semi) a (b ∷ []) t.first_kind
      (All-cons (λ (v : Entry). v.kind ≡ Semi) b [] t.second_kind (All-nil (λ (v : Entry). v.kind ≡ Semi)));
  pairs = All-cons (λ (v : Entry). IsBetween v x y) a (b ∷ []) t.first_pair
      (All-cons (λ (v : Entry). IsBetween v x y) b [] t.second_pair (All-nil (λ (v : Entry). IsBetween v x y)));
  free = λ k. both_full (has a.carrier k) (has b.carrier k) (t.free k);
}

three_rule : (a b c : Entry) (x y : ℕ) → AreThree a b c x y → OrRule (a ∷ b ∷ c ∷ []) x y
three_rule a b c x y t = record {
  number = inr refl;
  kinds = All-cons (λ (v : Entry). v.kind ≡ Semi) a (b ∷ c ∷ []) t.first_kind
      (All-cons (λ (v : Entry). v.kind ≡ Semi) b (c ∷ []) t.second_kind
      (All-cons (λ (v : Entry). v.kind ≡ Semi) c [] t.third_kind (All-nil (λ (v : Entry). v.kind ≡ Semi))));
  pairs = All-cons (λ (v : Entry). IsBetween v x y) a (b ∷ c ∷ []) t.first_pair
      (All-cons (λ (v : Entry). IsBetween v x y) b (c ∷ []) t.second_pair
      (All-cons (λ (v : Entry). IsBetween v x y) c [] t.third_pair (All-nil (λ (v : Entry). IsBetween v x y))));
  free = λ k. all_full (has a.carrier k) (has b.carrier k) (has c.carrier k) (t.free k);
}

-- the cells of three carriers, whatever their order
in_three : (a b c : ℕ) (k : ℕ) → has (bit_or a (bit_or b c)) k ≡ true
    → (has a k ≡ true) ⊎ ((has b k ≡ true) ⊎ (has c k ≡ true))
in_three a b c k h
    = elim (in_union a (bit_or b c) k h) [ inl o ↦ inl o | inr o ↦ inr (in_union b c k o) ]

first_in : (a b c : ℕ) (k : ℕ) → has a k ≡ true → has (bit_or a (bit_or b c)) k ≡ true
first_in a b c k h = union_left a (bit_or b c) k h

second_in : (a b c : ℕ) (k : ℕ) → has b k ≡ true → has (bit_or a (bit_or b c)) k ≡ true
second_in a b c k h = union_right a (bit_or b c) k (union_left b c k h)

third_in : (a b c : ℕ) (k : ℕ) → has c k ≡ true → has (bit_or a (bit_or b c)) k ≡ true
third_in a b c k h = union_right a (bit_or b c) k (union_right b c k h)

pub swapped_two : (d : StoreData) (a b : Entry) (x y : ℕ) → SettlesOr d (b ∷ a ∷ []) x y
    → SettlesOr d (a ∷ b ∷ []) x y
swapped_two d a b x y h r =
    let t = two_of a b x y r in
    wider_answer d Full x y (union_of (b ∷ a ∷ [])) (union_of (a ∷ b ∷ []))
    (λ k g. elim (in_union b.carrier a.carrier k g) [ inl o ↦ union_right a.carrier b.carrier k o | inr o ↦ union_left a.carrier b.carrier k o ])
    (h (two_rule b a x y (record {
      first_kind = t.second_kind;
      second_kind = t.first_kind;
      first_pair = t.second_pair;
      second_pair = t.first_pair;
      free =
          λ k f g. t.free k g f;
    })))

-- the last two swapped
pub swapped_last : (d : StoreData) (a b c : Entry) (x y : ℕ) → SettlesOr d (a ∷ c ∷ b ∷ []) x y
    → SettlesOr d (a ∷ b ∷ c ∷ []) x y
swapped_last d a b c x y h r =
    let t = three_of a b c x y r in
    wider_answer d Full x y (union_of (a ∷ c ∷ b ∷ [])) (union_of (a ∷ b ∷ c ∷ []))
    (λ k g. elim (in_three a.carrier c.carrier b.carrier k g) [
      | inl o ↦ first_in a.carrier b.carrier c.carrier k o
      | inr o ↦ elim o [ inl p ↦ third_in a.carrier b.carrier c.carrier k p | inr p ↦ second_in a.carrier b.carrier c.carrier k p ]
    ])
    (h (three_rule a c b x y (record {
      first_kind = t.first_kind;
      second_kind = t.third_kind;
      third_kind = t.second_kind;
      first_pair = t.first_pair;
      second_pair = t.third_pair;
      third_pair = t.second_pair;
      free = λ k f g i. t.free k f i g;
    })))

-- the first two swapped
pub swapped_first : (d : StoreData) (a b c : Entry) (x y : ℕ) → SettlesOr d (b ∷ a ∷ c ∷ []) x y
    → SettlesOr d (a ∷ b ∷ c ∷ []) x y
swapped_first d a b c x y h r =
    let t = three_of a b c x y r in
    wider_answer d Full x y (union_of (b ∷ a ∷ c ∷ [])) (union_of (a ∷ b ∷ c ∷ []))
    (λ k g. elim (in_three b.carrier a.carrier c.carrier k g) [
      | inl o ↦ second_in a.carrier b.carrier c.carrier k o
      | inr o ↦ elim o [ inl p ↦ first_in a.carrier b.carrier c.carrier k p | inr p ↦ third_in a.carrier b.carrier c.carrier k p ]
    ])
    (h (three_rule b a c x y (record {
      first_kind = t.second_kind;
      second_kind = t.first_kind;
      third_kind = t.third_kind;
      first_pair = t.second_pair;
      second_pair = t.first_pair;
      third_pair = t.third_pair;
      free = λ k f g i. t.free k g f i;
    })))

-- the last brought to the front
pub last_first : (d : StoreData) (a b c : Entry) (x y : ℕ) → SettlesOr d (c ∷ a ∷ b ∷ []) x y
    → SettlesOr d (a ∷ b ∷ c ∷ []) x y
last_first d a b c x y h = swapped_last d a b c x y (swapped_first d a c b x y h)

-- one way twice
pub way_twice : (d : StoreData) (a b : Entry) (x y : ℕ) → SettlesOr d (a ∷ b ∷ []) x y
    → SettlesOr d (a ∷ b ∷ b ∷ []) x y
way_twice d a b x y h r =
    let t = three_of a b b x y r in
    wider_answer d Full x y (union_of (a ∷ b ∷ [])) (union_of (a ∷ b ∷ b ∷ []))
    (λ k g. elim (in_union a.carrier b.carrier k g) [
      | inl o ↦ first_in a.carrier b.carrier b.carrier k o
      | inr o ↦ second_in a.carrier b.carrier b.carrier k o
    ])
    (h (two_rule a b x y (record {
      first_kind = t.first_kind;
      second_kind = t.second_kind;
      first_pair = t.first_pair;
      second_pair = t.second_pair;
      free =
          λ k f g. t.free k f g g;
    })))

-- two ways that share no cell: a third one adds nothing
pub two_enough : (d : StoreData) (a b c : Entry) (x y : ℕ)
    → ((k : ℕ) → has a.carrier k ≡ true → has b.carrier k ≡ true → ⊥) → SettlesOr d (a ∷ b ∷ []) x y
    → SettlesOr d (a ∷ b ∷ c ∷ []) x y
two_enough d a b c x y free h r =
    let t = three_of a b c x y r in
    wider_answer d Full x y (union_of (a ∷ b ∷ [])) (union_of (a ∷ b ∷ c ∷ []))
    (λ k g. elim (in_union a.carrier b.carrier k g) [
      | inl o ↦ first_in a.carrier b.carrier c.carrier k o
      | inr o ↦ second_in a.carrier b.carrier c.carrier k o
    ])
    (h (two_rule a b x y (record {
      first_kind = t.first_kind;
      second_kind = t.second_kind;
      first_pair = t.first_pair;
      second_pair = t.second_pair;
      free = free;
    })))

-- the first way twice
pub first_twice : (d : StoreData) (a b : Entry) (x y : ℕ) → SettlesOr d (a ∷ b ∷ []) x y
    → SettlesOr d (a ∷ a ∷ b ∷ []) x y
first_twice d a b x y h r =
    let t = three_of a a b x y r in
    wider_answer d Full x y (union_of (a ∷ b ∷ [])) (union_of (a ∷ a ∷ b ∷ []))
    (λ k g. elim (in_union a.carrier b.carrier k g) [
      | inl o ↦ first_in a.carrier a.carrier b.carrier k o
      | inr o ↦ third_in a.carrier a.carrier b.carrier k o
    ])
    (h (two_rule a b x y (record {
      first_kind = t.first_kind;
      second_kind = t.third_kind;
      first_pair = t.first_pair;
      second_pair = t.third_pair;
      free =
          λ k f g. t.free k f f g;
    })))

pub first_again : (d : StoreData) (a b : Entry) (x y : ℕ) → SettlesOr d (a ∷ b ∷ []) x y
    → SettlesOr d (a ∷ b ∷ a ∷ []) x y
first_again d a b x y h r =
    let t = three_of a b a x y r in
    wider_answer d Full x y (union_of (a ∷ b ∷ [])) (union_of (a ∷ b ∷ a ∷ []))
    (λ k g. elim (in_union a.carrier b.carrier k g) [
      | inl o ↦ first_in a.carrier b.carrier a.carrier k o
      | inr o ↦ second_in a.carrier b.carrier a.carrier k o
    ])
    (h (two_rule a b x y (record {
      first_kind = t.first_kind;
      second_kind = t.second_kind;
      first_pair = t.first_pair;
      second_pair = t.second_pair;
      free =
          λ k f g. t.free k f g f;
    })))
