-- In every state the counts are those of the records, and of the adds made in flight.
use Rattle.std.proofs.Common.{◌≡◌, ◌≢◌, ℕ, zero, suc, ◌+◌, ◌<◌, ◌≤◌, Bool, true, false, cond, List}
use Rattle.std.proofs.Common.{[], ◌∷◌, ◌++◌, refl, sym, ap, ◌∙◌, ⊎_elim, arith}
use Rattle.std.specs.Prelude.{◌==◌, not, sum_by, Contains}
use Rattle.std.specs.List.{filter, range_with_len}
use Rattle.std.proofs.lemmas.Bool.{eq-eqb, ne_eqb}
use Rattle.std.proofs.lemmas.List.Sums.{sum_by-cons, sum_by-append}
use Rattle.tree_words.specs.Settings.{Setting}
use Rattle.tree_words.specs.Words.{root_at, next_in, ticket_in, record_in, leaf_in}
use Rattle.tree_words.specs.Blocks.{LinkedBlock, In, has_node}
use Rattle.tree_words.specs.Complete.{Linked}
use Rattle.tree_words.specs.Records.{leaf_of}
use Rattle.tree_words.specs.declared.layout.TheConstants.{TALLY_WORD, SEEN_WORD}
use Rattle.tree_words.proofs.Blocks.GameLaws.{in-node, whole-in}
use Rattle.tree_words.proofs.Blocks.BlockLaws.{has-at}
use Rattle.tree_words.proofs.Blocks.NodeLaws.{node-lies}
use Rattle.arena_rule.specs.Views.{SeatView, Walked}
use Rattle.arena_rule.specs.Adds.{walk_adds, amount_at, tally_amount, seen_amount}
use Rattle.arena_rule.specs.Parts.{Each, times_drawn, amount_recorded, amount_counted, IsRight}
use Rattle.arena_rule.specs.Closed.{recorded, amount_in_flight, CountsRecords}
use Rattle.arena_rule.specs.Rule.{IsState}
use Rattle.arena_rule.proofs.Totals.{total_add, total_le}
use Rattle.arena_rule.proofs.Below.{sum_below, below_same}
use Rattle.arena_rule.proofs.Numbers.{times_walked, value_walked, value-none, contains-append}
use Rattle.arena_rule.proofs.Numbers.{due_one}
use Rattle.arena_rule.proofs.ByNumber.{FoundWalk, find-walk, if_here, none-here, one-here, numbered}
use Rattle.arena_rule.proofs.AddLaws.{tally-amount, seen-amount}

-- a node of a block is not the root
pub not-root : (s : Setting) (words : List ℕ) (bs : List LinkedBlock) → Linked s words bs
    → (c : LinkedBlock) (y : ℕ) → In c bs → has_node c y ≡ true → y ≢ root_at s
not-root s words bs linked c y i h e =
    let low = (whole-in s (next_in words) bs c linked.order linked.complete i).inside.0 in
    let at = has-at c y h in
    omega (arith, e, at.2)

-- the recorded walks of all views
abbrev all_walks : List SeatView → List Walked
all_walks [] = []
all_walks (v ∷ views) = v.walks ++ all_walks views

sum-all : (f : Walked → ℕ) (views : List SeatView)
    → sum_by f (all_walks views) ≡ sum_by (λ v. sum_by f v.walks) views
sum-all f [] = refl
sum-all f (v ∷ views)
    = omega (arith, sum_by-append f v.walks (all_walks views), sum_by-cons (λ u. sum_by f u.walks) v views, sum-all f views)

each-all : (P : Walked → Type 0) (views : List SeatView)
    → Each (λ v. (w : Walked) → Contains v.walks w → P w) views → (w : Walked)
    → Contains (all_walks views) w → P w
each-all P [] h w c = absurd (let l = c.1 in omega (arith, l))
each-all P (v ∷ views) h w c = ⊎_elim
    (λ (d : Contains v.walks w). h 0 v refl w d)
    (λ (d : Contains (all_walks views) w). each-all P views (λ i. h (suc i)) w d)
    (contains-append w v.walks (all_walks views) c)

-- a sum over some of the numbers below n
below-front : (n : ℕ) (f : ℕ → ℕ) → sum_below (suc n) f ≡ f 0 + sum_below n (λ j. f (suc j))
below-front zero f = omega arith
below-front (suc n) f = omega (arith, below-front n f)

filter-below : (test : ℕ → Bool) (f : ℕ → ℕ) (n a : ℕ)
    → sum_by f (filter test (range_with_len a n)) ≡ sum_below n
    (λ j. cond (test (a + j)) (f (a + j)) 0)
filter-below test f zero a = refl
filter-below test f (suc n) a =
    let at : (j : ℕ) → a + 1 + j ≡ a + suc j = λ j. omega arith in
    let first : cond (test (a + 0)) (f (a + 0)) 0 ≡ cond (test a) (f a) 0
    = ap (λ (i : ℕ). cond (test i) (f i) 0) (zero-more a) in
    omega (
      arith,
      by (test a) (filter test (range_with_len (a + 1) n)),
      filter-below test f n (a + 1),
      below_same n (λ j. cond (test (a + 1 + j)) (f (a + 1 + j)) 0)
          (λ j. cond (test (a + suc j)) (f (a + suc j)) 0)
          (λ j l. ap (λ (i : ℕ). cond (test i) (f i) 0) (at j)),
      below-front n (λ j. cond (test (a + j)) (f (a + j)) 0),
      first,
    )
  where
    zero-more : (m : ℕ) → m + 0 ≡ m
    zero-more m = omega arith

    by : (t : Bool) (rest : List ℕ)
        → sum_by f (cond t (a ∷ rest) rest) ≡ cond t (f a) 0 + sum_by f rest
    by true rest = sum_by-cons f a rest
    by false rest = omega arith

module _ (s : Setting) (bs : List LinkedBlock) (words : List ℕ) (views : List SeatView)
    (st : IsState s bs words views) where
  abbrev n : ℕ
  n = s.knobs.playouts

  abbrev walks : List Walked
  walks = all_walks views

  low : (w : Walked) → Contains walks w → w.number < n
  low = each-all (λ w. w.number < n) views (λ i v e w c. ((st.in_hand i v e).walks w c).1)

  right : (w : Walked) → Contains walks w → IsRight s bs w
  right = each-all (IsRight s bs) views st.tickets.right

  once : (k : ℕ) → times_walked k walks ≤ 1
  once k = omega (
    arith,
    sum-all (λ w. cond (w.number == k) 1 0) views,
    total_le (λ v. times_walked k v.walks) (times_drawn k) views (λ i v e. omega arith),
    st.tickets.once k,
    due_one k (ticket_in words) n,
  )

  value : (k : ℕ) → k < n → value_walked k walks ≡ record_in words k
  value k l = sum-all (λ w. cond (w.number == k) w.value 0) views ∙ sym (st.tickets.records k l)

  -- the record of a walk is not 0, for its leaf is a node
  some-value : (w : Walked) → Contains walks w → w.value ≢ 0
  some-value w c e = ⊎_elim
      (λ (q : leaf_in w.value ≡ root_at s). omega (arith, q, e))
      (λ t. let l = t.0 in omega (arith, l, e))
      (node-lies s (next_in words) bs (leaf_in w.value) st.linked.blocks.complete (right w c).node)

  -- a number counts if it has a record
  one-record : (k : ℕ) (g : ℕ → ℕ) → k < n
      → sum_by (if_here k g) walks ≡ cond (not (record_in words k == 0)) (g (record_in words k)) 0
  one-record k g l = by (times_walked k walks) refl
    where
      by : (m : ℕ) → times_walked k walks ≡ m
          → sum_by (if_here k g) walks ≡ cond (not (record_in words k == 0)) (g (record_in words k)) 0
      by zero e =
          let none : record_in words k ≡ 0 = sym (value k l) ∙ value-none k walks e in
          none-here k g walks e
          ∙ sym (ap (λ (t : Bool). cond (not t) (g (record_in words k)) 0) (eq-eqb (record_in words k) 0 none))
      by (suc zero) e =
          let f : FoundWalk k walks = find-walk k walks e in
          let some_record : record_in words k ≢ 0
          = λ z. some-value f.walk f.found (f.value ∙ value k l ∙ z) in
          one-here k g walks e ∙ ap g (value k l)
          ∙ sym (ap (λ (t : Bool). cond (not t) (g (record_in words k)) 0) (ne_eqb (record_in words k) 0 some_record))
      by (suc (suc m)) e = absurd (omega (arith, e, once k))

  -- what all walks count is what the records count
  by-record : (f : ℕ → ℕ → ℕ)
      → sum_by (λ v. sum_by (λ w. f w.number w.value) v.walks) views ≡ sum_by
      (λ k. f k (record_in words k)) (recorded s words)
  by-record f =
      sym (sum-all (λ w. f w.number w.value) views)
      ∙ numbered n f walks low
      ∙ below_same n (λ k. sum_by (if_here k (f k)) walks)
      (λ k. cond (not (record_in words k == 0)) (f k (record_in words k)) 0)
      (λ k l. one-record k (f k) l)
      ∙ below_same n (λ k. cond (not (record_in words k == 0)) (f k (record_in words k)) 0)
      (λ k. cond (not (record_in words (0 + k) == 0)) (f (0 + k) (record_in words (0 + k))) 0)
      (λ k l. ap (λ (i : ℕ). cond (not (record_in words i == 0)) (f i (record_in words i)) 0) (more k))
      ∙ sym (filter-below (λ k. not (record_in words k == 0)) (λ k. f k (record_in words k)) n 0)
    where
      more : (k : ℕ) → k ≡ 0 + k
      more k = omega arith

  counted : (w : ℕ) (f : ℕ → ℕ → ℕ)
      → ((k leaf : ℕ) → amount_at w (walk_adds s bs k leaf) ≡ f k leaf)
      → sum_by (amount_counted s bs w) views ≡ sum_by (λ k. f k (leaf_of words k))
      (recorded s words) + sum_by (amount_in_flight s bs w) views
  counted w f same =
      omega (
        arith,
        total_add (λ v. amount_recorded s bs w v.walks) (amount_in_flight s bs w) views,
        by-record (λ k m. amount_at w (walk_adds s bs k (leaf_in m))),
        each-same (recorded s words),
      )
    where
      each-same : (ks : List ℕ)
          → sum_by (λ k. amount_at w (walk_adds s bs k (leaf_of words k))) ks ≡ sum_by
          (λ k. f k (leaf_of words k)) ks
      each-same [] = refl
      each-same (k ∷ ks) = omega (
        arith,
        sum_by-cons (λ j. amount_at w (walk_adds s bs j (leaf_of words j))) k ks,
        sum_by-cons (λ j. f j (leaf_of words j)) k ks,
        same k (leaf_of words k),
        each-same ks,
      )

  pub count-records : CountsRecords s bs (record { words = words; views = views })
  count-records = record {
    tallies = λ x m. st.sums.tallies x m
        ∙ counted (x + TALLY_WORD) (λ k leaf. tally_amount s bs k leaf x)
        (λ k leaf. tally-amount s bs st.linked.blocks.order k leaf x m);
    seen = λ c y i h. st.sums.seen y (in-node (root_at s) bs c y i h)
        (not-root s words bs st.linked.blocks c y i h)
        ∙ counted (y + SEEN_WORD) (λ k leaf. seen_amount s bs k leaf c y)
        (λ k leaf. seen-amount s bs st.linked.blocks.order k leaf c y i h);
  }
