-- Each step keeps Loaded: the visits of a node never fall, and a Look loads no less than the view's
-- own walks.
use Rattle.std.proofs.Common.{◌≡◌, ◌≢◌, ◌⊎◌, ℕ, ◌+◌, ◌-◌, ◌≤◌, ◌<◌, Bool, true, false, cond, List}
use Rattle.std.proofs.Common.{[], ◌∷◌, length, set, Option, Some, None, refl, sym, ap, ◌∙◌, subst}
use Rattle.std.proofs.Common.{⊎_elim, inl, inr, arith, get_or-set_same, get_or-set_other}
use Rattle.std.specs.Prelude.{◌==◌, slice_index, count_by, Contains}
use Rattle.std.specs.List.{list_any}
use Rattle.std.proofs.lemmas.List.{set-get_or}
use mathlib.Core.Logic.{dite}
use native.Mathlib.Decide.{ℕ_discrete}
use mathlib.Core.Option.{some}
use lib.ListN.{get_elem?}
use Rattle.tree_words.specs.Words.{root_at, end_of, tally_in, visits_in, leaf_in}
use Rattle.tree_words.specs.Settings.{Setting}
use Rattle.tree_words.specs.Blocks.{LinkedBlock, InOrder, is_node}
use Rattle.tree_words.specs.Paths.{is_on}
use Rattle.tree_words.specs.Told.{Knows}
use Rattle.tree_words.specs.Sequence.{amount_of}
use Rattle.tree_words.specs.declared.layout.TheConstants.{TALLY_WORD, SEEN_WORD}
use Rattle.tree_words.specs.declared.steps.Op.{Op}
use Rattle.tree_words.specs.declared.steps.Op.TheVariants.{Draw, Look, Claim, Write, Publish, Add}
use Rattle.tree_words.specs.declared.steps.Op.TheVariants.{Note, Done}
use Rattle.std.proofs.lemmas.Bool.{or_cases, eqb-true}
use Rattle.tree_words.proofs.Blocks.NodeLaws.{nodes-apart}
use Rattle.tree_words.proofs.Blocks.Within.{within-node, within-up}
use Rattle.arena_rule.specs.Views.{SeatView, HeldBlock, Walked, WordLoad}
use Rattle.arena_rule.specs.Lookups.{is_known, load_of}
use Rattle.arena_rule.specs.Fits.{FitsStep}
use Rattle.arena_rule.specs.Afters.{word_of, answer_of, changed, after, drew, claimed_at, looked}
use Rattle.arena_rule.specs.Afters.{wrote, published, added_at, noted, with_word, is_count}
use Rattle.arena_rule.specs.Afters.{loads_after, known_after, node_of_link}
use Rattle.arena_rule.specs.Bounds.{HasLoaded, AreLoads}
use Rattle.arena_rule.specs.Rule.{words_after, views_after}
use Rattle.arena_rule.proofs.Options.{none-some, some-eq}
use Rattle.arena_rule.proofs.Before.{Before, blocks_after}
use Rattle.arena_rule.proofs.Totals.{each-set}
use Rattle.arena_rule.proofs.Changes.{drew_cases, claimed_cases}
use Rattle.arena_rule.proofs.Within.{known-node, shape-of-each}
use Rattle.arena_rule.proofs.Frames.{IsNoAdd, count-stays, node-range}
use Rattle.arena_rule.proofs.KnownMore.{Grows, known_cases, known-more}
use Rattle.arena_rule.proofs.SumsLinked.{walks-same}
use Rattle.arena_rule.proofs.AnswersCounts.{answers-tally}

-- the path of a known node is that over the linked blocks
pub on-linked : (s : Setting) (bs ks : List LinkedBlock) (x leaf : ℕ) → InOrder (root_at s) bs
    → Knows (root_at s) bs ks → is_node (root_at s) ks leaf ≡ true
    → is_on s ks x leaf ≡ is_on s bs x leaf
on-linked s bs ks x leaf order kn n
    = ap (list_any (λ (z : ℕ). z == x))
    (within-up (root_at s ∷ []) (λ c y rest. y ∷ rest) (root_at s) bs ks leaf order kn n)

-- so walks go through the same nodes by each list of blocks in which their leaves are known
pub through-same : (s : Setting) (bs ks ls : List LinkedBlock) (x : ℕ) (walks : List Walked)
    → InOrder (root_at s) bs → Knows (root_at s) bs ks → Knows (root_at s) bs ls
    → ((q : Walked) → Contains walks q → is_node (root_at s) ks (leaf_in q.value) ≡ true)
    → ((q : Walked) → Contains walks q → is_node (root_at s) ls (leaf_in q.value) ≡ true)
    → count_by (λ w. is_on s ks x (leaf_in w.value)) walks ≡ count_by
    (λ w. is_on s ls x (leaf_in w.value)) walks
through-same s bs ks ls x walks order k l m n
    = walks-same (λ q. cond (is_on s ks x (leaf_in q.value)) 1 0)
    (λ q. cond (is_on s ls x (leaf_in q.value)) 1 0) walks
    (λ q c. ap {B = ℕ} (λ (t : Bool). cond t 1 0) (on-linked s bs ks x (leaf_in q.value) order k (m q c)
    ∙ sym (on-linked s bs ls x (leaf_in q.value) order l (n q c))))

-- a view that knows more
known-loaded : (bs : List LinkedBlock) (words : List ℕ) (v : SeatView) (ks : List LinkedBlock)
    → InOrder (root_at v.shape) bs → Knows (root_at v.shape) bs v.known
    → Knows (root_at v.shape) bs ks
    → ((x : ℕ) → is_known v x ≡ true → is_node (root_at v.shape) ks x ≡ true)
    → ((q : Walked) → Contains v.walks q → is_known v (leaf_in q.value) ≡ true)
    → HasLoaded words v → HasLoaded words (record v { known = ks })
known-loaded bs words v ks order kn ln more leaves h = record {
  counts = λ w n e. let c = h.counts w n e in (c.0, more c.0 c.1, c.2);
  less = λ x n k e. h.less x n (before x n k e) e;
  own = λ x n k e. omega (
    arith,
    h.own x n (before x n k e) e,
    through-same v.shape bs v.known ks x v.walks order kn ln leaves
        (λ q c. more (leaf_in q.value) (leaves q c)),
  );
}
  where
    r : ℕ
    r = root_at v.shape

    -- a node whose tally was loaded was known when it was
    before : (x n : ℕ) → is_node r ks x ≡ true → load_of v.loads (x + TALLY_WORD) ≡ Some n
        → is_known v x ≡ true
    before x n k e =
        let c = h.counts (x + TALLY_WORD) n e in
        ⊎_elim
        (λ (q : x + TALLY_WORD ≡ c.0 + TALLY_WORD). subst (λ (y : ℕ). is_known v y ≡ true) (omega (arith, q)) c.1)
        (λ (q : x + TALLY_WORD ≡ c.0 + SEEN_WORD).
        let same : x ≡ c.0 = nodes-apart r bs x c.0 2 3 order (within-node r bs ks x ln k)
        (within-node r bs v.known c.0 kn c.1) (omega arith) (omega arith) q in
        absurd (omega (arith, q, same)))
        c.2

-- what is known after a link was found has what was known before behind it
pub known-behind : (v : SeatView) (bs : List LinkedBlock) (x y : ℕ)
    → Knows (root_at v.shape) bs (known_after v x y) → Knows (root_at v.shape) bs v.known
known-behind v bs x y kn = ⊎_elim
    (λ (g : Grows v x y). (subst (Knows (root_at v.shape) bs) g.is kn).2)
    (λ (e : known_after v x y ≡ v.known). subst (Knows (root_at v.shape) bs) e kn)
    (known_cases v x y)

visits-more : (m n : ℕ) → m ≤ n → visits_in m ≤ visits_in n
visits-more m n l = omega arith

module _ (bs : List LinkedBlock) (words : List ℕ) (views : List SeatView) (id : ℕ) (v : SeatView)
    (b : Before bs words views id v) where
  -- a word that is added to does not fall
  add-more : (i j n : ℕ) → j < length words
      → slice_index words j ≤ slice_index (set words i (slice_index words i + n)) j
  add-more i j n l = dite (ℕ_discrete j i)
      (λ (e : j ≡ i). omega (
        arith,
        ap (slice_index words) e,
        ap (slice_index (set words i (slice_index words i + n))) e,
        get_or-set_same words i (slice_index words i + n) 0 (omega (arith, e)),
      ))
      (λ (e : j ≢ i). omega (arith, get_or-set_other words i j (slice_index words i + n) 0 e))

  -- the visits of a node never fall
  pub visits-grow : (op : Op) (x : ℕ) → FitsStep v op → is_node (root_at v.shape) bs x ≡ true
      → (tally_in words x).visits ≤ (tally_in (words_after words op) x).visits
  visits-grow op x fits n
      = visits-more (slice_index words (x + 2)) (slice_index (words_after words op) (x + 2))
      (by op fits)
    where
      kept : (op : Op) → FitsStep v op → IsNoAdd op
          → slice_index words (x + 2) ≤ slice_index (words_after words op) (x + 2)
      kept op fits kind
          = omega (arith, count-stays bs words views id v b op x 2 fits kind n (omega arith) (omega arith))

      by : (op : Op) → FitsStep v op
          → slice_index words (x + 2) ≤ slice_index (words_after words op) (x + 2)
      by Draw fits = kept Draw fits tt
      by (Look i) fits = kept (Look i) fits tt
      by (Claim size) fits = kept (Claim size) fits tt
      by (Write i value) fits = kept (Write i value) fits tt
      by (Publish l c) fits = kept (Publish l c) fits tt
      by (Add i won) fits
          = add-more i (x + 2) (amount_of won)
          (omega (arith, b.state.long, (node-range bs words views id v b x 2 n (omega arith)).1))
      by (Note k value) fits = kept (Note k value) fits tt
      by Done fits = kept Done fits tt

  -- what each view has loaded holds of the words after the step
  words-loaded : (op : Op) (j : ℕ) (u : SeatView) → FitsStep v op → get_elem? views j ≡ some u
      → HasLoaded words u → HasLoaded (words_after words op) u
  words-loaded op j u fits e h =
      let node : (x : ℕ) → is_known u x ≡ true → is_node (root_at v.shape) bs x ≡ true
      = λ x n. known-node bs words views id v b j u x e
      (subst (λ (s : Setting). is_node (root_at s) u.known x ≡ true) (shape-of-each bs words views id v b j u e) n) in
      record {
        counts = h.counts;
        less = λ x n k l. omega (arith, h.less x n k l, visits-grow op x fits (node x k));
        own = h.own;
      }

  -- a Look loads the word, if it is a tally or a seen word of a known node
  look-loaded : (i : ℕ) → HasLoaded words v
      → HasLoaded words (record v { loads = loads_after v i (slice_index words i) })
  unfolding loads_after
  look-loaded i h = by (is_count v i) refl
    where
      low : (x : ℕ) → is_known v x ≡ true → 2 ≤ x
      low x n = omega (arith, (node-range bs words views id v b x 0 (known-node bs words views id v b id v x b.at n) (omega arith)).0)

      load : WordLoad
      load = record { word = i; value = slice_index words i }

      -- if the new load is found, and if an older one is
      found : (t : Bool) (w n : ℕ) → (i == w) ≡ t
          → cond t (Some (slice_index words i)) (load_of v.loads w) ≡ Some n
          → ((i ≡ w) × (n ≡ slice_index words w)) ⊎ (load_of v.loads w ≡ Some n)
      found true w n t e = let q = eqb-true i w t in
          inl (q, sym (some-eq e) ∙ ap (slice_index words) q)
      found false w n t e = inr e

      by : (t : Bool) → is_count v i ≡ t
          → HasLoaded words (record v { loads = cond t (load ∷ v.loads) v.loads })
      by true t = record {
        counts = λ w n e. ⊎_elim
            (λ (q : (i ≡ w) × (n ≡ slice_index words w)). ⊎_elim
            (λ (k : is_known v (i - TALLY_WORD) ≡ true). (i - TALLY_WORD, k, inl (let l = low (i - 2) k in omega (arith, q.0))))
            (λ (k : is_known v (i - SEEN_WORD) ≡ true). (i - SEEN_WORD, k, inr (let l = low (i - 3) k in omega (arith, q.0))))
            (or_cases (is_known v (i - TALLY_WORD)) (is_known v (i - SEEN_WORD)) t))
            (λ (q : load_of v.loads w ≡ Some n). h.counts w n q)
            (found (i == w) w n refl e);
        less = λ x n k e. ⊎_elim
            (λ (q : (i ≡ x + TALLY_WORD) × (n ≡ slice_index words (x + TALLY_WORD))). omega (arith, ap visits_in q.1))
            (λ (q : load_of v.loads (x + TALLY_WORD) ≡ Some n). h.less x n k q)
            (found (i == x + TALLY_WORD) (x + TALLY_WORD) n refl e);
        own = λ x n k e. ⊎_elim
            (λ (q : (i ≡ x + TALLY_WORD) × (n ≡ slice_index words (x + TALLY_WORD))). omega (
              arith,
              ap visits_in q.1,
              (answers-tally bs words views id v b x k).own,
            ))
            (λ (q : load_of v.loads (x + TALLY_WORD) ≡ Some n). h.own x n k q)
            (found (i == x + TALLY_WORD) (x + TALLY_WORD) n refl e);
      }
      by false t = record { counts = h.counts; less = h.less; own = h.own }

  -- what the seat itself has loaded, but for its copy of the words
  loaded-changed : (op : Op) → FitsStep v op
      → InOrder (root_at v.shape) (blocks_after bs words v op)
      → Knows (root_at v.shape) (blocks_after bs words v op)
      (changed v op (answer_of op (slice_index words (word_of op)))).known
      → HasLoaded words v
      → HasLoaded (words_after words op)
      (changed v op (answer_of op (slice_index words (word_of op))))
  unfolding looked wrote published added_at noted
  loaded-changed Draw fits order kn old =
      let h = words-loaded Draw id v fits b.at old in
      let ws : List ℕ = words_after words Draw in
      ⊎_elim
      (λ (c : (slice_index words 1 < v.shape.knobs.playouts) × (drew v (slice_index words 1) ≡ record v { ticket = Some (slice_index words 1) })).
      subst (HasLoaded ws) (sym c.1) record { counts = h.counts; less = h.less; own = h.own })
      (λ (c : (v.shape.knobs.playouts ≤ slice_index words 1) × (drew v (slice_index words 1) ≡ record v { ended = 1 })).
      subst (HasLoaded ws) (sym c.1) record { counts = h.counts; less = h.less; own = h.own })
      (drew_cases v (slice_index words 1))
  loaded-changed (Look i) fits order kn old =
      let x : ℕ = slice_index words i in
      let loads : List WordLoad = loads_after v i x in
      let here = look-loaded i old in
      let h : HasLoaded (words_after words (Look i)) (record v { loads = loads })
      = subst (λ (ws : List ℕ). HasLoaded ws (record v { loads = loads }))
      (sym (set-get_or words i 0)) here in
      known-loaded bs (words_after words (Look i)) (record v { loads = loads })
      (known_after v (node_of_link i) x) order
      (b.state.known id v b.at) kn (λ y n. known-more v (node_of_link i) x y n)
      (b.state.in_hand id v b.at).leaves h
  loaded-changed (Claim size) fits order kn old =
      let h = words-loaded (Claim size) id v fits b.at old in
      let x : ℕ = slice_index words 0 in
      let held : Option HeldBlock = Some (record { start = x; size = size; written = [] }) in
      let ws : List ℕ = words_after words (Claim size) in
      ⊎_elim
      (λ (c : (x + size ≤ end_of v.shape) × (claimed_at v size x ≡ record v { held = held; claimed = v.claimed + size })).
      subst (HasLoaded ws) (sym c.1) record { counts = h.counts; less = h.less; own = h.own })
      (λ (c : (end_of v.shape < x + size) × (claimed_at v size x ≡ record v { full = true })).
      subst (HasLoaded ws) (sym c.1) record { counts = h.counts; less = h.less; own = h.own })
      (claimed_cases v size x)
  loaded-changed (Write i value) fits order kn old =
      let h = words-loaded (Write i value) id v fits b.at old in
      record { counts = h.counts; less = h.less; own = h.own }
  loaded-changed (Publish l c) fits order kn old =
      let h = words-loaded (Publish l c) id v fits b.at old in
      let y : ℕ = cond (slice_index words l == 0) c (slice_index words l) in
      known-loaded (blocks_after bs words v (Publish l c)) (words_after words (Publish l c))
      (record v { held = None }) (known_after v (node_of_link l) y) order
      (known-behind v (blocks_after bs words v (Publish l c)) (node_of_link l) y kn) kn
      (λ x n. known-more v (node_of_link l) y x n)
      (b.state.in_hand id v b.at).leaves record { counts = h.counts; less = h.less; own = h.own }
  loaded-changed (Add i won) fits order kn old =
      let h = words-loaded (Add i won) id v fits b.at old in
      record { counts = h.counts; less = h.less; own = h.own }
  loaded-changed (Note k value) fits order kn old = record {
    counts = λ w n e. absurd (none-some e);
    less = λ x n l e. absurd (none-some e);
    own = λ x n l e. absurd (none-some e);
  }
  loaded-changed Done fits order kn old = words-loaded Done id v fits b.at old

  pub loaded-step : (op : Op) → FitsStep v op
      → InOrder (root_at v.shape) (blocks_after bs words v op)
      → Knows (root_at v.shape) (blocks_after bs words v op)
      (after v op (answer_of op (slice_index words (word_of op)))).known
      → AreLoads words views → AreLoads (words_after words op) (views_after words views id v op)
  unfolding with_word
  loaded-step op fits order kn old =
      let h = loaded-changed op fits order kn (old id v b.at) in
      each-set (HasLoaded (words_after words op)) views id
      (after v op (answer_of op (slice_index words (word_of op))))
      (λ j u ne e. words-loaded op j u fits e (old j u e)) record { counts = h.counts; less = h.less; own = h.own }
