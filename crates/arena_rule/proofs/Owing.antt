-- The arena rule with debts is kept: each step, an add that is owed, and what is given of it.
use Rattle.std.proofs.Common.{◌≡◌, ◌≢◌, ℕ, ◌+◌, ◌<◌, ◌≤◌, Bool, true, false, cond}
use Rattle.std.proofs.Common.{List, [], length, length-set, set, Option, Some, None}
use Rattle.std.proofs.Common.{refl, sym, ap, ◌∙◌, subst, ⊎_elim, arith, get_or-set_same}
use Rattle.std.proofs.Common.{get_or-set_other}
use Rattle.std.specs.Prelude.{◌==◌, slice_index, option_map, Contains}
use Rattle.std.proofs.lemmas.Option.{none-some}
use Rattle.std.proofs.lemmas.List.{map-set, set-get_or}
use Rattle.std.proofs.lemmas.Bool.{eqb-true, cases_Bool, false_from_ne_true}
use mathlib.Core.Option.{some, some-injective}
use mathlib.Core.Logic.{dite}
use native.Mathlib.Decide.{ℕ_discrete}
use lib.ListN.{get_elem?}
use Rattle.atomic_table.proofs.Lists.{at_set, at_map, set_again}
use Rattle.tree_words.specs.Settings.{Setting}
use Rattle.tree_words.specs.Words.{root_at, end_of, visits_in, wins_in}
use Rattle.tree_words.specs.Blocks.{LinkedBlock, In, has_node, is_node, size, is_header_or_move}
use Rattle.tree_words.specs.Sequence.{amount_of}
use Rattle.tree_words.specs.declared.layout.TheConstants.{SEEN_WORD}
use Rattle.tree_words.specs.declared.steps.Op.{Op}
use Rattle.tree_words.specs.declared.steps.Op.TheVariants.{Draw, Look, Claim, Write, Publish, Add}
use Rattle.tree_words.specs.declared.steps.Op.TheVariants.{Note, Done}
use Rattle.tree_words.proofs.Blocks.BlockLaws.{clash}
use Rattle.tree_words.proofs.Blocks.GameLaws.{in-node}
use Rattle.tree_words.proofs.Blocks.Members.{node-in}
use Rattle.tree_words.proofs.Blocks.NodeLaws.{nodes-apart, stays-clear}
use Rattle.tree_words.proofs.Blocks.OneTree.{knows-in}
use Rattle.arena_rule.specs.Views.{SeatView, spent_view}
use Rattle.arena_rule.specs.Adds.{CountAdd, amount_at}
use Rattle.arena_rule.specs.Lookups.{is_known, is_held}
use Rattle.arena_rule.specs.Fits.{FitsStep}
use Rattle.arena_rule.specs.Afters.{word_of, put, answer_of, after, looked, known_after, loads_after}
use Rattle.arena_rule.specs.Afters.{with_word, added_at, node_of_link}
use Rattle.arena_rule.specs.Answers.{MayAnswer}
use Rattle.arena_rule.specs.Rule.{IsState, Rule, words_after}
use Rattle.arena_rule.specs.Owing.{Debtor, view_of, views_of, owed_to, owed_in, IsSeenWord}
use Rattle.arena_rule.specs.Owing.{owed_part, OwesRightly, OwingRule, stepped_seat, found_in}
use Rattle.arena_rule.specs.Owing.{seats_after}
use Rattle.arena_rule.specs.Owing.{CanOwe, owing_more, CanGive, debts_but, owing_less, words_given}
use Rattle.arena_rule.specs.Lookups.{adds_in}
use Rattle.arena_rule.proofs.Amounts.{wins_added, amount-parts, wins-less}
use Rattle.arena_rule.proofs.Debts.{set-more, but-here, but-else, but-among, add-or, wins-more}
use Rattle.arena_rule.proofs.Before.{Before}
use Rattle.arena_rule.proofs.Totals.{total_set, total_at}
use Rattle.arena_rule.proofs.Changes.{shape-after, whole-after}
use Rattle.arena_rule.proofs.Within.{known-node, shape-of-each}
use Rattle.arena_rule.proofs.Frames.{node-range, held-node, write-word, publish-word, note-low}
use Rattle.arena_rule.proofs.KnownMore.{Grows, known_cases, known-kept}
use Rattle.arena_rule.proofs.Reloaded.{state-reloaded}
use Rattle.arena_rule.proofs.Debts.{set-sum, who-owes, which-add, visits-less, wins-one}
use Rattle.arena_rule.proofs.Law as law

-- a seen word stays one if the view knows no less
pub seen-kept : (v : SeatView) (op : Op) (x w : ℕ) → IsSeenWord v w → IsSeenWord (after v op x) w
seen-kept v op x w h = record {
  node = h.node;
  known = ⊎_elim
      (λ (e : h.node ≡ root_at v.shape). absurd (h.below e))
      (λ (t : (b : LinkedBlock) × In b v.known × (has_node b h.node ≡ true)).
      in-node (root_at (after v op x).shape) (after v op x).known t.0 h.node
      (known-kept v op x t.0 t.1) t.2)
      (node-in (root_at v.shape) v.known h.node h.known);
  below = λ e. h.below (e ∙ ap root_at (shape-after v op x));
  word = h.word;
}

-- a view without a copy of the words has none after a step
pub alone-after : (v : SeatView) (op : Op) (x : ℕ) (copy : List ℕ)
    → (after v op x).whole ≡ Some copy → (old : List ℕ) × (v.whole ≡ Some old)
alone-after v op x copy e = by v.whole refl (sym (whole-after v op x) ∙ e)
  where
    by : (o : Option (List ℕ)) → v.whole ≡ o
        → option_map (λ ws. set ws (word_of op) (put op x)) o ≡ Some copy
        → (old : List ℕ) × (v.whole ≡ Some old)
    by None q m = absurd (none-some copy m)
    by (Some old) q m = (old, q)

-- a view without a copy of the words is the same after an Add, whatever it answers
pub same-add : (v : SeatView) (i m n : ℕ) (won : Bool) → v.whole ≡ None
    → after v (Add i won) m ≡ after v (Add i won) n
unfolding with_word added_at
same-add v i m n won e =
    ap (λ (o : Option (List ℕ)). record (added_at v i) { whole = option_map (λ ws. set ws i (m + amount_of won)) o }) e
    ∙ sym (ap (λ (o : Option (List ℕ)). record (added_at v i) { whole = option_map (λ ws. set ws i (n + amount_of won)) o }) e)

-- and after a Look at a word that is no link of a known node, it has the new load alone
pub same-look : (v : SeatView) (i x : ℕ) → v.whole ≡ None → is_known v (node_of_link i) ≡ false
    → after v (Look i) x ≡ record v { loads = loads_after v i x }
unfolding with_word looked known_after
same-look v i x e n =
    let whole : option_map (λ ws. set ws i x) v.whole ≡ v.whole
    = ap (option_map (λ ws. set ws i x)) e ∙ sym e in
    let known : known_after v (node_of_link i) x ≡ v.known = ⊎_elim
    (λ (g : Grows v (node_of_link i) x). absurd (clash (is_known v (node_of_link i)) g.known n))
    (λ (q : known_after v (node_of_link i) x ≡ v.known). q)
    (known_cases v (node_of_link i) x) in
    λ j. record v { known = known j; loads = loads_after v i x; whole = whole j }

-- what a seat owes stays right by a step, by an add that is owed, and by what is given
pub rightly-step : (d : Debtor) (op : Op) (x : ℕ) → OwesRightly d
    → OwesRightly (stepped_seat d op x)
rightly-step d op x h = record {
  seen = λ a c. seen-kept d.view op x a.word (h.seen a c);
  few = λ w. subst (λ (s : Setting). owed_to w d ≤ owed_part s + amount_of true)
      (sym (shape-after d.view op x)) (h.few w);
  alone = λ copy e. let t = alone-after d.view op x copy e in h.alone t.0 t.1;
}

small-add : (won : Bool) → amount_of won ≤ amount_of true
small-add true = omega arith
small-add false = omega arith

few-owed : (d : Debtor) (a : CountAdd) → OwesRightly d → CanOwe d a → (w : ℕ)
    → owed_to w (owing_more d a) ≤ owed_part d.view.shape + amount_of true
few-owed d a h can w = ⊎_elim
    (λ (t : (a.word == w) ≡ true).
    omega (arith, ap (λ (b : Bool). cond b (amount_of a.won) 0) t, small-add a.won, can.few, ap (λ (i : ℕ). owed_to i d) (eqb-true a.word w t)))
    (λ (t : (a.word == w) ≡ false).
    omega (arith, ap (λ (b : Bool). cond b (amount_of a.won) 0) t, h.few w))
    (cases_Bool (a.word == w))

few-left : (d : Debtor) (i w : ℕ) → owed_to w d ≤ owed_part d.view.shape + amount_of true
    → owed_to w (owing_less d i) ≤ owed_part d.view.shape + amount_of true
few-left d i w h = dite (ℕ_discrete w i)
    (λ (e : w ≡ i). omega (arith, ap (λ (k : ℕ). amount_at k (debts_but i d.owed)) e, but-here i d.owed))
    (λ (ne : w ≢ i). omega (arith, but-else i w d.owed ne, h))

pub rightly-owe : (d : Debtor) (a : CountAdd) → OwesRightly d → CanOwe d a
    → OwesRightly (owing_more d a)
rightly-owe d a h can = record {
  seen = λ c m. ⊎_elim
      (λ (e : a ≡ c). subst (λ (z : CountAdd). IsSeenWord (owing_more d a).view z.word) e (seen-kept d.view (Add a.word a.won) 0 a.word can.seen))
      (λ (q : Contains d.owed c). seen-kept d.view (Add a.word a.won) 0 c.word (h.seen c q))
      (add-or a c d.owed m);
  few = λ w. subst (λ (s : Setting). owed_to w (owing_more d a) ≤ owed_part s + amount_of true)
      (sym (shape-after d.view (Add a.word a.won) 0)) (few-owed d a h can w);
  alone = λ copy e. let t = alone-after d.view (Add a.word a.won) 0 copy e in
      absurd (none-some t.0 (sym can.alone ∙ t.1));
}

pub rightly-give : (d : Debtor) (i : ℕ) → OwesRightly d → OwesRightly (owing_less d i)
rightly-give d i h = record {
  seen = λ c m. h.seen c (but-among i d.owed c m);
  few = λ w. few-left d i w (h.few w);
  alone = λ copy e. ap (debts_but i) (h.alone copy e);
}

-- a word that may be given to is the seen word of a known node
pub given-seen : (d : Debtor) (i n : ℕ) → OwesRightly d → CanGive d i n → IsSeenWord d.view i
given-seen d i n h can =
    let a = which-add i d.owed (omega (arith, can.owes, can.some)) in
    subst (IsSeenWord d.view) a.2 (h.seen a.0 a.1)

-- the step is neither a Look nor an Add
abbrev IsNoCount : Op → Type 0
IsNoCount (Look i) = ⊥
IsNoCount (Add i won) = ⊥
IsNoCount op = Unit {0}

-- the word is the seen word of a node of the tree other than the root
pub record SeenOf (s : Setting) (bs : List LinkedBlock) (w : ℕ) : Type 0 where
  pub node : ℕ
  pub is : is_node (root_at s) bs node ≡ true
  pub below : node ≢ root_at s
  pub word : w ≡ node + SEEN_WORD

module _ (bs : List LinkedBlock) (words : List ℕ) (views : List SeatView) (id : ℕ) (v : SeatView)
    (b : Before bs words views id v) (i : ℕ) (sn : SeenOf v.shape bs i) where
  abbrev r : ℕ
  r = root_at v.shape

  -- such a word is no other word of a node, and no word of a header or a move
  other-word : (y j : ℕ) → is_node r bs y ≡ true → j < 4 → j ≢ 3 → i ≡ y + j → ⊥
  other-word y j n l ne e =
      let q : sn.node ≡ y = nodes-apart r bs sn.node y 3 j b.state.linked.blocks.order sn.is n
      (omega arith) l (sym sn.word ∙ e) in
      ne (omega (arith, q, sn.word, e))

  not-move : (c : LinkedBlock) (j : ℕ) → In c bs → j < size c → is_header_or_move j ≡ true
      → i ≡ c.start + j → ⊥
  not-move c j n l st e
      = stays-clear r bs c j sn.node 3 b.state.linked.blocks.order n l st sn.is (omega arith)
      (omega arith) (sym e ∙ sn.word)

  -- only a Look and an Add are made there
  not-there : (op : Op) → FitsStep v op → IsNoCount op → word_of op ≡ i → ⊥
  not-there Draw fits kind e = omega (arith, e, sn.word)
  not-there (Look w) fits kind e = kind
  not-there (Claim many) fits kind e = omega (arith, e, sn.word)
  not-there (Write w value) fits kind e
      = held-node bs words views id v b id v sn.node 3 b.at sn.is (omega arith)
      (ap (is_held v.held) (sym (e ∙ sn.word)) ∙ (write-word bs words views id v b w fits).0)
  not-there (Publish l c) fits kind e =
      let t = publish-word bs words views id v b l c fits in
      other-word t.0 1 t.1 (omega arith) (λ z. omega (arith, z)) (sym e ∙ t.2)
  not-there (Add w won) fits kind e = kind
  not-there (Note k value) fits kind e
      = omega (arith, e, sn.word, note-low bs words views id v b k value fits, (node-range bs words views id v b sn.node 3 sn.is (omega arith)).0)
  not-there Done fits kind e = omega (arith, e, sn.word)

  -- the word is one of the table's
  inside-words : i < length words
  inside-words = omega (arith, sn.word, b.state.long, (node-range bs words views id v b sn.node 3 sn.is (omega arith)).1)

-- one seat changes, and perhaps the words
module _ (s : Setting) (words : List ℕ) (seats : List Debtor) (r : OwingRule s words seats)
    (id : ℕ) (d : Debtor) (at : get_elem? seats id ≡ some d) where
  make : (settled' words' : List ℕ) (d' : Debtor)
      → Rule s settled' (set (views_of seats) id d'.view)
      → length settled' ≡ length words'
      → ((j : ℕ) → slice_index settled' j ≡ slice_index words' j + owed_in j (set seats id d'))
      → OwesRightly d'
      → ((j : ℕ) → 0 < owed_in j (set seats id d') → wins_in (slice_index words' j) ≤ visits_in (slice_index words' j))
      → OwingRule s words' (set seats id d')
  make settled' words' d' rule long sums mine wins = record {
    settled = settled';
    rule = subst (Rule s settled') (sym (map-set view_of seats id d')) rule;
    long = long;
    sums = sums;
    owed = λ j e q. ⊎_elim
        (λ (t : (j ≡ id) × (d' ≡ e)). subst OwesRightly t.1 mine)
        (λ (t : (j ≢ id) × (get_elem? seats j ≡ some e)). r.owed j e t.1)
        (at_set seats id j d' e q);
    wins = wins;
  }

  module _ (live : 0 < d.view.width) where
    abbrev v : SeatView
    v = d.view

    abbrev F : List ℕ
    F = r.settled

    abbrev views : List SeatView
    views = views_of seats

    abbrev bs : List LinkedBlock
    bs = r.rule.blocks

    here : get_elem? views id ≡ some v
    here = at_map view_of seats id d at

    shape : v.shape ≡ s
    shape = (r.rule.state.widths.each id v here).shape

    b : Before bs F views id v
    b = record {
      state = subst (λ (t : Setting). IsState t bs F views) (sym shape) r.rule.state;
      at = here;
      live = live;
    }

    -- what is owed is owed to the seen word of a node
    seen-of : (j : ℕ) (e : Debtor) (i : ℕ) → get_elem? seats j ≡ some e → IsSeenWord e.view i
        → SeenOf v.shape bs i
    seen-of j e i q h =
        let there : get_elem? views j ≡ some e.view = at_map view_of seats j e q in
        let same : e.view.shape ≡ v.shape = shape-of-each bs F views id v b j e.view there in
        record {
          node = h.node;
          is = known-node bs F views id v b j e.view h.node there
              (subst (λ (t : Setting). is_node (root_at t) e.view.known h.node ≡ true) same h.known);
          below = λ z. h.below (z ∙ ap root_at (sym same));
          word = h.word;
        }

    -- and by a seat of which the one that steps is not the only one with a copy of the words
    not-alone : (j : ℕ) (e : Debtor) (i : ℕ) → get_elem? seats j ≡ some e → IsSeenWord e.view i
        → 0 < owed_to i e → v.whole ≡ None
    not-alone j e i q h l = by v.whole refl
      where
        there : get_elem? views j ≡ some e.view
        there = at_map view_of seats j e q

        by : (o : Option (List ℕ)) → v.whole ≡ o → o ≡ None
        by None w = refl
        by (Some copy) w = dite (ℕ_discrete j id)
            (λ (z : j ≡ id).
            let same : d ≡ e = some-injective d e (sym at ∙ ap (get_elem? seats) (sym z) ∙ q) in
            let none : e.owed ≡ [] = sym (ap (λ (x : Debtor). x.owed) same) ∙ (r.owed id d at).alone copy w in
            absurd (omega (arith, l, ap (amount_at i) none)))
            (λ (ne : j ≢ id).
            let zero : e.view.width ≡ 0
            = (b.state.sole id v copy here w).1 j e.view there ne in
            let spent : e.view ≡ spent_view v.shape
            = (b.state.widths.each j e.view there).spent zero in
            let root : h.node ≡ root_at v.shape = eqb-true h.node (root_at v.shape)
            (subst (λ (u : SeatView). is_known u h.node ≡ true) spent h.known) in
            absurd (h.below (root ∙ ap (λ (u : SeatView). root_at u.shape) (sym spent))))

    record Owed (i : ℕ) : Type 0 where
      pub word : SeenOf v.shape bs i
      pub alone : v.whole ≡ None

    owed-word : (i : ℕ) → 0 < owed_in i seats → Owed i
    owed-word i l =
        let t = who-owes i seats l in
        let a = which-add i t.1.owed t.3 in
        let h : IsSeenWord t.1.view i
        = subst (IsSeenWord t.1.view) a.2 ((r.owed t.0 t.1 t.2).seen a.0 a.1) in
        record { word = seen-of t.0 t.1 i t.2 h; alone = not-alone t.0 t.1 i t.2 h t.3 }

    -- a word that nobody owes to is settled
    same-word : (i : ℕ) → owed_in i seats ≡ 0 → slice_index F i ≡ slice_index words i
    same-word i z = omega (arith, r.sums i, z)

    less-word : (i : ℕ) → slice_index words i ≤ slice_index F i
    less-word i = omega (arith, r.sums i)

    few : v.shape.knobs.playouts ≤ 1000000
    few = b.state.setting.ranges.playouts.1

    answers-settled : (op : Op) → FitsStep v op
        → MayAnswer v op (answer_of op (slice_index F (word_of op)))
    answers-settled op fits = law.answers s F views r.rule id v here live op fits

    -- the answer is one that the step may give
    pub owing-answers : (op : Op) → FitsStep v op → MayAnswer v op (found_in words op)
    owing-answers op fits = dite (ℕ_discrete (owed_in (word_of op) seats) 0)
        (λ (z : owed_in (word_of op) seats ≡ 0).
        subst (λ (n : ℕ). MayAnswer v op (answer_of op n)) (same-word (word_of op) z) (answers-settled op fits))
        (λ (ne : owed_in (word_of op) seats ≢ 0).
        let o = owed-word (word_of op) (omega (arith, ne)) in
        by op fits refl (omega (arith, ne)) o)
      where
        by : (p : Op) → FitsStep v p → p ≡ op → 0 < owed_in (word_of p) seats → Owed (word_of p)
            → MayAnswer v p (found_in words p)
        by Draw fits e l o = absurd (not-there bs F views id v b 1 o.word Draw fits tt refl)
        by (Look i) fits e l o =
            let old = (answers-settled (Look i) fits).step in
            let low = less-word i in
            record {
              step = record {
                link = λ x n q. absurd (other-word bs F views id v b i o.word x 1 (known-node bs F
                    views id v b id v x here n) (omega arith) (λ z. omega (arith, z)) q);
                block = λ c j n m t q. absurd (not-move bs F views id v b i o.word c j
                    (knows-in (root_at v.shape) bs v.known c (b.state.known id v here) n) m t q);
                tally = λ x n q. absurd (other-word bs F views id v b i o.word x 2 (known-node bs F
                    views id v b id v x here n) (omega arith) (λ z. omega (arith, z)) q);
                seen = λ x n q.
                    let was = old.seen x n q in
                    let visits : visits_in (slice_index words i) ≤ v.shape.knobs.playouts
                    = omega (arith, visits-less (slice_index words i) (slice_index F i) low, was.visits) in
                    record { visits = visits; wins = omega (arith, visits, r.wins i l) };
              };
              whole = λ copy w. absurd (none-some copy (sym o.alone ∙ w));
            }
        by (Claim many) fits e l o = absurd (not-there bs F views id v b 0 o.word (Claim many) fits tt refl)
        by (Write i value) fits e l o = absurd (not-there bs F views id v b i o.word (Write i value) fits tt refl)
        by (Publish i c) fits e l o = absurd (not-there bs F views id v b i o.word (Publish i c) fits tt refl)
        by (Add i won) fits e l o = record {
          step = omega (arith, visits-less (slice_index words i) (slice_index F i) (less-word i), (answers-settled (Add i won) fits).step);
          whole = λ copy w. absurd (none-some copy (sym o.alone ∙ w));
        }
        by (Note k value) fits e l o = absurd (not-there bs F views id v b (2 + k) o.word (Note k value) fits tt refl)
        by Done fits e l o = absurd (not-there bs F views id v b 0 o.word Done fits tt refl)

    -- a seat that owes the same as before
    same-owed : (d' : Debtor) → d'.owed ≡ d.owed → (j : ℕ)
        → owed_in j (set seats id d') ≡ owed_in j seats
    same-owed d' e j = omega (arith, total_set (owed_to j) seats id d d' at, ap (amount_at j) e)

    after-rightly : (op : Op) (x : ℕ) → OwesRightly (stepped_seat d op x)
    after-rightly op x = rightly-step d op x (r.owed id d at)

    -- a step at a word that nobody owes to
    step-settled : (op : Op) → FitsStep v op → owed_in (word_of op) seats ≡ 0
        → OwingRule s (words_after words op) (seats_after words seats id d op)
    step-settled op fits z =
        let i : ℕ = word_of op in
        let x : ℕ = slice_index words i in
        let d' : Debtor = stepped_seat d op (answer_of op x) in
        make (set F i (put op x)) (set words i (put op x)) d'
        (subst (λ (n : ℕ). Rule s (set F i (put op n)) (set views id (after v op (answer_of op n))))
        (same-word i z) (law.steps s F views r.rule id v here live op fits))
        (length-set F i (put op x) ∙ r.long ∙ sym (length-set words i (put op x)))
        (λ j. omega (arith, set-sum F words i j (put op x) (put op x) (λ k. owed_in k seats) r.long r.sums (omega (arith, z)), same-owed d' refl j))
        (after-rightly op (answer_of op x))
        (λ j l.
        let old : 0 < owed_in j seats = omega (arith, l, same-owed d' refl j) in
        let ne : j ≢ i = λ q. omega (arith, old, z, ap (λ (k : ℕ). owed_in k seats) q) in
        subst (λ (n : ℕ). wins_in n ≤ visits_in n)
        (sym (get_or-set_other words i j (put op x) 0 ne)) (r.wins j old))

    -- a Look at a word that somebody owes to
    step-look : (i : ℕ) → Owed i
        → OwingRule s (words_after words (Look i)) (seats_after words seats id d (Look i))
    step-look i o =
        let x : ℕ = slice_index words i in
        let d' : Debtor = stepped_seat d (Look i) x in
        let low : 1 ≤ i = omega (arith, o.word.word) in
        let unknown : is_known v (node_of_link i) ≡ false
        = false_from_ne_true (is_known v (node_of_link i))
        (λ k. other-word bs F views id v b i o.word (node_of_link i) 1 (known-node bs F views id v b
        id v (node_of_link i) here k) (omega arith) (λ z. omega (arith, z))
        (omega (arith, low))) in
        let view : record v { loads = loads_after v i x } ≡ after v (Look i) x
        = sym (same-look v i x o.alone unknown) in
        let rule : Rule s F (set views id d'.view) = record {
          blocks = bs;
          state = subst (λ (t : Setting). IsState t bs F (set views id d'.view)) shape
              (subst (λ (u : SeatView). IsState v.shape bs F (set views id u)) view
              (state-reloaded bs F views id v b i x o.word.node o.word.is o.word.word));
        } in
        let same : set words i x ≡ words = set-get_or words i 0 in
        make F (set words i x) d' rule
        (r.long ∙ ap length (sym same))
        (λ j. omega (arith, r.sums j, ap (λ (ws : List ℕ). slice_index ws j) same, same-owed d' refl j))
        (after-rightly (Look i) x)
        (λ j l. subst (λ (ws : List ℕ). wins_in (slice_index ws j) ≤ visits_in (slice_index ws j))
        (sym same) (r.wins j (omega (arith, l, same-owed d' refl j))))

    -- an Add at a word that somebody owes to
    step-add : (i : ℕ) (won : Bool) → FitsStep v (Add i won) → 0 < owed_in i seats → Owed i
        → OwingRule s (words_after words (Add i won)) (seats_after words seats id d (Add i won))
    step-add i won fits h o =
        let x : ℕ = slice_index words i in
        let y : ℕ = slice_index F i in
        let n : ℕ = amount_of won in
        let d' : Debtor = stepped_seat d (Add i won) x in
        let rule : Rule s (set F i (y + n)) (set views id d'.view)
        = subst (λ (u : SeatView). Rule s (set F i (y + n)) (set views id u)) (same-add v i y x won o.alone)
        (law.steps s F views r.rule id v here live (Add i won) fits) in
        make (set F i (y + n)) (set words i (x + n)) d' rule
        (length-set F i (y + n) ∙ r.long ∙ sym (length-set words i (x + n)))
        (λ j. omega (arith, set-sum F words i j (y + n) (x + n) (λ k. owed_in k seats) r.long r.sums (omega (arith, r.sums i)), same-owed d' refl j))
        (after-rightly (Add i won) x)
        (λ j l. dite (ℕ_discrete j i)
        (λ (q : j ≡ i).
        let now : slice_index (set words i (x + n)) j ≡ x + n
        = ap (slice_index (set words i (x + n))) q
        ∙ get_or-set_same words i (x + n) 0
        (omega (arith, inside-words bs F views id v b i o.word, r.long)) in
        let below : visits_in x < 1000000
        = omega (arith, visits-less x y (less-word i), (answers-settled (Add i won) fits).step, few) in
        subst (λ (m : ℕ). wins_in m ≤ visits_in m) (sym now) (wins-one x won (r.wins i h) below))
        (λ (ne : j ≢ i).
        subst (λ (m : ℕ). wins_in m ≤ visits_in m) (sym (get_or-set_other words i j (x + n) 0 ne))
        (r.wins j (omega (arith, l, same-owed d' refl j)))))

    -- each step that fits
    pub owing-steps : (op : Op) → FitsStep v op
        → OwingRule s (words_after words op) (seats_after words seats id d op)
    owing-steps op fits = dite (ℕ_discrete (owed_in (word_of op) seats) 0)
        (λ (z : owed_in (word_of op) seats ≡ 0). step-settled op fits z)
        (λ (ne : owed_in (word_of op) seats ≢ 0).
        let l : 0 < owed_in (word_of op) seats = omega (arith, ne) in
        by op fits l (owed-word (word_of op) l))
      where
        by : (p : Op) → FitsStep v p → 0 < owed_in (word_of p) seats → Owed (word_of p)
            → OwingRule s (words_after words p) (seats_after words seats id d p)
        by Draw fits l o = absurd (not-there bs F views id v b 1 o.word Draw fits tt refl)
        by (Look i) fits l o = step-look i o
        by (Claim many) fits l o = absurd (not-there bs F views id v b 0 o.word (Claim many) fits tt refl)
        by (Write i value) fits l o = absurd (not-there bs F views id v b i o.word (Write i value) fits tt refl)
        by (Publish i c) fits l o = absurd (not-there bs F views id v b i o.word (Publish i c) fits tt refl)
        by (Add i won) fits l o = step-add i won fits l o
        by (Note k value) fits l o = absurd (not-there bs F views id v b (2 + k) o.word (Note k value) fits tt refl)
        by Done fits l o = absurd (not-there bs F views id v b 0 o.word Done fits tt refl)

    -- an add is owed
    pub owing-owes : (a : CountAdd) → CanOwe d a
        → OwingRule s words (set seats id (owing_more d a))
    owing-owes a can =
        let i : ℕ = a.word in
        let n : ℕ = amount_of a.won in
        let y : ℕ = slice_index F i in
        let op : Op = Add i a.won in
        let d' : Debtor = owing_more d a in
        let word : SeenOf v.shape bs i = seen-of id d i at can.seen in
        let rule : Rule s (set F i (y + n)) (set views id d'.view)
        = subst (λ (u : SeatView). Rule s (set F i (y + n)) (set views id u)) (same-add v i y 0 a.won can.alone)
        (law.steps s F views r.rule id v here live op can.fits) in
        let more : (j : ℕ) → owed_in j (set seats id d') ≡ owed_in j seats + cond (i == j) n 0
        = λ j. omega (arith, total_set (owed_to j) seats id d d' at) in
        make (set F i (y + n)) words d' rule
        (length-set F i (y + n) ∙ r.long)
        (λ j. omega (arith, set-more F i j n (inside-words bs F views id v b i word), r.sums j, more j))
        (rightly-owe d a (r.owed id d at) can)
        (λ j l. dite (ℕ_discrete (owed_in j seats) 0)
        (λ (z : owed_in j seats ≡ 0). ⊎_elim
        (λ (t : (i == j) ≡ true).
        let q : j ≡ node_seen word = sym (eqb-true i j t) ∙ word.word in
        let most = (law.wins s F views r.rule word.node (subst (λ (t : Setting). is_node (root_at t) bs word.node ≡ true) shape word.is)).1 in
        let same : slice_index F (word.node + SEEN_WORD) ≡ slice_index words j
        = ap (slice_index F) (sym q) ∙ same-word j z in
        subst (λ (m : ℕ). wins_in m ≤ visits_in m) same most)
        (λ (t : (i == j) ≡ false). absurd (omega (arith, l, more j, z, ap (λ (u : Bool). cond u n 0) t)))
        (cases_Bool (i == j)))
        (λ (ne : owed_in j seats ≢ 0). r.wins j (omega (arith, ne))))
      where
        node_seen : {t : Setting} {ls : List LinkedBlock} {w : ℕ} → SeenOf t ls w → ℕ
        node_seen word = word.node + SEEN_WORD

    -- what is owed to a word is given
    pub owing-gives : (i n : ℕ) → CanGive d i n
        → OwingRule s (words_given words i n) (set seats id (owing_less d i))
    owing-gives i n can =
        let x : ℕ = slice_index words i in
        let d' : Debtor = owing_less d i in
        let seen : IsSeenWord v i = given-seen d i n (r.owed id d at) can in
        let word : SeenOf v.shape bs i = seen-of id d i at seen in
        let inside : i < length words = omega (arith, inside-words bs F views id v b i word, r.long) in
        let here-less : owed_in i (set seats id d') + n ≡ owed_in i seats
        = omega (arith, total_set (owed_to i) seats id d d' at, but-here i d.owed, can.owes) in
        let else-same : (j : ℕ) → j ≢ i → owed_in j (set seats id d') ≡ owed_in j seats
        = λ j ne. omega (arith, total_set (owed_to j) seats id d d' at, but-else i j d.owed ne) in
        let now : slice_index (set words i (x + n)) i ≡ x + n = get_or-set_same words i (x + n) 0 inside in
        make F (set words i (x + n)) d'
        (subst (Rule s F) (sym (set_again views id v here)) r.rule)
        (r.long ∙ sym (length-set words i (x + n)))
        (λ j. dite (ℕ_discrete j i)
        (λ (q : j ≡ i).
        subst (λ (k : ℕ). slice_index F k ≡ slice_index (set words i (x + n)) k + owed_in k (set seats id d')) (sym q)
        (omega (arith, r.sums i, here-less, now)))
        (λ (ne : j ≢ i). omega (arith, r.sums j, else-same j ne, get_or-set_other words i j (x + n) 0 ne)))
        (rightly-give d i (r.owed id d at))
        (λ j h. dite (ℕ_discrete j i)
        (λ (q : j ≡ i).
        let look : i < end_of v.shape
        = omega (arith, word.word, (node-range bs F views id v b word.node 3 word.is (omega arith)).1) in
        let most = ((answers-settled (Look i) look).step.seen seen.node seen.known seen.word).visits in
        let bound : visits_in (x + n) ≤ 1000000
        = omega (arith, visits-less (x + n) (slice_index F i) (omega (arith, r.sums i, here-less)), most, few) in
        subst (λ (m : ℕ). wins_in m ≤ visits_in m) (sym (ap (slice_index (set words i (x + n))) q ∙ now))
        (wins-more x n (adds_in i d.owed) (wins_added i d.owed) (r.wins i (omega (arith, here-less, can.some)))
        (can.owes ∙ amount-parts i d.owed) (wins-less i d.owed) bound))
        (λ (ne : j ≢ i).
        subst (λ (m : ℕ). wins_in m ≤ visits_in m) (sym (get_or-set_other words i j (x + n) 0 ne))
        (r.wins j (omega (arith, h, else-same j ne)))))

    -- and the word does not pass 2^32 visits by it, nor its wins
    pub owing-room : (i n : ℕ) → CanGive d i n
        → visits_in (slice_index words i + n) ≤ v.shape.knobs.playouts
    owing-room i n can =
        let seen : IsSeenWord v i = given-seen d i n (r.owed id d at) can in
        let word : SeenOf v.shape bs i = seen-of id d i at seen in
        let look : i < end_of v.shape
        = omega (arith, word.word, (node-range bs F views id v b word.node 3 word.is (omega arith)).1) in
        let most = ((answers-settled (Look i) look).step.seen seen.node seen.known seen.word).visits in
        omega (arith, visits-less (slice_index words i + n) (slice_index F i) (omega (arith, r.sums i, total_at (owed_to i) seats id d at, can.owes)), most)
