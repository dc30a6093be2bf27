-- The laws of the steps, as the table asks for them.
use Rattle.std.proofs.Common.{◌≡◌, ◌≢◌, ℕ, ◌+◌, ◌-◌, ◌/◌, ◌%◌, ◌^◌, ◌<◌, ◌≤◌, Bool, true, false}
use Rattle.std.proofs.Common.{cond, List, [], ◌∷◌, ◌++◌, set, get_or, refl, sym, ap, ◌∙◌, subst}
use Rattle.std.proofs.Common.{⊎_elim, inr, arith}
use Rattle.std.specs.Prelude.{◌==◌}
use Rattle.std.proofs.Math.Nat.{mod-eq_of_lt}
use mathlib.Core.Option.{none, some}
use lib.ListN.{get_elem?}
use prog.Atomic.{either}
use mir.Val.{bool_byte}
use Rattle.atomic_table.specs.Table.{Me, step, stepped, keeps, Allows, Splits, Joins}
use Rattle.atomic_table.proofs.Lists.{at_set, at_map}
use Rattle.atomic_table.specs.declared.shared.Seat.{Seat}
use Rattle.atomic_table.specs.Seated.{TableId}
use Rattle.tree_words.specs.Settings.{Setting, IsSetting}
use Rattle.tree_words.specs.Words.{end_of, visits_in}
use Rattle.tree_words.specs.Sequence.{amount_of}
use Rattle.tree_words.specs.declared.steps.Op.{Op}
use Rattle.tree_words.specs.declared.steps.Op.TheVariants.{Draw, Look, Claim, Publish, Add, Note}
use Rattle.arena_rule.specs.Views.{SeatView, spent_view, opening_view}
use Rattle.arena_rule.specs.Lookups.{is_known}
use Rattle.arena_rule.specs.Fits.{FitsStep, CanSplit, CanJoin}
use Rattle.arena_rule.specs.Afters.{word_of, put, answer_of, kept_part, given_part, joined}
use Rattle.arena_rule.specs.Answers.{MayAnswer}
use Rattle.arena_rule.specs.IsView.{IsView}
use Rattle.arena_rule.specs.Rule.{words_after}
use Rattle.arena_rule.specs.Adds.{CountAdd}
use Rattle.arena_rule.specs.Owing.{Debtor, view_of, debtless, OwingRule, stepped_seat, found_in}
use Rattle.arena_rule.specs.Owing.{seats_after, CanOwe, owing_more, CanGive, owing_less, seats_split}
use Rattle.std.proofs.lemmas.List.{set-get_or}
use Rattle.arena_rule.proofs.Options.{none-some, false-true}
use Rattle.arena_rule.proofs.Owing.{owing-answers, owing-steps, owing-owes, owing-gives, owing-room}
use Rattle.arena_rule.proofs.Owing.{rightly-step, rightly-owe, rightly-give}
use Rattle.arena_rule.specs.Owing.{OwesRightly}
use Rattle.arena_rule.proofs.OwingSeats.{owing-splits, owing-joins, owes-none}
use Rattle.arena_rule.proofs.Changes.{shape-after}
use Rattle.arena_rule.proofs.ViewStays.{view-stays}
use Rattle.arena_rule.proofs.ViewSeats.{kept-stays, given-stays, join-stays}
use Rattle.tree_rule.specs.Tables.{HoldsArenaRule}
use Rattle.tree_rule.specs.Events.{IsMadeInRule, SplitKeepsRule, JoinKeepsRule}
use Rattle.tree_rule.specs.Plays.{IsStep, add_tells, note_tells, IsOwing, IsGiving, give_tells}
use Rattle.tree_rule.specs.Seats.{IsSeatOf}
use Rattle.tree_rule.specs.Visits.{own_visits}

-- each seat has the tree's shape
pub shape-of : (s : Setting) (words : List ℕ) (seats : List Debtor) (id : ℕ) (d : Debtor)
    → OwingRule s words seats → get_elem? seats id ≡ some d → d.view.shape ≡ s
shape-of s words seats id d h at
    = (h.rule.state.widths.each id d.view (at_map view_of seats id d at)).shape

-- an operation that puts into the word what the step puts there, if the answer is one that it may
-- give
module _ (s : Setting) (slots id : ℕ) (m : Me ℕ Debtor) (op : Op) (iv : IsView m.0.view)
    (fits : FitsStep m.0.view op) where
  -- the arena in which the step is made
  made-in : (words : List ℕ) (seats : List Debtor) → OwingRule s words seats
      → get_elem? seats id ≡ some m.0 → 0 < m.0.view.width
      → OwingRule s (words_after words op) (seats_after words seats id m.0 op)
      → IsMadeInRule m.0 op (found_in words op)
  made-in words seats h at live rule =
      let shape : m.0.view.shape ≡ s = shape-of s words seats id m.0 h at in
      record {
        arena = record { words = words; seats = seats };
        id = id;
        seat = record { at = at; live = live };
        found = refl;
        before = subst (λ (z : Setting). OwingRule z words seats) (sym shape) h;
        after = subst (λ (z : Setting). OwingRule z (words_after words op) (seats_after words seats id m.0 op)) (sym shape) rule;
      }

  pub acts : (f : ℕ → ℕ)
      → ((x : ℕ) → x < 2 ^ 64 → MayAnswer m.0.view op (answer_of op x) → f x ≡ put op x)
      → Allows (HoldsArenaRule s) slots id m (word_of op) f (λ x n. IsStep m op (answer_of op x) n)
  acts f same t h _ at low =
      let x : ℕ = get_or t.words (word_of op) 0 in
      let w : Debtor = stepped_seat m.0 op (answer_of op x) in
      let live : 0 < m.0.view.width = omega (arith, iv.width) in
      let may : MayAnswer m.0.view op (answer_of op x)
      = owing-answers s t.words t.views h id m.0 at live op fits in
      let rule : HoldsArenaRule s (stepped t (word_of op) (put op x) id m.1 w keeps)
      = owing-steps s t.words t.views h id m.0 at live op fits in (
        w,
        keeps,
        tt,
        subst (λ (n : ℕ). HoldsArenaRule s (stepped t (word_of op) n id m.1 w keeps))
            (sym (same x low may)) rule,
        record { answer = may; made = made-in t.words t.views h at live rule; view = refl; slots = refl },
      )

-- a load by which the seat begins to owe an add, and an add of all that it owes to a word
module _ (s : Setting) (slots id : ℕ) (m : Me ℕ Debtor) (iv : IsView m.0.view) where
  pub owes-allowed : (add : CountAdd) (q : ℕ) → CanOwe m.0 add
      → Allows (HoldsArenaRule s) slots id m q (λ n. n) (λ x new. IsOwing m add new)
  owes-allowed add q can t h _ at low =
      let w : Debtor = owing_more m.0 add in
      let live : 0 < m.0.view.width = omega (arith, iv.width) in
      let rule : OwingRule s t.words (set t.views id w)
      = owing-owes s t.words t.views h id m.0 at live add can in
      let shape : m.0.view.shape ≡ s = shape-of s t.words t.views id m.0 h at in (
        w,
        keeps,
        tt,
        subst (λ (ws : List ℕ). OwingRule s ws (set t.views id w)) (sym (set-get_or t.words q 0)) rule,
        record {
          made = record {
            arena = record { words = t.words; seats = t.views };
            id = id;
            seat = record { at = at; live = live };
            before = subst (λ (z : Setting). OwingRule z t.words t.views) (sym shape) h;
            after = subst (λ (z : Setting). OwingRule z t.words (set t.views id w)) (sym shape) rule;
          };
          view = refl;
          slots = refl;
        },
      )

  pub gives-allowed : (i n : ℕ) → CanGive m.0 i n
      → Allows (HoldsArenaRule s) slots id m i (λ x. (x + n) % 2 ^ 64)
      (give_tells (step slots i n 0 none) m)
  gives-allowed i n can t h _ at low =
      let w : Debtor = owing_less m.0 i in
      let x : ℕ = get_or t.words i 0 in
      let live : 0 < m.0.view.width = omega (arith, iv.width) in
      let rule : OwingRule s (set t.words i (x + n)) (set t.views id w)
      = owing-gives s t.words t.views h id m.0 at live i n can in
      let few = iv.setting.ranges.playouts.1 in
      let room : visits_in (x + n) ≤ m.0.view.shape.knobs.playouts
      = owing-room s t.words t.views h id m.0 at live i n can in
      let same : (x + n) % 2 ^ 64 ≡ x + n = mod-eq_of_lt (small (x + n) (omega (arith, room, few))) in
      let shape : m.0.view.shape ≡ s = shape-of s t.words t.views id m.0 h at in (
        w,
        keeps,
        tt,
        subst (λ (k : ℕ). OwingRule s (set t.words i k) (set t.views id w)) (sym same) rule,
        record {
          made = record {
            arena = record { words = t.words; seats = t.views };
            id = id;
            seat = record { at = at; live = live };
            before = subst (λ (z : Setting). OwingRule z t.words t.views) (sym shape) h;
            after = subst (λ (z : Setting). OwingRule z (set t.words i (x + n)) (set t.views id w)) (sym shape) rule;
          };
          view = refl;
          slots = refl;
        },
      )
    where
      small : (k : ℕ) → visits_in k ≤ 1000000 → k < 2 ^ 64
      small k l = omega (arith, l)

-- the sums of draws, claims and adds are below 2^64
module _ (v : SeatView) (iv : IsView v) where
  pub draw-same : (x : ℕ) → MayAnswer v Draw x → (x + 1) % 2 ^ 64 ≡ x + 1
  draw-same x may =
      let few = iv.setting.ranges.playouts.1 in
      let most = iv.setting.ranges.workers.1 in
      mod-eq_of_lt (omega (arith, may.step.most, few, most))

  pub claim-same : (size x : ℕ) → size < 2 ^ 32 → MayAnswer v (Claim size) x
      → (x + size) % 2 ^ 64 ≡ x + size
  claim-same size x small may =
      let few = iv.setting.ranges.playouts.1 in
      let most = iv.setting.ranges.words.1 in
      mod-eq_of_lt (omega (arith, may.step.most, few, most, small))

  pub add-same : (i : ℕ) (won : Bool) (x : ℕ) → MayAnswer v (Add i won) x
      → (x + amount_of won) % 2 ^ 64 ≡ x + amount_of won
  add-same i won x may =
      let few = iv.setting.ranges.playouts.1 in
      mod-eq_of_lt (by won (omega (arith, may.step, few)))
    where
      by : (t : Bool) → x / 4294967296 < 1000000 → x + amount_of t < 2 ^ 64
      by true l = omega (arith, l)
      by false l = omega (arith, l)

-- a compare-exchange of 0 for b puts what a Publish puts
pub publish-same : (l b x : ℕ) → either (x == 0) b x ≡ put (Publish l b) x
publish-same l b x = by (x == 0)
  where
    by : (t : Bool) → either t b x ≡ cond t b x
    by true = refl
    by false = refl

-- one visit, and one more for a win
pub won-added : (n : ℕ) (won : Bool) → n ≡ bool_byte won → 4294967296 + n ≡ amount_of won
won-added n true e = omega (arith, e)
won-added n false e = omega (arith, e)

-- what is added tells who won
pub won-told : (won : Bool) → (amount_of won == amount_of true) ≡ won
won-told true = refl
won-told false = refl

-- a look at a tally answers at least the seat's own visits
pub own-visits : (v : SeatView) (op : Op) (n x : ℕ) → MayAnswer v op n → is_known v x ≡ true
    → op ≡ Look (x + 2) → own_visits v x ≤ visits_in n
own-visits v op n x may known e =
    let look : MayAnswer v (Look (x + 2)) n = subst (λ (o : Op). MayAnswer v o n) e may in
    (look.step.tally x known refl).own

-- a step leaves the seat at its table, with a view in order
pub sits-after : (table : TableId) (old new : Seat ℕ Debtor) (op : Op) (x : ℕ)
    → IsSeatOf table old → FitsStep old.me.0.view op → new.table_id ≡ old.table_id
    → IsStep old.me op x new.me → IsSeatOf table new
sits-after table old new op x sits fits same told = record {
  table = same ∙ sits.table;
  slots = told.slots ∙ sits.slots;
  words = sits.words
      ∙ sym (ap (λ (u : Debtor). end_of u.view.shape) told.view ∙ ap end_of (shape-after old.me.0.view op x));
  view = subst (λ (u : Debtor). IsView u.view) (sym told.view)
      (view-stays old.me.0.view sits.view op x fits told.answer);
  owed = subst OwesRightly (sym told.view) (rightly-step old.me.0 op x sits.owed);
}

-- an add that is owed may be answered 0
pub owed-answer : (d : Debtor) (add : CountAdd) → IsView d.view → CanOwe d add
    → MayAnswer d.view (Add add.word add.won) 0
owed-answer d add iv can = record {
  step = let some = iv.setting.ranges.playouts.0 in omega (arith, some);
  whole = λ copy e. absurd (none-some (sym can.alone ∙ e));
}

-- so does one that begins to owe
pub sits-owing : (table : TableId) (old new : Seat ℕ Debtor) (add : CountAdd)
    → IsSeatOf table old → CanOwe old.me.0 add → new.table_id ≡ old.table_id
    → IsOwing old.me add new.me → IsSeatOf table new
sits-owing table old new add sits can same told = record {
  table = same ∙ sits.table;
  slots = told.slots ∙ sits.slots;
  words = sits.words
      ∙ sym (ap (λ (u : Debtor). end_of u.view.shape) told.view ∙ ap end_of (shape-after old.me.0.view (Add add.word add.won) 0));
  view = subst (λ (u : Debtor). IsView u.view) (sym told.view)
      (view-stays old.me.0.view sits.view (Add add.word add.won) 0 can.fits (owed-answer old.me.0 add sits.view can));
  owed = subst OwesRightly (sym told.view) (rightly-owe old.me.0 add sits.owed can);
}

-- and one that gives
pub sits-giving : (table : TableId) (old new : Seat ℕ Debtor) (i n : ℕ)
    → IsSeatOf table old → new.table_id ≡ old.table_id
    → IsGiving old.me i n new.me → IsSeatOf table new
sits-giving table old new i n sits same told = record {
  table = same ∙ sits.table;
  slots = told.slots ∙ sits.slots;
  words = sits.words ∙ sym (ap (λ (u : Debtor). end_of u.view.shape) told.view);
  view = subst (λ (u : Debtor). IsView u.view) (sym told.view) sits.view;
  owed = subst OwesRightly (sym told.view) (rightly-give old.me.0 i sits.owed);
}

-- an Add is told by what it adds, and a Note by its word
pub add-allowed : (s : Setting) (slots id : ℕ) (m : Me ℕ Debtor) (i n : ℕ) (won : Bool)
    → n ≡ amount_of won → IsView m.0.view → FitsStep m.0.view (Add i won)
    → Allows (HoldsArenaRule s) slots id m i (λ x. (x + n) % 2 ^ 64)
    (add_tells (step slots i n 0 none) m)
add-allowed s slots id m i n won is iv fits =
    subst (λ (t : Bool). Allows (HoldsArenaRule s) slots id m i (λ x. (x + n) % 2 ^ 64)
    (λ x new. IsStep m (Add i t) x new)) (sym (ap (λ (k : ℕ). k == amount_of true) is ∙ won-told
    won))
    (acts s slots id m (Add i won) iv fits (λ x. (x + n) % 2 ^ 64) (λ x low may. ap (λ (k : ℕ). (x + k) % 2 ^ 64) is ∙ add-same m.0.view iv i won x may))

pub note-allowed : (s : Setting) (slots id : ℕ) (m : Me ℕ Debtor) (k value : ℕ) → IsView m.0.view
    → FitsStep m.0.view (Note k value)
    → Allows (HoldsArenaRule s) slots id m (2 + k) (λ _. value)
    (λ _. note_tells (step slots (2 + k) value 0 none) m value)
note-allowed s slots id m k value iv fits =
    let back : (2 + k) - 2 ≡ k = omega arith in
    subst (λ (j : ℕ). Allows (HoldsArenaRule s) slots id m (2 + k) (λ _. value) (λ _ n. IsStep m (Note j value) 0 n)) (sym back)
    (acts s slots id m (Note k value) iv fits (λ _. value) (λ x low may. refl))

-- a split and a join, as the table asks for them, if the part and the spent view are picked
pub cuts : (s : Setting) (id part p : ℕ) (d : Debtor) → part ≡ p → IsView d.view
    → CanSplit d.view part → d.owed ≡ []
    → Splits (HoldsArenaRule s) id d (debtless (kept_part d.view p)) (debtless (given_part d.view p))
cuts s id part p d is iv can free t h at =
    subst (λ (q : ℕ). OwingRule s t.words (seats_split t.views id d.view q)) is
    (owing-splits s t.words t.views h id d at free (omega (arith, iv.width)) part can)

pub merges : (s : Setting) (id : ℕ) (d : Debtor) (other : ℕ) (e : Debtor) (spent : SeatView)
    → spent ≡ spent_view d.view.shape → IsView d.view → IsView e.view → CanJoin d.view e.view
    → d.owed ≡ [] → e.owed ≡ []
    → Joins (HoldsArenaRule s) id d other e (debtless (joined d.view e.view)) (debtless spent)
merges s id d other e spent is iv iw can free nothing t h at apart there =
    let both : Debtor = debtless (joined d.view e.view) in
    let here : get_elem? t.views other ≡ some e
    = ⊎_elim (λ (q : (other ≡ id) × (both ≡ e)). absurd (apart q.0))
    (λ (q : (other ≢ id) × (get_elem? t.views other ≡ some e)). q.1)
    (at_set t.views id other both e there) in
    subst (λ (u : SeatView). OwingRule s t.words (set (set t.views id both) other (debtless u))) (sym is)
    (owing-joins s t.words t.views h id d at free (omega (arith, iv.width)) other e here apart (omega (arith, iw.width)) nothing can)

pub kept-shape : (v : SeatView) (part : ℕ) → (kept_part v part).shape ≡ v.shape
unfolding kept_part
kept-shape v part = refl

pub joined-shape : (v w : SeatView) → (joined v w).shape ≡ v.shape
unfolding joined
joined-shape v w = refl

-- the opening view is in order
pub opening-order : (s : Setting) → IsSetting s → IsView (opening_view s)
opening-order s h = record {
  setting = h;
  width = h.ranges.workers.0;
  known = tt;
  order = inr tt;
  ticket = λ k e. absurd (none-some e);
  held = λ b e. absurd (none-some e);
  apart = λ i e. absurd (false-true e);
  leaf = λ f e. absurd (none-some e);
}

module _ (table : TableId) (old new : Seat ℕ Debtor) where
  pub sits-kept : (part p : ℕ) → IsSeatOf table old → CanSplit old.me.0.view part → part ≡ p
      → new.table_id ≡ old.table_id → new.me ≡ (debtless (kept_part old.me.0.view p), old.me.1)
      → IsSeatOf table new
  sits-kept part p sits can is same me = record {
    table = same ∙ sits.table;
    slots = ap (λ (m : Me ℕ Debtor). m.1) me ∙ sits.slots;
    words = sits.words
        ∙ sym (ap (λ (m : Me ℕ Debtor). end_of m.0.view.shape) me ∙ ap end_of (kept-shape old.me.0.view p));
    view = subst IsView (ap (kept_part old.me.0.view) is ∙ sym (ap (λ (m : Me ℕ Debtor). m.0.view) me))
        (kept-stays old.me.0.view sits.view part can);
    owed = subst OwesRightly (sym (ap (λ (m : Me ℕ Debtor). m.0) me)) (owes-none (kept_part old.me.0.view p));
  }

  pub sits-given : (part p : ℕ) → IsSeatOf table old → CanSplit old.me.0.view part → part ≡ p
      → new.table_id ≡ old.table_id → new.me ≡ (debtless (given_part old.me.0.view p), [])
      → IsSeatOf table new
  sits-given part p sits can is same me = record {
    table = same ∙ sits.table;
    slots = ap (λ (m : Me ℕ Debtor). m.1) me;
    words = sits.words ∙ sym (ap (λ (m : Me ℕ Debtor). end_of m.0.view.shape) me);
    view = subst IsView (ap (given_part old.me.0.view) is ∙ sym (ap (λ (m : Me ℕ Debtor). m.0.view) me))
        (given-stays old.me.0.view sits.view part can);
    owed = subst OwesRightly (sym (ap (λ (m : Me ℕ Debtor). m.0) me)) (owes-none (given_part old.me.0.view p));
  }

pub sits-joined : (table : TableId) (old other new : Seat ℕ Debtor) → IsSeatOf table old
    → IsSeatOf table other → other.me.0.view.shape ≡ old.me.0.view.shape
    → CanJoin old.me.0.view other.me.0.view
    → new.table_id ≡ old.table_id
    → new.me ≡ (debtless (joined old.me.0.view other.me.0.view), old.me.1)
    → IsSeatOf table new
sits-joined table old other new sits others shape can same me = record {
  table = same ∙ sits.table;
  slots = ap (λ (m : Me ℕ Debtor). m.1) me ∙ sits.slots;
  words = sits.words
      ∙ sym (ap (λ (m : Me ℕ Debtor). end_of m.0.view.shape) me ∙ ap end_of (joined-shape old.me.0.view other.me.0.view));
  view = subst IsView (sym (ap (λ (m : Me ℕ Debtor). m.0.view) me))
      (join-stays old.me.0.view other.me.0.view sits.view others.view shape can);
  owed = subst OwesRightly (sym (ap (λ (m : Me ℕ Debtor). m.0) me))
      (owes-none (joined old.me.0.view other.me.0.view));
}

-- a split and a join keep the rule wherever it holds
pub split-keeps : (v w u : SeatView) (part : ℕ) → IsView v → CanSplit v part → w ≡ kept_part v part
    → u ≡ given_part v part → SplitKeepsRule v w u
split-keeps v w u part iv can kept given a id h seat =
    subst (λ (z : SeatView). OwingRule v.shape a.words (set a.seats id (debtless z) ++ debtless u ∷ [])) (sym kept)
    (subst (λ (z : SeatView). OwingRule v.shape a.words (set a.seats id (debtless (kept_part v part)) ++ debtless z ∷ [])) (sym given)
    (owing-splits v.shape a.words a.seats h id (debtless v) seat.at refl seat.live part can))

pub join-keeps : (v u w : SeatView) → IsView v → CanJoin v u → w ≡ joined v u → JoinKeepsRule v u w
join-keeps v u w iv can both a id other h seat others apart =
    subst (λ (z : SeatView). OwingRule v.shape a.words (set (set a.seats id (debtless z)) other (debtless (spent_view v.shape)))) (sym both)
    (owing-joins v.shape a.words a.seats h id (debtless v) seat.at refl seat.live other (debtless u) others.at apart others.live refl can)
