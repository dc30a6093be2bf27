-- Seats that owe nothing may be split and joined, and begin; at the end the words are settled.
use Rattle.std.proofs.Common.{◌≡◌, ◌≢◌, ℕ, ◌+◌, ◌<◌, List, [], ◌∷◌, ◌++◌, set}
use Rattle.std.proofs.Common.{refl, sym, ap, ◌∙◌, subst, ⊎_elim, arith, true}
use Rattle.std.proofs.lemmas.List.{map-set, map-append, ext_get_or}
use Rattle.std.proofs.lemmas.List.Sums.{sum_by-cons}
use mathlib.Core.Option.{some, some-injective, some-ne-none}
use mathlib.Core.Logic.{dite}
use native.Mathlib.Decide.{ℕ_discrete}
use lib.ListN.{get_elem?}
use Rattle.atomic_table.proofs.Lists.{at_set, at_snoc, at_map}
use Rattle.std.proofs.lemmas.Bool.{eqb-true}
use Rattle.tree_words.specs.Settings.{Setting}
use Rattle.tree_words.specs.Words.{root_at}
use Rattle.tree_words.specs.Closing.{IsClosed}
use Rattle.tree_words.specs.Blocks.{is_node}
use Rattle.tree_words.specs.declared.layout.TheConstants.{SEEN_WORD}
use Rattle.tree_words.proofs.Blocks.Within.{within-node}
use Rattle.arena_rule.specs.Views.{SeatView, spent_view}
use Rattle.arena_rule.specs.Adds.{amount_at}
use Rattle.arena_rule.specs.Lookups.{is_known}
use Rattle.arena_rule.specs.Fits.{CanSplit, CanJoin}
use Rattle.arena_rule.specs.Afters.{kept_part, given_part, joined}
use Rattle.arena_rule.specs.Parts.{width_of}
use Rattle.arena_rule.specs.Rule.{Rule, views_split, views_joined}
use Rattle.arena_rule.specs.Closed.{IsLast}
use Rattle.arena_rule.specs.Owing.{Debtor, view_of, views_of, debtless, owed_to, owed_in, OwesRightly}
use Rattle.arena_rule.specs.Owing.{IsSeenWord, OwingRule, seats_split, seats_joined}
use Rattle.arena_rule.proofs.Totals.{total_split, total_join, total_two}
use Rattle.arena_rule.proofs.Debts.{who-owes, which-add}
use Rattle.arena_rule.proofs.Law as law

-- a seat that owes nothing
pub owes-none : (v : SeatView) → OwesRightly (debtless v)
owes-none v = record {
  seen = λ a c. let l = c.1 in absurd (omega (arith, l));
  few = λ w. omega arith;
  alone = λ copy e. refl;
}

module _ (s : Setting) (words : List ℕ) (seats : List Debtor) (r : OwingRule s words seats)
    (id : ℕ) (d : Debtor) (at : get_elem? seats id ≡ some d) (none : d.owed ≡ []) where
  here : get_elem? (views_of seats) id ≡ some d.view
  here = at_map view_of seats id d at

  none-to : (j : ℕ) → owed_to j d ≡ 0
  none-to j = ap (amount_at j) none

  module _ (live : 0 < d.view.width) where
    -- a split
    pub owing-splits : (part : ℕ) → CanSplit d.view part
        → OwingRule s words (seats_split seats id d.view part)
    owing-splits part can =
        let kept : SeatView = kept_part d.view part in
        let given : SeatView = given_part d.view part in
        let views : views_of (seats_split seats id d.view part) ≡ views_split (views_of seats) id d.view part
        = map-append view_of (set seats id (debtless kept)) (debtless given ∷ [])
        ∙ ap (λ (l : List SeatView). l ++ given ∷ []) (map-set view_of seats id (debtless kept)) in
        let same : (j : ℕ) → owed_in j (seats_split seats id d.view part) ≡ owed_in j seats
        = λ j. omega (arith, total_split (owed_to j) seats id d (debtless kept) (debtless given) at, none-to j) in
        record {
          settled = r.settled;
          rule = subst (Rule s r.settled) (sym views)
              (law.splits s r.settled (views_of seats) r.rule id d.view here live part can);
          long = r.long;
          sums = λ j. omega (arith, r.sums j, same j);
          owed = λ j e q. ⊎_elim
              (λ (t : get_elem? (set seats id (debtless kept)) j ≡ some e). ⊎_elim
              (λ (z : (j ≡ id) × (debtless kept ≡ e)). subst OwesRightly z.1 (owes-none kept))
              (λ (z : (j ≢ id) × (get_elem? seats j ≡ some e)). r.owed j e z.1)
              (at_set seats id j (debtless kept) e t))
              (λ (t : debtless given ≡ e). subst OwesRightly t (owes-none given))
              (at_snoc (set seats id (debtless kept)) (debtless given) e j q);
          wins = λ j l. r.wins j (omega (arith, l, same j));
        }

    -- a join
    pub owing-joins : (other : ℕ) (e : Debtor) → get_elem? seats other ≡ some e → other ≢ id
        → 0 < e.view.width → e.owed ≡ [] → CanJoin d.view e.view
        → OwingRule s words (seats_joined seats id d.view other e.view)
    owing-joins other e there ne more nothing can =
        let both : SeatView = joined d.view e.view in
        let spent : SeatView = spent_view d.view.shape in
        let views : views_of (seats_joined seats id d.view other e.view) ≡ views_joined (views_of seats) id d.view other e.view
        = map-set view_of (set seats id (debtless both)) other (debtless spent)
        ∙ ap (λ (l : List SeatView). set l other spent) (map-set view_of seats id (debtless both)) in
        let same : (j : ℕ) → owed_in j (seats_joined seats id d.view other e.view) ≡ owed_in j seats
        = λ j. omega (arith, total_join (owed_to j) seats id other d e (debtless both) (debtless spent) ne at there, none-to j, ap (amount_at j) nothing) in
        record {
          settled = r.settled;
          rule = subst (Rule s r.settled) (sym views)
              (law.joins s r.settled (views_of seats) r.rule id d.view here live other e.view (at_map view_of seats other e there) ne more can);
          long = r.long;
          sums = λ j. omega (arith, r.sums j, same j);
          owed = λ j f q. ⊎_elim
              (λ (t : (j ≡ other) × (debtless spent ≡ f)). subst OwesRightly t.1 (owes-none spent))
              (λ (t : (j ≢ other) × (get_elem? (set seats id (debtless both)) j ≡ some f)). ⊎_elim
              (λ (z : (j ≡ id) × (debtless both ≡ f)). subst OwesRightly z.1 (owes-none both))
              (λ (z : (j ≢ id) × (get_elem? seats j ≡ some f)). r.owed j f z.1)
              (at_set seats id j (debtless both) f t.1))
              (at_set (set seats id (debtless both)) other j (debtless spent) f q);
          wins = λ j l. r.wins j (omega (arith, l, same j));
        }

  -- if the seat is the last one, the words are settled
  module _ (last : IsLast s (views_of seats) id d.view) where
    no-debt : (i : ℕ) → owed_in i seats ≡ 0
    no-debt i = dite (ℕ_discrete (owed_in i seats) 0)
        (λ (z : owed_in i seats ≡ 0). z)
        (λ (ne : owed_in i seats ≢ 0).
        let t = who-owes i seats (omega (arith, ne)) in
        let there : get_elem? (views_of seats) t.0 ≡ some t.1.view = at_map view_of seats t.0 t.1 t.2 in
        let a = which-add i t.1.owed t.3 in
        let h : IsSeenWord t.1.view a.0.word = (r.owed t.0 t.1 t.2).seen a.0 a.1 in
        dite (ℕ_discrete t.0 id)
        (λ (q : t.0 ≡ id).
        let same : d ≡ t.1 = some-injective d t.1 (sym at ∙ ap (get_elem? seats) (sym q) ∙ t.2) in
        absurd (omega (arith, t.3, ap (owed_to i) (sym same), none-to i)))
        (λ (q : t.0 ≢ id).
        let zero : t.1.view.width ≡ 0
        = omega (arith, total_two width_of (views_of seats) t.0 id t.1.view d.view q there here, r.rule.state.widths.sum, last.width) in
        let spent : t.1.view ≡ spent_view s = (r.rule.state.widths.each t.0 t.1.view there).spent zero in
        let root : h.node ≡ root_at s = eqb-true h.node (root_at s)
        (subst (λ (u : SeatView). is_known u h.node ≡ true) spent h.known) in
        absurd (h.below (root ∙ ap (λ (u : SeatView). root_at u.shape) (sym spent)))))

    pub settled-is : r.settled ≡ words
    settled-is = ext_get_or 0 r.settled words r.long (λ i l. omega (arith, r.sums i, no-debt i))

    -- so the arena rule holds of the words themselves, and the tree is closed
    pub rule-last : Rule s words (views_of seats)
    rule-last = subst (λ (ws : List ℕ). Rule s ws (views_of seats)) settled-is r.rule

    pub closes-last : IsClosed s words
    closes-last = law.closes s words (views_of seats) rule-last id d.view last

-- the rule with debts of one seat that owes nothing
pub owing-begins : (s : Setting) (words : List ℕ) (v : SeatView) → Rule s words (v ∷ [])
    → OwingRule s words (debtless v ∷ [])
owing-begins s words v rule =
    let zero : (j : ℕ) → owed_in j (debtless v ∷ []) ≡ 0 = λ j. omega (arith, sum_by-cons (owed_to j) (debtless v) []) in
    record {
      settled = words;
      rule = rule;
      long = refl;
      sums = λ j. omega (arith, zero j);
      owed = λ j e q. owed j e q;
      wins = λ j l. absurd (omega (arith, l, zero j));
    }
  where
    owed : (j : ℕ) (e : Debtor) → get_elem? (debtless v ∷ []) j ≡ some e → OwesRightly e
    owed j e q = ⊎_elim
        (λ (t : get_elem? [] j ≡ some e). absurd (nothing j t))
        (λ (t : debtless v ≡ e). subst OwesRightly t (owes-none v))
        (at_snoc [] (debtless v) e j q)
      where
        nothing : (j : ℕ) → get_elem? {A = Debtor} [] j ≡ some e → ⊥
        nothing j t = some-ne-none e (sym t)

-- what is owed is owed to the seen word of a node of the tree
pub owed-at : (s : Setting) (words : List ℕ) (seats : List Debtor) (r : OwingRule s words seats)
    (i : ℕ) → 0 < owed_in i seats
    → (x : ℕ) × (is_node (root_at s) r.rule.blocks x ≡ true) × (x ≢ root_at s)
    × (i ≡ x + SEEN_WORD)
owed-at s words seats r i l =
    let t = who-owes i seats l in
    let a = which-add i t.1.owed t.3 in
    let h : IsSeenWord t.1.view a.0.word = (r.owed t.0 t.1 t.2).seen a.0 a.1 in
    let there : get_elem? (views_of seats) t.0 ≡ some t.1.view = at_map view_of seats t.0 t.1 t.2 in
    let shape : t.1.view.shape ≡ s = (r.rule.state.widths.each t.0 t.1.view there).shape in (
      h.node,
      within-node (root_at s) r.rule.blocks t.1.view.known h.node (r.rule.state.known t.0 t.1.view there)
          (subst (λ (z : Setting). is_node (root_at z) t.1.view.known h.node ≡ true) shape h.known),
      λ e. h.below (e ∙ ap root_at (sym shape)),
      sym a.2 ∙ h.word,
    )
