-- The look at a link keeps Belongs.
use Rattle.std.proofs.Common.{◌≡◌, ◌≢◌, ◌⊎◌, ℕ, zero, suc, ◌+◌, ◌<◌, ◌≤◌, Bool, true, false, cond}
use Rattle.std.proofs.Common.{List, ◌∷◌, length, refl, sym, ap, ◌∙◌, subst, arith, ⊎_elim, inl, inr}
use Rattle.std.specs.Prelude.{◌==◌, ◌&&◌, not, nat_lt, nat_le}
use Rattle.std.proofs.Math.Nat.{eq-zero-or-pos}
use Rattle.std.proofs.lemmas.Bool.{cases_Bool, cases_eq, and_parts, leb-false, leb-true, ltb-true}
use Rattle.std.proofs.lemmas.Bool.Decides.{nat_tests}
use Rattle.play_out.specs.Fills.{empties_of}
use Rattle.tree_words.specs.Settings.{Setting}
use Rattle.tree_words.specs.Words.{root_at}
use Rattle.tree_words.specs.Blocks.{LinkedBlock, In, InOrder, link_of}
use Rattle.tree_words.specs.Paths.{NodeState}
use Rattle.tree_words.specs.Complete.{cells_below}
use Rattle.tree_words.specs.declared.steps.Op.TheVariants.{Look}
use Rattle.tree_words.proofs.Blocks.NodeLaws.{nodes-apart}
use Rattle.arena_rule.specs.Views.{SeatView}
use Rattle.arena_rule.specs.Lookups.{is_known, known_link, told_below, empties_at}
use Rattle.arena_rule.specs.Answers.{MayAnswer, AnswersLink}
use Rattle.arena_rule.specs.Afters.{after, looked, with_word, known_after, node_of_link}
use Rattle.arena_rule.specs.IsView.{IsView}
use Rattle.walker.specs.declared.stages.Stage.TheVariants.{Claiming}
use Rattle.walker.specs.declared.machine.Walker.{Walker}
use Rattle.walker.specs.Machine.{state_in, cells_in, asks_block, at_block, at_leaf, linked}
use Rattle.walker.specs.Belongs.{Belongs, Down, MayClaim, AtLink, AtHeader, AtTally}
use Rattle.walker.proofs.KnownLaws.{one-order, known-lies, known-cells, link-block}
use Rattle.walker.proofs.Going.{look-goes, down-goes, no-count}
use Rattle.walker.proofs.LeafLaws.{cells-is, leaf-stands, leaf-belongs}
use Rattle.walker.proofs.Cases.{linked-block, linked-claim, linked-leaf}
use Rattle.arena_rule.proofs.Room.{told-known}

pub known-none : (v : SeatView) (z : ℕ) → known_after v z 0 ≡ v.known
unfolding known_after
known-none v z = by (is_known v z) (known_link v z == 0)
  where
    by : (p q : Bool) → cond (p && (q && false)) (told_below v z 0 ∷ v.known) v.known ≡ v.known
    by true true = refl
    by true false = refl
    by false q = refl

-- A block below the node is known if its link was found.
pub found-below : (v : SeatView) (z b : ℕ) → is_known v z ≡ true → AnswersLink v z b → b ≢ 0
    → ((c : LinkedBlock) → In c v.known → In c (known_after v z b))
    → (c : LinkedBlock) × In c (known_after v z b) × (c.start ≡ b) × (c.parent ≡ z)
found-below v z b n a ne stays = ⊎_elim
    (λ (e : known_link v z ≡ 0). (told_below v z b, subst (In (told_below v z b)) (sym (told-known v z b n e ne)) (inl refl), refl, refl))
    (λ (l : 0 < known_link v z).
    let q = link-block v.known z l in
    (q.0, stays q.0 q.1, q.3 ∙ sym (a.known l), q.2))
    (eq-zero-or-pos (known_link v z))

-- a node that asks for no block is a leaf
asks-not : (full t u : Bool) → (not full && (t && u)) ≡ false
    → (t ≡ false) ⊎ ((u ≡ false) ⊎ (full ≡ true))
asks-not true t u e = inr (inr refl)
asks-not false true true e = absurd (cc)
asks-not false true false e = inr (inl refl)
asks-not false false u e = inl refl

none-less : (n : ℕ) → nat_lt 0 n ≡ false → n ≡ 0
none-less n e = grind (arith, nat_tests)

not-true : (t : Bool) → not t ≡ true → t ≡ false
not-true true e = sym e
not-true false e = refl

module _ (w : Walker) (v : SeatView) (b : Belongs w v) (x : ℕ) where
  order : InOrder (root_at v.shape) v.known
  order = one-order v b.view b.width

  above : (c : LinkedBlock) → In c v.known → c.parent < c.start
  above c i = (known-lies v.shape v.known c order b.view.known i).above

  -- after a look at a word that is no count the walk stands as before
  pub look-down : (at : ℕ) → Down w v → IsView (after v (Look at) x)
      → ((y j : ℕ) → is_known v y ≡ true → 2 ≤ j → j < 4 → at ≢ y + j) → Down w (after v (Look at) x)
  unfolding with_word looked
  look-down at d iu clear =
      down-goes v (after v (Look at) x) at (look-goes v at x b.width iu) w.number w.node w.visits
      (state_in w) w.way d
      (clear w.node 2 d.known (omega arith) (omega arith))
      (λ c i l. no-count v at order clear c i) above refl refl refl

  -- the link of the node where the walk stands
  module _ (a : AtLink w v) (may : MayAnswer v (Look w.at) x)
      (iu : IsView (after v (Look w.at) x)) where
    link-clear : (y j : ℕ) → is_known v y ≡ true → 2 ≤ j → j < 4 → w.at ≢ y + j
    link-clear y j n l m e
        = let is = nodes-apart (root_at v.shape) v.known w.node y 1 j order a.down.known n
        (omega arith) m (sym a.at ∙ e) in omega (arith, is, a.at, e)

    link-down : Down w (after v (Look w.at) x)
    link-down = look-down w.at a.down iu link-clear

    link-answer : AnswersLink v w.node x
    link-answer = may.step.link w.node a.down.known a.at

    back : node_of_link w.at ≡ w.node
    back = omega (arith, a.at)

    uorder : InOrder (root_at (after v (Look w.at) x).shape) (after v (Look w.at) x).known
    unfolding with_word looked
    uorder = one-order (after v (Look w.at) x) iu b.width

    -- it names a block
    link-found : x ≢ 0 → AtHeader (at_block w x) (after v (Look w.at) x)
    unfolding with_word looked
    link-found ne =
        let found = found-below v w.node x a.down.known link-answer ne
        (λ c i. subst (λ (z : ℕ). In c (known_after v z x)) back ((look-goes v w.at x b.width iu).known c i)) in
        let known : In found.0 (known_after v (node_of_link w.at) x)
        = subst (λ (z : ℕ). In found.0 (known_after v z x)) (sym back) found.1 in
        let cells : found.0.cells ≡ cells_in w
        = known-cells v.shape
        (known_after v (node_of_link w.at) x) found.0 uorder iu.known known
        ∙ ap (cells_below v.shape (known_after v (node_of_link w.at) x)) found.3
        ∙ sym (cells-is w (after v (Look w.at) x) b.shape uorder iu.known link-down) in
        record {
          down = link-down;
          held = a.held;
          block = found.0;
          below = record { known = known; start = found.2; parent = found.3; cells = cells };
          at = (omega arith, omega arith);
        }

    -- it is 0
    link-known : x ≡ 0 → (after v (Look w.at) x).known ≡ v.known
    unfolding with_word looked
    link-known e = ap (known_after v (node_of_link w.at)) e ∙ known-none v (node_of_link w.at)

    link-below : x ≡ 0 → w.node ≢ root_at v.shape
    link-below e r = let q = link-answer.root r in omega (arith, q, e)

    link-vacant : x ≡ 0 → known_link v w.node ≡ 0
    link-vacant e = none (known_link v w.node) link-answer.known
      where
        none : (n : ℕ) → (0 < n → x ≡ n) → n ≡ 0
        none zero h = refl
        none (suc n) h = absurd (let q = h (omega arith) in omega (arith, q, e))

    link-claim : x ≡ 0 → asks_block w ≡ true
        → MayClaim (record w { stage = Claiming }) (after v (Look w.at) x)
    unfolding with_word looked
    link-claim e t =
        let p = and_parts (not w.full)
        (nat_le w.shape.knobs.expand w.visits && nat_lt 0 (length (empties_of w.board))) t in
        let q = and_parts (nat_le w.shape.knobs.expand w.visits)
        (nat_lt 0 (length (empties_of w.board))) p.1 in
        record {
          down = link-down;
          below = link-below e;
          vacant = ap (λ (ks : List LinkedBlock). link_of ks w.node) (link-known e) ∙ link-vacant e;
          visits = let l = leb-true w.shape.knobs.expand w.visits q.0 in
              subst (λ (s : Setting). s.knobs.expand ≤ w.visits) (sym b.shape) l;
          some = ltb-true 0 (length (empties_of w.board)) q.1;
          room = b.full ∙ not-true w.full p.0;
        }

    link-leaf : x ≡ 0 → asks_block w ≡ false → AtTally (at_leaf w) (after v (Look w.at) x)
    unfolding with_word looked
    link-leaf e t =
        let u : SeatView = after v (Look w.at) x in
        let empties : length (empties_of w.board) ≡ empties_at u w.node
        = ap (λ (p : NodeState). length (empties_of p.board)) link-down.is in
        leaf-stands w u b.shape uorder iu.known link-down a.held (link-below e)
        (inl (ap (λ (ks : List LinkedBlock). link_of ks w.node) (link-known e) ∙ link-vacant e))
        (⊎_elim
        (λ (f : nat_le w.shape.knobs.expand w.visits ≡ false). let l = leb-false w.shape.knobs.expand w.visits f in
        inl (omega (arith, l, link-down.counted, ap (λ (s : Setting). s.knobs.expand) b.shape)))
        (λ (f : (nat_lt 0 (length (empties_of w.board)) ≡ false) ⊎ (w.full ≡ true)). inr (⊎_elim
        (λ (z : nat_lt 0 (length (empties_of w.board)) ≡ false). inl (sym empties ∙ none-less (length (empties_of w.board)) z))
        (λ (z : w.full ≡ true). inr (b.full ∙ z)) f))
        (asks-not w.full (nat_le w.shape.knobs.expand w.visits) (nat_lt 0 (length (empties_of w.board))) t))

    pub keeps-link : Belongs (linked w x) (after v (Look w.at) x)
    unfolding with_word looked
    keeps-link =
        let u : SeatView = after v (Look w.at) x in
        let goal : Walker → Type 0 = λ z. Belongs z u in
        ⊎_elim
        (λ (e : x ≡ 0). ⊎_elim
        (λ (t : asks_block w ≡ true). subst goal (sym (linked-claim w x e t))
        (record { shape = b.shape; view = iu; width = b.width; full = b.full; stands = record { may = link-claim e t; held = a.held } }))
        (λ (t : asks_block w ≡ false). subst goal (sym (linked-leaf w x e t)) (leaf-belongs w u b.shape iu b.width b.full (link-leaf e t)))
        (cases_Bool (asks_block w)))
        (λ (ne : x ≢ 0). subst goal (sym (linked-block w x ne))
        (record { shape = b.shape; view = iu; width = b.width; full = b.full; stands = link-found ne }))
        (cases_eq x 0)
