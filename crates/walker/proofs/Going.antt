-- What a look leaves of a view.
use Rattle.std.proofs.Common.{◌≡◌, ◌≢◌, ℕ, suc, ◌+◌, ◌-◌, ◌*◌, ◌<◌, ◌≤◌, Bool, true, false, cond}
use Rattle.std.proofs.Common.{List, [], ◌∷◌, length, Option, Some, refl, sym, ap, ◌∙◌, subst, arith}
use Rattle.std.proofs.Common.{⊎_elim}
use Rattle.std.proofs.lemmas.Bool.{ne_eqb, eq-eqb, or_left, or_right}
use Rattle.tree_words.specs.Settings.{Setting}
use Rattle.tree_words.specs.Words.{Count, root_at, count_in}
use Rattle.tree_words.specs.Blocks.{LinkedBlock, In, InOrder, child}
use Rattle.tree_words.specs.Paths.{NodeState, node_state}
use Rattle.tree_words.specs.Writing.{listed}
use Rattle.tree_words.specs.Sequence.{search_game}
use Rattle.tree_words.specs.Descents.{pairs_of}
use Rattle.tree_words.specs.declared.steps.Op.TheVariants.{Look}
use Rattle.tree_words.proofs.Blocks.GameLaws.{spot-same, in-node, in-parent}
use Rattle.arena_rule.specs.Views.{SeatView, WordLoad}
use Rattle.arena_rule.specs.Lookups.{is_known, told_below, load_of, IsLoaded, or_zero, tally_loaded}
use Rattle.arena_rule.specs.Lookups.{seen_loaded}
use Rattle.arena_rule.specs.Fits.{IsChosen}
use Rattle.arena_rule.specs.Afters.{after, looked, with_word, known_after, loads_after, is_count}
use Rattle.arena_rule.specs.Afters.{node_of_link}
use Rattle.arena_rule.specs.IsView.{IsView}
use Rattle.arena_rule.proofs.KnownMore.{Grows, known_cases, known-more, known-kept}
use Rattle.walker.specs.declared.ways.Level.{Level}
use Rattle.walker.specs.Belongs.{OnWay, IsDown}
use Rattle.walker.proofs.KnownLaws.{one-order, node-behind}
use Rattle.tree_words.proofs.Walks.Down.{child-has}

-- What goes on from the view v to the view u: known blocks and nodes stay, a node's state stays,
-- and all loads but of the word `at`.
pub record Goes (v u : SeatView) (at : ℕ) : Type 0 where
  pub shape : u.shape ≡ v.shape
  pub known : (c : LinkedBlock) → In c v.known → In c u.known
  pub node : (x : ℕ) → is_known v x ≡ true → is_known u x ≡ true
  pub state : (x : ℕ) → is_known v x ≡ true
      → node_state u.shape u.known x ≡ node_state v.shape v.known x
  pub loads : (i : ℕ) → at ≢ i → load_of u.loads i ≡ load_of v.loads i

-- the word is not one of the counts by which a node of the block was chosen
pub record Untouched (c : LinkedBlock) (at : ℕ) : Type 0 where
  pub parent : at ≢ c.parent + 2
  pub tally : (k : ℕ) → k < length c.cells → at ≢ child c k + 2
  pub seen : (k : ℕ) → k < length c.cells → at ≢ child c k + 3

-- a node's state if blocks may have become known
pub state-known : (v : SeatView) (z b x : ℕ) → InOrder (root_at v.shape) (known_after v z b)
    → is_known v x ≡ true → node_state v.shape (known_after v z b) x ≡ node_state v.shape v.known x
state-known v z b x g n = ⊎_elim
    (λ (q : Grows v z b). ap (λ (ks : List LinkedBlock). node_state v.shape ks x) q.is
    ∙ spot-same v.shape (told_below v z b) v.known x (subst (InOrder (root_at v.shape)) q.is g).0 n)
    (λ (e : known_after v z b ≡ v.known). ap (λ (ks : List LinkedBlock). node_state v.shape ks x) e)
    (known_cases v z b)

load-else : (t : Bool) (at x i : ℕ) (loads : List WordLoad) → at ≢ i
    → load_of (cond t (record { word = at; value = x } ∷ loads) loads) i ≡ load_of loads i
load-else false at x i loads ne = refl
load-else true at x i loads ne = ap (λ (t : Bool). cond t (Some x) (load_of loads i))
    (ne_eqb at i ne)

pub look-goes : (v : SeatView) (at x : ℕ) → v.width ≡ 1 → IsView (after v (Look at) x)
    → Goes v (after v (Look at) x) at
unfolding with_word looked loads_after
look-goes v at x one iu = record {
  shape = refl;
  known = known-kept v (Look at) x;
  node = known-more v (node_of_link at) x;
  state = λ y n. state-known v (node_of_link at) x y (one-order (after v (Look at) x) iu one) n;
  loads = λ i ne. load-else (is_count v at) at x i v.loads ne;
}

load-here : (t : Bool) (at x i : ℕ) (loads : List WordLoad) → t ≡ true → at ≡ i
    → load_of (cond t (record { word = at; value = x } ∷ loads) loads) i ≡ Some x
load-here false at x i loads e is = absurd (cc)
load-here true at x i loads e is = ap (λ (t : Bool). cond t (Some x) (load_of loads i))
    (eq-eqb at i is)

-- a look at a tally or a seen word of a known node is its load
pub look-tally : (v : SeatView) (at x y : ℕ) → is_known v y ≡ true → at ≡ y + 2
    → load_of (after v (Look at) x).loads (y + 2) ≡ Some x
unfolding with_word looked loads_after
look-tally v at x y n e =
    let low : at - 2 ≡ y = omega arith in
    load-here (is_count v at) at x (y + 2) v.loads
    (or_left (is_known v (at - 2)) (is_known v (at - 3)) (ap (is_known v) low ∙ n)) e

pub look-seen : (v : SeatView) (at x y : ℕ) → is_known v y ≡ true → at ≡ y + 3
    → load_of (after v (Look at) x).loads (y + 3) ≡ Some x
unfolding with_word looked loads_after
look-seen v at x y n e =
    let low : at - 3 ≡ y = omega arith in
    load-here (is_count v at) at x (y + 3) v.loads
    (or_right (is_known v (at - 2)) (is_known v (at - 3)) (ap (is_known v) low ∙ n)) e

-- the counts of children
pub pairs-same : (p q p' q' : ℕ → Count) (y : ℕ) (cs : List ℕ)
    → ((k : ℕ) → k < length cs → p (y + 4 * k) ≡ p' (y + 4 * k))
    → ((k : ℕ) → k < length cs → q (y + 4 * k) ≡ q' (y + 4 * k))
    → pairs_of p q y cs ≡ pairs_of p' q' y cs
pairs-same p q p' q' y [] hp hq = refl
pairs-same p q p' q' y (c ∷ cs) hp hq =
    let at : y + 4 * 0 ≡ y = omega arith in
    let fst : p y ≡ p' y = ap p (sym at) ∙ (hp 0 (omega arith) ∙ ap p' at) in
    let snd : q y ≡ q' y = ap q (sym at) ∙ (hq 0 (omega arith) ∙ ap q' at) in
    λ i. (fst i, snd i) ∷ pairs-same p q p' q' (y + 4) cs
    (λ k l. ap p (on y k) ∙ (hp (suc k) (omega arith) ∙ ap p' (sym (on y k))))
    (λ k l. ap q (on y k) ∙ (hq (suc k) (omega arith) ∙ ap q' (sym (on y k)))) i
  where
    on : (y k : ℕ) → y + 4 + 4 * k ≡ y + 4 * suc k
    on y k = omega arith

module _ (v u : SeatView) (at : ℕ) (g : Goes v u at) where
  pub loaded-goes : (i : ℕ) → at ≢ i → IsLoaded v i → IsLoaded u i
  loaded-goes i ne l = (l.0, g.loads i ne ∙ l.1)

  pub tally-goes : (x : ℕ) → at ≢ x + 2 → tally_loaded u x ≡ tally_loaded v x
  tally-goes x ne = ap (λ (o : Option ℕ). count_in (or_zero o)) (g.loads (x + 2) ne)

  pub seen-goes : (x : ℕ) → at ≢ x + 3 → seen_loaded u x ≡ seen_loaded v x
  seen-goes x ne = ap (λ (o : Option ℕ). count_in (or_zero o)) (g.loads (x + 3) ne)

  chosen-goes : (c : LinkedBlock) (y : ℕ) → Untouched c at → IsChosen v c y → IsChosen u c y
  chosen-goes c y t h =
      let pairs : pairs_of (tally_loaded u) (seen_loaded u) (c.start + 4) c.cells ≡ pairs_of
      (tally_loaded v) (seen_loaded v) (c.start + 4) c.cells
      = pairs-same (tally_loaded u) (seen_loaded u) (tally_loaded v) (seen_loaded v)
      (c.start + 4) c.cells
      (λ k l. tally-goes (child c k) (t.tally k l)) (λ k l. seen-goes (child c k) (t.seen k l)) in
      record {
        parent = loaded-goes (c.parent + 2) t.parent h.parent;
        tallies = λ i l. loaded-goes (child c i + 2) (t.tally i l) (h.tallies i l);
        seen = λ i l. loaded-goes (child c i + 3) (t.seen i l) (h.seen i l);
        choice = h.choice
            ∙ (λ i. child c ((search_game (sym g.shape i)).choose (sym (tally-goes c.parent t.parent) i) (sym pairs i)));
      }

  -- the levels of a way stay, if none of their counts is touched
  pub way-goes : (way : List Level) (x : ℕ)
      → ((c : LinkedBlock) → In c v.known → c.start < x → Untouched c at) → OnWay v way x
      → ((c : LinkedBlock) → In c v.known → c.parent < c.start) → OnWay u way x
  way-goes [] x t h above = h ∙ ap root_at (sym g.shape)
  way-goes (l ∷ way) x t h above =
      let b : LinkedBlock = h.0.block in
      let behind = node-behind b x h.0.node in
      let up = above b h.0.known in (
        record {
          block = b;
          known = g.known b h.0.known;
          start = h.0.start;
          parent = h.0.parent;
          cells = h.0.cells ∙ ap (λ (s : Setting). listed s.board.size l.cells) (sym g.shape);
          node = h.0.node;
          chosen = chosen-goes b x (t b h.0.known (omega (arith, behind))) h.0.chosen;
        },
        way-goes way l.parent (λ c i s. t c i (omega (arith, s, behind, up, h.0.parent))) h.1 above,
      )

  -- and so does a walk that goes down
  pub down-goes : (number node visits : ℕ) (state : NodeState) (way : List Level)
      → IsDown number node visits state way v
      → at ≢ node + 2 → ((c : LinkedBlock) → In c v.known → c.start < node → Untouched c at)
      → ((c : LinkedBlock) → In c v.known → c.parent < c.start)
      → u.ended ≡ v.ended → u.ticket ≡ v.ticket → u.adds ≡ v.adds
      → IsDown number node visits state way u
  down-goes number node visits state way d ne t above e k a = record {
    ended = e ∙ d.ended;
    ticket = k ∙ d.ticket;
    adds = a ∙ d.adds;
    known = g.node node d.known;
    is = d.is ∙ sym (g.state node d.known);
    on_way = way-goes way node t d.on_way above;
    loaded = loaded-goes (node + 2) ne d.loaded;
    counted = ap (λ (c : Count). c.visits) (tally-goes node ne) ∙ d.counted;
    few = subst (λ (s : Setting). visits ≤ s.knobs.playouts) (sym g.shape) d.few;
    room = d.room;
  }

-- a word that is no count of a known node touches none
pub no-count : (v : SeatView) (at : ℕ) → InOrder (root_at v.shape) v.known
    → ((x j : ℕ) → is_known v x ≡ true → 2 ≤ j → j < 4 → at ≢ x + j)
    → (c : LinkedBlock) → In c v.known → Untouched c at
no-count v at g h c i = record {
  parent = h c.parent 2 (in-parent (root_at v.shape) v.known c g i) (omega arith) (omega arith);
  tally = λ k l. h (child c k) 2
      (in-node (root_at v.shape) v.known c (child c k) i (child-has c k l)) (omega arith)
      (omega arith);
  seen = λ k l. h (child c k) 3
      (in-node (root_at v.shape) v.known c (child c k) i (child-has c k l)) (omega arith)
      (omega arith);
}
