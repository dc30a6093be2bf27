-- The draw, the root's tally, the adds and the record keep Belongs.
use Rattle.std.proofs.Common.{◌≡◌, ℕ, zero, suc, ◌+◌, ◌<◌, ◌≤◌, true, List, [], ◌∷◌, ◌++◌, length}
use Rattle.std.proofs.Common.{drop, Option, Some, None, refl, sym, ap, ◌∙◌, subst, arith, ⊎_elim}
use Rattle.hex_board.specs.Positions.{Position, is_empty_at}
use Rattle.play_out.specs.Fills.{empties_of}
use Rattle.tree_words.specs.Settings.{Setting}
use Rattle.tree_words.specs.Words.{root_at, visits_in}
use Rattle.tree_words.specs.Blocks.{place, cell_at}
use Rattle.tree_words.specs.Paths.{root_state, state_after}
use Rattle.tree_words.specs.declared.steps.Op.TheVariants.{Draw, Look}
use Rattle.tree_words.proofs.Blocks.BlockLaws.{root_node}
use Rattle.tree_words.proofs.Boards.EmptyLaws.{up-root}
use Rattle.tree_words.proofs.Boards.RootLaws.{few_cells}
use Rattle.arena_rule.specs.Views.{SeatView, Flight}
use Rattle.arena_rule.specs.Adds.{CountAdd, walk_adds}
use Rattle.arena_rule.specs.Lookups.{is_known, load_of, or_zero}
use Rattle.arena_rule.specs.Answers.{MayAnswer}
use Rattle.arena_rule.specs.Afters.{after, drew, looked, with_word, flight_after}
use Rattle.arena_rule.specs.IsView.{IsView}
use Rattle.arena_rule.proofs.Changes.{drew_cases}
use Rattle.walker.specs.declared.stages.Stage.TheVariants.{Rooting, Tallying, Seeing, Ended}
use Rattle.walker.specs.declared.machine.Walker.{Walker}
use Rattle.walker.specs.Machine.{drawn, rooted, on_way_up}
use Rattle.walker.specs.Belongs.{Belongs, IsDown, Climbs, Leaves, adds_above, AtDraw, AtRoot}
use Rattle.walker.specs.Belongs.{AreSeen}
use Rattle.walker.proofs.KnownLaws.{one-order}
use Rattle.walker.proofs.Going.{look-tally}
use Rattle.walker.proofs.Cases.{drawn-begins, drawn-ends}

-- after one more drop
drop-suc : (xs : List CountAdd) (n : ℕ) (a : CountAdd) (rest : List CountAdd) → a ∷ rest ≡ drop n xs
    → rest ≡ drop (suc n) xs
drop-suc xs zero a rest e = ap (drop 1) e
drop-suc [] (suc n) a rest e = absurd (cc)
drop-suc (x ∷ xs) (suc n) a rest e = drop-suc xs n a rest e

drop-next : (xs : List CountAdd) (n : ℕ) (a : CountAdd) (rest : List CountAdd)
    → a ∷ rest ≡ drop n xs → rest ≡ drop (n + 1) xs
drop-next xs n a rest e = let k : suc n ≡ n + 1 = omega arith in drop-suc xs n a rest e
    ∙ ap (λ (m : ℕ). drop m xs) k

pub few-empties : (p : Position) → p.size ≤ 11 → length (empties_of p) ≤ 121
unfolding empties_of
few-empties p l = few_cells p.size (is_empty_at p) l

module _ (w : Walker) (v : SeatView) (b : Belongs w v) (x : ℕ) where
  -- the draw
  module _ (a : AtDraw w v) (iu : IsView (after v Draw x)) where
    draw-begins : x < v.shape.knobs.playouts → drew v x ≡ record v { ticket = Some x }
        → Belongs (record w { number = x; stage = Rooting; at = root_at w.shape + 2 })
        (after v Draw x)
    unfolding with_word
    draw-begins l e =
        let shape : (drew v x).shape ≡ w.shape = ap (λ (z : SeatView). z.shape) e ∙ b.shape in
        record {
          shape = shape;
          view = iu;
          width = ap (λ (z : SeatView). z.width) e ∙ b.width;
          full = ap (λ (z : SeatView). z.full) e ∙ b.full;
          stands = record {
            hand = record { ended = ap (λ (z : SeatView). z.ended) e ∙ a.ended; ticket = ap (λ (z : SeatView). z.ticket) e };
            adds = ap (λ (z : SeatView). z.adds) e ∙ a.adds;
            held = ap (λ (z : SeatView). z.held) e ∙ a.held;
            at = ap (λ (s : Setting). root_at s + 2) (sym shape);
          };
        }

    draw-ends : drew v x ≡ record v { ended = 1 }
        → Belongs (record w { stage = Ended }) (after v Draw x)
    unfolding with_word
    draw-ends e = record {
      shape = ap (λ (z : SeatView). z.shape) e ∙ b.shape;
      view = iu;
      width = ap (λ (z : SeatView). z.width) e ∙ b.width;
      full = ap (λ (z : SeatView). z.full) e ∙ b.full;
      stands = record { ended = ap (λ (z : SeatView). z.ended) e };
    }

    pub keeps-draw : Belongs (drawn w x) (after v Draw x)
    keeps-draw =
        let goal : Walker → Type 0 = λ z. Belongs z (after v Draw x) in
        let many : v.shape.knobs.playouts ≡ w.shape.knobs.playouts
        = ap (λ (s : Setting). s.knobs.playouts) b.shape in
        ⊎_elim
        (λ (q : (x < v.shape.knobs.playouts) × (drew v x ≡ record v { ticket = Some x })). let l = q.0 in
        subst goal (sym (drawn-begins w x (omega (arith, l, many)))) (draw-begins q.0 q.1))
        (λ (q : (v.shape.knobs.playouts ≤ x) × (drew v x ≡ record v { ended = 1 })). let l = q.0 in
        subst goal (sym (drawn-ends w x (omega (arith, l, many)))) (draw-ends q.1))
        (drew_cases v x)

  -- the root's tally
  module _ (a : AtRoot w v) (may : MayAnswer v (Look w.at) x)
      (iu : IsView (after v (Look w.at) x)) where
    root-down : IsDown w.number (root_at v.shape) (visits_in x)
        (record { board = v.shape.board; player = v.shape.player }) [] (after v (Look w.at) x)
    unfolding with_word looked
    root-down =
        let u : SeatView = after v (Look w.at) x in
        let known : is_known v (root_at v.shape) ≡ true = root_node (root_at v.shape) v.known in
        let load : load_of u.loads (root_at v.shape + 2) ≡ Some x
        = look-tally v w.at x (root_at v.shape) known a.at in
        let counts = may.step.tally (root_at v.shape) known a.at in
        let most = b.view.setting.position.most in
        record {
          ended = a.hand.ended;
          ticket = a.hand.ticket;
          adds = a.adds;
          known = root_node (root_at v.shape) u.known;
          is = sym (up-root (root_state v.shape) (λ c y above. state_after above (cell_at c (place c y))) (root_at v.shape) u.known (one-order u iu b.width));
          on_way = refl;
          loaded = (x, load);
          counted = ap (λ (o : Option ℕ). visits_in (or_zero o)) load;
          few = counts.visits;
          room = let f = few-empties v.shape.board most in omega (arith, f);
        }

    pub keeps-root : Belongs (rooted w x) (after v (Look w.at) x)
    unfolding with_word looked rooted
    keeps-root = record {
      shape = b.shape;
      view = iu;
      width = b.width;
      full = b.full;
      stands = record {
        down = subst (λ (s : Setting). IsDown w.number (root_at s) (visits_in x)
            (record { board = s.board; player = s.player }) [] (after v (Look w.at) x)) b.shape
            root-down;
        held = a.held;
        at = refl;
      };
    }

  -- an add is made

  pub next-left : (f : Flight) (a : CountAdd) (rest : List CountAdd)
      → Leaves w v (Some f) (a ∷ rest)
      → Leaves w v (Some (record { leaf = f.leaf; made = f.made + 1 })) rest
  next-left f a rest l
      = (l.0, drop-next (walk_adds v.shape v.known w.number w.leaf) f.made a rest l.1, let m = l.2 in omega (arith, m))

  pub first-left : (f : Option Flight) (at : ℕ) (a : CountAdd) (rest : List CountAdd)
      → at ≡ w.node + 2 → Leaves w v f (a ∷ rest) → Leaves w v (Some (flight_after at f)) rest
  first-left None at a rest e l =
      let is = l.1 in
      (omega (arith, e, is), drop-next (walk_adds v.shape v.known w.number w.leaf) 0 a rest l.2, let m = ap length l.2 in omega (arith, m))
  first-left (Some f) at a rest e l = next-left f a rest l

-- a walk on its way up stands at the next add
pub up-belongs : (w : Walker) (u : SeatView) (climb : List CountAdd) → u.shape ≡ w.shape → IsView u
    → u.width ≡ 1 → u.full ≡ w.full
    → w.climb ≡ climb → Climbs w u → (f : Flight) → u.adds ≡ Some f
    → Leaves w u (Some f) (climb ++ adds_above w u) → AreSeen u climb
    → Belongs (on_way_up climb w) u
up-belongs w u [] s iv one full e c f k l seen = record {
  shape = s;
  view = iv;
  width = one;
  full = full;
  stands = record {
    climbs = record {
      up = record {
        hand = record {
          ended = c.up.hand.ended;
          ticket =
              c.up.hand.ticket;
        };
        held = c.up.held;
        leaf = c.up.leaf;
        ending = c.up.ending;
      };
      player =
          c.player;
      way = c.way;
    };
    at = refl;
    left = subst (λ (o : Option Flight). Leaves (record w { stage = Tallying; at = w.node + 2 }) u o (adds_above w u)) (sym k) l;
  };
}
up-belongs w u (a ∷ climb) s iv one full e c f k l seen = record {
  shape = s;
  view = iv;
  width = one;
  full = full;
  stands = record {
    climbs = record {
      up = record {
        hand = record {
          ended = c.up.hand.ended;
          ticket =
              c.up.hand.ticket;
        };
        held = c.up.held;
        leaf = c.up.leaf;
        ending = c.up.ending;
      };
      player =
          c.player;
      way = c.way;
    };
    some = λ z. cons-none a climb (sym e ∙ z);
    seen = subst (AreSeen u) (sym e) seen;
    flight = f;
    adds = k;
    left = subst (λ (cs : List CountAdd). Leaves (record w { stage = Seeing }) u (Some f) (cs ++ adds_above w u)) (sym e) l;
  };
}
  where
    cons-none : (a : CountAdd) (rest : List CountAdd) → a ∷ rest ≡ [] → ⊥
    cons-none a rest e = cc
