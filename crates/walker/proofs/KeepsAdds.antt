-- The adds and the record keep Belongs.
use Rattle.std.proofs.Common.{◌≡◌, ◌≢◌, ℕ, ◌+◌, List, [], ◌∷◌, ◌++◌, Option, Some, refl, ap, ◌∙◌}
use Rattle.std.proofs.Common.{subst}
use Rattle.hex_cells.specs.Colours.{other_of, is_same}
use Rattle.hex_cells.specs.declared.colours.Colour.{Colour}
use Rattle.hex_board.specs.Positions.{stones_of}
use Rattle.tree_words.specs.Settings.{Setting}
use Rattle.tree_words.specs.Words.{root_at}
use Rattle.tree_words.specs.Blocks.{LinkedBlock, InOrder, place, cell_at}
use Rattle.tree_words.specs.Paths.{NodeState, root_state, node_state, state_after}
use Rattle.tree_words.specs.Writing.{listed}
use Rattle.tree_words.specs.declared.steps.Op.TheVariants.{Add, Note}
use Rattle.tree_words.proofs.Blocks.GameLaws.{up-in}
use Rattle.arena_rule.specs.Views.{SeatView, Flight}
use Rattle.arena_rule.specs.Adds.{CountAdd, seen_adds, adds_up}
use Rattle.arena_rule.specs.Lookups.{record_word}
use Rattle.arena_rule.specs.Afters.{after, added_at, noted, with_word, flight_after}
use Rattle.arena_rule.specs.IsView.{IsView}
use Rattle.walker.specs.declared.ways.Level.{Level}
use Rattle.walker.specs.declared.stages.Stage.TheVariants.{Drawing, Noting}
use Rattle.walker.specs.declared.machine.Walker.{Walker}
use Rattle.walker.specs.Climbs.{add_op, adds_after}
use Rattle.walker.specs.Machine.{on_way_up, risen, seen_on}
use Rattle.walker.specs.Belongs.{Belongs, OnWay, Climbs, Leaves, adds_above, AtTally, AtSeen}
use Rattle.walker.specs.Belongs.{AtNote, AreSeen}
use Rattle.std.specs.Prelude.{Contains}
use Rattle.std.proofs.Common.{◌*◌, ◌<◌, true, false, Bool, cond, suc, length, arith, ⊎_elim}
use Rattle.hex_cells.specs.Sets.{has as has_cell}
use Rattle.tree_words.specs.Blocks.{child, has_node}
use Rattle.tree_words.proofs.Blocks.GameLaws.{in-node}
use Rattle.tree_words.proofs.Walks.Down.{child-has}
use Rattle.arena_rule.specs.Owing.{IsSeenWord}
use Rattle.arena_rule.proofs.Debts.{add-or}
use Rattle.walker.proofs.KnownLaws.{one-order, known-lies}
use Rattle.walker.proofs.Going.{Goes, way-goes}
use Rattle.walker.proofs.KeepsBlock.{steps-go, no-touch}
use Rattle.walker.proofs.KeepsUp.{first-left, next-left, up-belongs}
use Rattle.walker.proofs.AddWay.{adds-root, adds-level}
use Rattle.hex_cells.proofs.ColourLaws.{other_back}

later : (a d : CountAdd) (climb : List CountAdd) → Contains climb d → Contains (a ∷ climb) d
later a d climb h = (suc h.0, (let m = h.1 in omega arith), h.2)

-- what holds of each seen word of a block holds of the words of its seen adds
seen-words : (P : ℕ → Type 0) (set : ℕ) (won : Bool) (y : ℕ) (cs : List ℕ)
    → ((j : ℕ) → j < length cs → P (y + 4 * j + 3))
    → (a : CountAdd) → Contains (seen_adds set won y cs) a → P a.word
seen-words P set won y [] h a c = absurd (let l = c.1 in omega (arith, l))
seen-words P set won y (c ∷ cs) h a m =
    by (has_cell set c)
    (λ d k. seen-words P set won (y + 4) cs (λ j l. subst P (omega arith) (h (suc j) (omega (arith, l)))) d k) m
  where
    by : (t : Bool)
        → ((d : CountAdd) → Contains (seen_adds set won (y + 4) cs) d → P d.word)
        → Contains (cond t (record { word = y + 3; won = won } ∷ seen_adds set won (y + 4) cs) (seen_adds set won (y + 4) cs)) a
        → P a.word
    by true k m = ⊎_elim
        (λ (e : record { word = y + 3; won = won } ≡ a).
        subst (λ (d : CountAdd). P d.word) e (subst P (omega arith) (h 0 (omega arith))))
        (λ (q : Contains (seen_adds set won (y + 4) cs) a). k a q)
        (add-or (record { word = y + 3; won = won }) a (seen_adds set won (y + 4) cs) m)
    by false k m = k a m

module _ (w : Walker) (v : SeatView) (b : Belongs w v) (x : ℕ) where
  order : InOrder (root_at v.shape) v.known
  order = one-order v b.view b.width

  -- a way stays if only the adds change
  way-stays : (u : SeatView) → Goes v u 0 → (way : List Level) (y : ℕ) → OnWay v way y
      → OnWay u way y
  way-stays u g way y o = way-goes v u 0 g way y (λ c i l. no-touch c) o
      (λ c i. (known-lies v.shape v.known c order b.view.known i).above)

  module _ (a : AtTally w v) where
    -- at the root the record is next
    tally-root : w.node ≡ root_at v.shape
        → IsView (after v (Add w.at (is_same w.ending.winner (other_of w.player))) x)
        → Belongs (record w { stage = Noting })
        (after v (Add w.at (is_same w.ending.winner (other_of w.player))) x)
    unfolding with_word added_at
    tally-root e iu =
        let only : adds_above w v ≡ record { word = w.node + 2; won = is_same w.ending.winner (other_of w.player) } ∷ []
        = adds-root v.shape w.ending v.known w.node w.player order e a.climbs.player in
        record {
          shape = b.shape;
          view = iu;
          width = b.width;
          full = b.full;
          stands = record {
            up = record {
              hand = record {
                ended = a.climbs.up.hand.ended;
                ticket =
                    a.climbs.up.hand.ticket;
              };
              held = a.climbs.up.held;
              leaf =
                  a.climbs.up.leaf;
              ending = a.climbs.up.ending;
            };
            flight = flight_after w.at v.adds;
            adds = refl;
            left = first-left w v b x v.adds w.at
                (record { word = w.node + 2; won = is_same w.ending.winner (other_of w.player) }) [] a.at (subst (Leaves w v v.adds) only a.left);
          };
        }

    -- below it the seen words of the level's block
    tally-level : (l : Level) (way : List Level) → OnWay v (l ∷ way) w.node
        → IsView (after v (Add w.at (is_same w.ending.winner (other_of w.player))) x)
        → Belongs (risen (l ∷ way) w)
        (after v (Add w.at (is_same w.ending.winner (other_of w.player))) x)
    unfolding with_word added_at
    tally-level l way o iu =
        let u : SeatView = after v (Add w.at (is_same w.ending.winner (other_of w.player))) x in
        let c : LinkedBlock = o.0.block in
        let mover : Colour = other_of w.player in
        let first : CountAdd = record { word = w.node + 2; won = is_same w.ending.winner mover } in
        let seen : List CountAdd
        = seen_adds (stones_of w.ending.full mover) (is_same w.ending.winner mover)
        (l.block + 4) (listed w.shape.board.size l.cells) in
        let w1 : Walker = record w { way = way; node = l.parent; player = mover; climb = seen } in
        let cells : c.cells ≡ listed w.shape.board.size l.cells = o.0.cells
        ∙ ap (λ (s : Setting). listed s.board.size l.cells) b.shape in
        let these : adds_above w v ≡ first ∷ (seen ++ (adds_up v.shape w.ending v.known l.parent).adds)
        = adds-level v.shape w.ending v.known c w.node w.player order o.0.known o.0.node a.climbs.player
        ∙ (λ i. first ∷ (seen_adds (stones_of w.ending.full mover) (is_same w.ending.winner mover)
        (o.0.start i + 4) (cells i) ++ (adds_up v.shape w.ending v.known (o.0.parent i)).adds))
        in
        let up : node_state v.shape v.known w.node ≡ state_after
        (node_state v.shape v.known c.parent) (cell_at c (place c w.node))
        = up-in (root_state v.shape) (λ d z above. state_after above (cell_at d (place d z)))
        (root_at v.shape) v.known c w.node order o.0.known o.0.node in
        let player : mover ≡ (node_state v.shape v.known l.parent).player
        = ap other_of (a.climbs.player ∙ ap (λ (p : NodeState). p.player) up)
        ∙ (other_back (node_state v.shape v.known c.parent).player ∙ ap (λ (y : ℕ). (node_state v.shape v.known y).player) o.0.parent) in
        up-belongs w1 u seen b.shape iu b.width b.full refl
        (record {
          up = record {
            hand = record {
              ended = a.climbs.up.hand.ended;
              ticket =
                  a.climbs.up.hand.ticket;
            };
            held = a.climbs.up.held;
            leaf = a.climbs.up.leaf;
            ending =
                a.climbs.up.ending;
          };
          player = player;
          way = way-stays u (steps-go v u refl refl refl) way l.parent o.1;
        })
        (flight_after w.at v.adds) refl
        (first-left w v b x v.adds w.at first (seen ++ (adds_up v.shape w.ending v.known l.parent).adds) a.at (subst (Leaves w v v.adds) these a.left))
        (seen-words (IsSeenWord u) (stones_of w.ending.full mover) (is_same w.ending.winner mover) (l.block + 4) (listed w.shape.board.size l.cells)
        (λ j m.
        let low = (known-lies v.shape v.known c order b.view.known o.0.known).root in
        let here : has_node c (child c j) ≡ true = child-has c j (omega (arith, m, ap length cells)) in
        record {
          node = child c j;
          known = in-node (root_at v.shape) v.known c (child c j) o.0.known here;
          below = λ z. omega (arith, z, low);
          word = omega (arith, o.0.start);
        }))

    pub keeps-tally : IsView (after v (Add w.at (is_same w.ending.winner (other_of w.player))) x)
        → Belongs (risen w.way w)
        (after v (Add w.at (is_same w.ending.winner (other_of w.player))) x)
    keeps-tally iu = by w.way a.climbs.way
      where
        by : (way : List Level) → OnWay v way w.node
            → Belongs (risen way w)
            (after v (Add w.at (is_same w.ending.winner (other_of w.player))) x)
        by [] o = tally-root o iu
        by (l ∷ way) o = tally-level l way o iu

  -- a seen word
  seen-next : (climb : List CountAdd) → w.climb ≡ climb → climb ≢ [] → (f : Flight)
      → v.adds ≡ Some f → Climbs w v → Leaves w v (Some f) (climb ++ adds_above w v)
      → AreSeen v climb
      → IsView (after v (add_op climb) x)
      → Belongs (on_way_up (adds_after climb) (record w { climb = adds_after climb }))
      (after v (add_op climb) x)
  unfolding with_word added_at
  seen-next [] e ne f k c l seen iu = absurd (ne refl)
  seen-next (a ∷ climb) e ne f k c l seen iu =
      let u : SeatView = after v (add_op (a ∷ climb)) x in
      up-belongs (record w { climb = climb }) u climb b.shape iu b.width b.full refl
      (record {
        up = record { hand = record { ended = c.up.hand.ended; ticket = c.up.hand.ticket }; held = c.up.held; leaf = c.up.leaf; ending = c.up.ending };
        player = c.player;
        way = way-stays u (steps-go v u refl refl refl) w.way w.node c.way;
      })
      (record { leaf = f.leaf; made = f.made + 1 })
      (ap (λ (o : Option Flight). Some (flight_after a.word o)) k)
      (next-left w v b x f a (climb ++ adds_above w v) l)
      (λ d h.
      let old = seen d (later a d climb h) in
      record { node = old.node; known = old.known; below = old.below; word = old.word })

  pub keeps-seen : (a : AtSeen w v) → IsView (after v (add_op w.climb) x)
      → Belongs (seen_on w) (after v (add_op w.climb) x)
  keeps-seen a iu = seen-next w.climb refl a.some a.flight a.adds a.climbs a.left a.seen iu

  -- the record
  pub keeps-note : (a : AtNote w v)
      → IsView (after v (Note w.number (record_word w.leaf w.ending.winner)) x)
      → Belongs (record w { stage = Drawing })
      (after v (Note w.number (record_word w.leaf w.ending.winner)) x)
  unfolding with_word noted
  keeps-note a iu = record {
    shape = b.shape;
    view = iu;
    width = b.width;
    full = b.full;
    stands = record { ended = a.up.hand.ended; ticket = refl; adds = refl; held = a.up.held };
  }
