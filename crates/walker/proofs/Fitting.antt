-- If a view belongs to a walker it fits the walker's next step.
use Rattle.std.proofs.Common.{◌≡◌, ◌≢◌, ℕ, ◌+◌, ◌-◌, ◌<◌, Bool, cond, List, [], ◌∷◌, ◌++◌, length}
use Rattle.std.proofs.Common.{take, Option, Some, None, refl, sym, ap, ◌∙◌, subst, arith}
use Rattle.std.proofs.lemmas.Bool.{ne_eqb}
use Rattle.std.proofs.lemmas.List.{length-take-le, take_all}
use Rattle.std.proofs.lemmas.List.FromFn.{length-map-range_with_len}
use Rattle.hex_cells.specs.Colours.{other_of, is_same}
use Rattle.play_out.specs.Fills.{empties_of}
use Rattle.play_out.specs.declared.playouts.Ending.{Ending}
use Rattle.tree_words.specs.Words.{root_at}
use Rattle.tree_words.specs.Blocks.{LinkedBlock, InOrder, size, block_size, child}
use Rattle.tree_words.specs.Paths.{NodeState, node_state, node_board}
use Rattle.tree_words.specs.Complete.{set_of, allowed_cells}
use Rattle.tree_words.specs.Sequence.{outcome_of, size_below}
use Rattle.arena_rule.specs.Views.{SeatView, Flight}
use Rattle.arena_rule.specs.Adds.{CountAdd, walk_adds}
use Rattle.arena_rule.specs.Lookups.{told_below, empties_at, record_word}
use Rattle.arena_rule.specs.Fits.{FitsStep, FitsLook, FitsClaim, FitsWrite, FitsPublish, FitsAdd}
use Rattle.arena_rule.specs.Fits.{FitsNote, MayGetBlock, IsNext, block_words}
use Rattle.walker.specs.declared.scans.Phase.{Phase}
use Rattle.walker.specs.declared.scans.Phase.TheVariants.{Move, Tally, Seen}
use Rattle.walker.specs.declared.ways.Level.{Level}
use Rattle.walker.specs.declared.stages.Stage.{Stage}
use Rattle.walker.specs.declared.stages.Stage.TheVariants.{Drawing, Rooting, Linking, Heading}
use Rattle.walker.specs.declared.stages.Stage.TheVariants.{Scanning, Claiming, Writing, Publishing}
use Rattle.walker.specs.declared.stages.Stage.TheVariants.{Tallying, Seeing, Noting, Ended}
use Rattle.walker.specs.declared.machine.Walker.{Walker}
use Rattle.walker.specs.Scans.{ScanData}
use Rattle.walker.specs.Climbs.{add_op}
use Rattle.walker.specs.Machine.{state_in, own_block, op_at, op_of}
use Rattle.walker.specs.Belongs.{Belongs, Stands, OnWay, MayClaim, Climbs, Leaves, InChild}
use Rattle.walker.specs.Belongs.{adds_above, AtRoot, AtLink, AtHeader, AtChild, AtClaim, AtWrite}
use Rattle.walker.specs.Belongs.{AtPublish, AtTally, AtNote}
use Rattle.walker.proofs.KnownLaws.{one-order, known-lies, node-inside}
use Rattle.walker.proofs.AddWay.{adds-root, adds-level, next-add}

pub block_words-long : (b : LinkedBlock) → length (block_words b) ≡ size b
unfolding block_words
block_words-long b = length-map-range_with_len _ 0 (size b)

pub in-child : (p : Phase) (v : SeatView) (d : ScanData) (y : ℕ) → InChild p v d y → d.at < y + 4
in-child Move v d y h = omega (arith, h)
in-child Tally v d y h = omega (arith, h)
in-child Seen v d y h = omega (arith, h.0)

-- at the node where a walk stands on its way up, the next add is to its tally
pub tally-first : (w : Walker) (v : SeatView) → InOrder (root_at v.shape) v.known → Climbs w v
    → (rest : List CountAdd)
    × (adds_above w v ≡ record { word = w.node + 2; won = is_same w.ending.winner (other_of w.player) } ∷ rest)
tally-first w v g c = by w.way c.way
  where
    by : (way : List Level) → OnWay v way w.node → (rest : List CountAdd)
        × (adds_above w v ≡ record { word = w.node + 2; won = is_same w.ending.winner (other_of w.player) } ∷ rest)
    by [] e = ([], adds-root v.shape w.ending v.known w.node w.player g e c.player)
    by (l ∷ way) h
        = (_, adds-level v.shape w.ending v.known h.0.block w.node w.player g h.0.known h.0.node c.player)

module _ (w : Walker) (v : SeatView) (b : Belongs w v) where
  -- if it may claim, it may get a block
  pub may-get : MayClaim w v → MayGetBlock v w.node (size_below (state_in w))
  may-get m =
      let same : length (empties_of w.board) ≡ empties_at v w.node
      = ap (λ (p : NodeState). length (empties_of p.board)) m.down.is in
      record {
        known = m.down.known;
        below = m.below;
        vacant = m.vacant;
        loaded = m.down.loaded;
        visits = omega (arith, m.visits, m.down.counted);
        some = omega (arith, m.some, same);
        fits = ap block_size same;
      }

  -- the block that it holds is the told block
  pub own-told : MayClaim w v → own_block w ≡ told_below v w.node w.start
  own-told m =
      let board : w.board ≡ node_board v.shape v.known w.node
      = ap (λ (p : NodeState). p.board) m.down.is in
      (λ i. record { start = w.start; parent = w.node; empties = set_of (empties_of (board i)); cells = empties_of (board i) })
      ∙ ap (λ (t : Bool). record {
        start = w.start;
        parent = w.node;
        empties = set_of (empties_of (node_board v.shape v.known w.node));
        cells = cond t (allowed_cells v.shape) (empties_of (node_board v.shape v.known w.node));
      })
      (sym (ne_eqb w.node (root_at v.shape) m.below))

  own-long : length (block_words (own_block w)) ≡ size_below (state_in w)
  own-long = block_words-long (own_block w)

  fits-root : AtRoot w v → FitsLook v w.at
  fits-root a = omega (arith, a.at, b.view.setting.ranges.words)

  fits-link : AtLink w v → FitsLook v w.at
  fits-link a = let q = node-inside v.shape v.known w.node b.view.known a.down.known in
      omega (arith, a.at, q)

  fits-header : AtHeader w v → FitsLook v w.at
  fits-header a =
      let q = known-lies v.shape v.known a.block
      (one-order v b.view b.width) b.view.known a.below.known in
      omega (arith, a.at, a.below.start, q.inside)

  fits-child : AtChild w v → FitsLook v w.scan.at
  fits-child a =
      let q = known-lies v.shape v.known a.block
      (one-order v b.view b.width) b.view.known a.below.known in
      let k = in-child w.scan.phase v w.scan (child a.block w.scan.place) a.scan.stands in
      omega (arith, q.inside, k, a.scan.place, a.scan.count)

  fits-claim : AtClaim w v → FitsClaim v (size_below (state_in w))
  fits-claim a = record {
    number = w.number;
    ticket = a.may.down.ticket;
    adds = a.may.down.adds;
    held = a.held;
    room = a.may.room;
    node = w.node;
    may = may-get a.may;
  }

  fits-write : AtWrite w v → FitsWrite v w.at
  fits-write a =
      let n : ℕ = w.at - w.start in
      let few : n < size_below (state_in w) = omega (arith, a.at) in
      let long : length (take n (block_words (own_block w))) ≡ n
      = length-take-le n (block_words (own_block w)) (omega (arith, own-long, few)) in
      record {
        block = record { start = w.start; size = size_below (state_in w); written = take n (block_words (own_block w)) };
        held = a.held;
        left = omega (arith, long, few);
        next = omega (arith, long, a.at);
      }

  fits-publish : AtPublish w v → FitsPublish v w.at w.start
  fits-publish a = record {
    block = record { start = w.start; size = size_below (state_in w); written = take (size_below (state_in w)) (block_words (own_block w)) };
    held = a.held;
    start = refl;
    node = w.node;
    link = a.at;
    above = a.above;
    may = may-get a.may;
    written = take_all (size_below (state_in w)) (block_words (own_block w))
        (omega (arith, own-long)) ∙ ap block_words (own-told a.may);
  }

  next-flight : (f : Flight) (a : CountAdd) (rest : List CountAdd) → Leaves w v (Some f) (a ∷ rest)
      → IsNext v w.number (Some f) a
  next-flight f a rest l =
      let walk : List CountAdd = walk_adds v.shape v.known w.number w.leaf in
      subst (λ (x : ℕ). IsNext v w.number (Some (record { leaf = x; made = f.made })) a) (sym l.0)
      (next-add walk f.made a rest l.1)

  next-tally : (f : Option Flight) (a : CountAdd) (rest : List CountAdd) → a.word ≡ w.node + 2
      → Leaves w v f (a ∷ rest) → IsNext v w.number f a
  next-tally None a rest at l
      = (w.leaf, at ∙ ap (λ (x : ℕ). x + 2) (sym l.1), l.0, next-add (walk_adds v.shape v.known w.number w.leaf) 0 a rest l.2)
  next-tally (Some f) a rest at l = next-flight f a rest l

  fits-tally : AtTally w v
      → FitsAdd v (record { word = w.at; won = is_same w.ending.winner (other_of w.player) })
  fits-tally a =
      let won : Bool = is_same w.ending.winner (other_of w.player) in
      let t = tally-first w v (one-order v b.view b.width) a.climbs in
      let first : FitsAdd v (record { word = w.node + 2; won = won }) = record {
        number = w.number;
        ticket = a.climbs.up.hand.ticket;
        held = a.climbs.up.held;
        next = next-tally v.adds (record { word = w.node + 2; won = won }) t.0 refl
            (subst (Leaves w v v.adds) t.1 a.left);
      } in
      subst (λ (x : ℕ). FitsAdd v (record { word = x; won = won })) (sym a.at) first

  fits-seen : (climb : List CountAdd) → climb ≢ [] → (f : Flight) → v.adds ≡ Some f → Climbs w v
      → Leaves w v (Some f) (climb ++ adds_above w v) → FitsStep v (add_op climb)
  fits-seen [] ne f e c l = absurd (ne refl)
  fits-seen (a ∷ climb) ne f e c l = record {
    number = w.number;
    ticket = c.up.hand.ticket;
    held = c.up.held;
    next = subst (λ (o : Option Flight). IsNext v w.number o a) (sym e)
        (next-flight f a (climb ++ adds_above w v) l);
  }

  fits-note : AtNote w v → FitsNote v w.number (record_word w.leaf w.ending.winner)
  fits-note a =
      let leaf : w.leaf ≡ a.flight.leaf = sym a.left.0 in
      record {
        ticket = a.up.hand.ticket;
        flight = a.flight;
        adds = a.adds;
        all = let m = a.left.2 in omega (arith, m)
            ∙ ap (λ (x : ℕ). length (walk_adds v.shape v.known w.number x)) leaf;
        value = ap (λ (o : Ending). record_word w.leaf o.winner) a.up.ending
            ∙ ap (λ (x : ℕ). record_word x (outcome_of v.shape w.number (node_state v.shape v.known x)).winner) leaf;
      }

  pub fits-at : (t : Stage) → Stands t w v → FitsStep v (op_at t w)
  fits-at Drawing a = record { width = b.width; ended = a.ended; ticket = a.ticket; held = a.held }
  fits-at Rooting a = fits-root a
  fits-at Linking a = fits-link a
  fits-at Heading a = fits-header a
  fits-at Scanning a = fits-child a
  fits-at Claiming a = fits-claim a
  fits-at Writing a = fits-write a
  fits-at Publishing a = fits-publish a
  fits-at Tallying a = fits-tally a
  fits-at Seeing a = fits-seen w.climb a.some a.flight a.adds a.climbs a.left
  fits-at Noting a = fits-note a
  fits-at Ended a = a.ended ∙ sym b.width

  pub fits : FitsStep v (op_of w)
  fits = fits-at w.stage b.stands
