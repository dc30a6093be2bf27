-- With an answer that may be given the walker can go on.
use Rattle.std.proofs.Common.{◌≡◌, ℕ, ◌+◌, ◌-◌, ◌<◌, ◌≤◌, true, List, [], ◌∷◌}
use Rattle.std.proofs.Common.{length, take, refl, ap, subst, arith, ⊎_elim}
use Rattle.std.proofs.Math.Nat.{eq-zero-or-pos}
use Rattle.hex_cells.specs.Sets.{has as has_cell}
use Rattle.tree_words.specs.Settings.{Setting}
use Rattle.tree_words.specs.Words.{Count, root_at, end_of, count_in}
use Rattle.tree_words.specs.Blocks.{LinkedBlock, In, InOrder, child}
use Rattle.tree_words.specs.Walks.{AtMost}
use Rattle.tree_words.specs.Sequence.{size_below}
use Rattle.tree_words.specs.declared.steps.Op.TheVariants.{Look}
use Rattle.uct_table.specs.declared.scoring.TheConstants.{MOST_COUNT}
use Rattle.tree_words.proofs.Blocks.GameLaws.{in-node}
use Rattle.tree_words.proofs.Boards.RootLaws.{few_cells}
use Rattle.arena_rule.specs.Views.{SeatView}
use Rattle.arena_rule.specs.Lookups.{is_known, known_link}
use Rattle.arena_rule.specs.Fits.{block_words}
use Rattle.arena_rule.specs.Answers.{MayAnswer, AnswersLink, MayLieBelow}
use Rattle.arena_rule.specs.Afters.{after, looked, with_word}
use Rattle.arena_rule.specs.IsView.{IsView}
use Rattle.walker.specs.declared.TheConstants.{PAST_WORDS}
use Rattle.walker.specs.declared.ways.Level.{Level}
use Rattle.walker.specs.declared.scans.Phase.{Phase}
use Rattle.walker.specs.declared.scans.Phase.TheVariants.{Move, Tally, Seen}
use Rattle.walker.specs.declared.stages.Stage.{Stage}
use Rattle.walker.specs.declared.stages.Stage.TheVariants.{Drawing, Rooting, Linking, Heading}
use Rattle.walker.specs.declared.stages.Stage.TheVariants.{Scanning, Claiming, Writing, Publishing}
use Rattle.walker.specs.declared.stages.Stage.TheVariants.{Tallying, Seeing, Noting, Ended}
use Rattle.walker.specs.declared.machine.Walker.{Walker}
use Rattle.walker.specs.Ways.{HasWords}
use Rattle.walker.specs.Scans.{ScanData, CanScan, scan_on}
use Rattle.walker.specs.Machine.{state_in, set_in, own_block, op_at, op_of}
use Rattle.walker.specs.Choosing.{MayChoose, MayScan, MayHead, CanGoAt, CanGo}
use Rattle.walker.specs.Belongs.{Belongs, Stands, OnWay, InChild, AtHeader, AtChild, AtWrite}
use Rattle.walker.proofs.KnownLaws.{one-order, known-lies, node-inside, link-block}
use Rattle.walker.proofs.LeafLaws.{size-is}
use Rattle.walker.proofs.Fitting.{in-child}
use Rattle.walker.proofs.KeepsScan.{here, kid, below-after}
use Rattle.walker.proofs.KeepsChoice.{Looked, seen-looked}
use Rattle.walker.proofs.KeepsLast.{best-in, cell-empty, room-left}
use Rattle.walker.proofs.Keeps.{view-after}
use Rattle.tree_words.proofs.Walks.Down.{child-has}

module _ (w : Walker) (v : SeatView) (b : Belongs w v) (x : ℕ) where
  order : InOrder (root_at v.shape) v.known
  order = one-order v b.view b.width

  -- all words lie far below the bound
  small-end : end_of v.shape + 40000 < PAST_WORDS
  small-end = omega (arith, b.view.setting.ranges.playouts, b.view.setting.ranges.words)

  known-small : (y : ℕ) → is_known v y ≡ true → y < PAST_WORDS
  known-small y n = let q = node-inside v.shape v.known y b.view.known n in
      omega (arith, q, small-end)

  block-small : (c : LinkedBlock) → In c v.known → c.start + 4 < PAST_WORDS
  block-small c i = let q = known-lies v.shape v.known c order b.view.known i in
      omega (arith, q.inside, small-end)

  link-small : (y : ℕ) → AnswersLink v y x → x < PAST_WORDS
  link-small y a = ⊎_elim
      (λ (e : known_link v y ≡ 0). ⊎_elim (λ (z : x ≡ 0). omega (arith, z))
      (λ (m : MayLieBelow v y x). let q = m.inside in omega (arith, q, small-end)) (a.other e))
      (λ (l : 0 < known_link v y).
      let q = link-block v.known y l in
      let lies = block-small q.0 q.1 in
      let is = a.known l in omega (arith, lies, is, q.3))
      (eq-zero-or-pos (known_link v y))

  way-node : (way : List Level) (y : ℕ) → OnWay v way y → y < PAST_WORDS
  way-node [] y e = omega (arith, e, small-end)
  way-node (l ∷ way) y e
      = known-small y (in-node (root_at v.shape) v.known e.0.block y e.0.known e.0.node)

  way-words : (way : List Level) (y : ℕ) → OnWay v way y → HasWords way
  way-words [] y e = tt
  way-words (l ∷ way) y e =
      let q = known-lies v.shape v.known e.0.block order b.view.known e.0.known in
      let s = block-small e.0.block e.0.known in
      (omega (arith, q.above, s, e.0.parent), omega (arith, s, e.0.start))

  can-head : AtHeader w v → MayHead w
  can-head a =
      let q = block-small a.block a.below.known in
      record {
        node = known-small w.node a.down.known;
        start = omega (arith, q, a.below.start);
        at = omega (arith, q, a.below.start, a.at);
        visits = let f = a.down.few in omega (arith, f, b.view.setting.ranges.playouts);
        size = size-is w v b.shape order b.view.known a.down;
      }

  few-in : (c : Count) → AtMost v.shape.knobs.playouts c → AtMost MOST_COUNT c
  few-in c h = let p = b.view.setting.ranges.playouts in
      (omega (arith, h.0, p), omega (arith, h.1, p))

  -- the word of a child that is looked at next
  pub scan-small : AtChild w v → w.scan.at < PAST_WORDS
  scan-small a =
      let y : ℕ = child a.block w.scan.place in
      let k = in-child w.scan.phase v w.scan y a.scan.stands in
      let inside = node-inside v.shape v.known y b.view.known
      (kid w v b x a w.scan.place (here w v b x a)) in
      omega (arith, k, inside, small-end)

  module _ (a : AtChild w v) (may : MayAnswer v (Look w.scan.at) x)
      (iu : IsView (after v (Look w.scan.at) x)) where
    few-places : length a.block.cells ≤ 121
    few-places =
        let most = b.view.setting.position.most in
        let f = few_cells w.shape.board.size (has_cell (set_in w))
        (omega (arith, most, ap (λ (s : Setting). s.board.size) b.shape)) in
        omega (arith, f, ap length a.below.cells)

    can-look : CanScan w.scan x
    can-look =
        let y : ℕ = child a.block w.scan.place in
        record {
          at = scan-small a;
          place = let h = here w v b x a in omega (arith, h, few-places);
          tally = λ e. few-in (count_in w.scan.tally)
              (subst (λ (p : Phase). InChild p v w.scan y) e a.scan.stands).2;
          seen = λ e.
              let at = (subst (λ (p : Phase). InChild p v w.scan y) e a.scan.stands).0 in
              let s = may.step.seen y (kid w v b x a w.scan.place (here w v b x a)) at in
              few-in (count_in x) (s.visits, s.wins);
        }

    last-seen : w.scan.phase ≡ Seen → (scan_on Seen w.scan x).count ≤ (scan_on Seen w.scan x).place
        → MayChoose (record w { scan = scan_on Seen w.scan x })
    unfolding with_word looked
    last-seen e l =
        let u : SeatView = after v (Look w.scan.at) x in
        let d : ScanData = scan_on Seen w.scan x in
        let k : Looked w u a.block d = seen-looked w v b x a e may iu in
        let below = below-after w v b x a iu d in
        let best = best-in w u a.block d b.shape iu b.width k below l in
        let inside = node-inside u.shape u.known (child a.block d.best) iu.known
        (in-node (root_at u.shape) u.known a.block (child a.block d.best) below.known (child-has a.block d.best best)) in
        record {
          child = omega (arith, inside, small-end, a.below.start);
          room = room-left w u a.block d b.shape iu b.width k below l;
          size = size-is w v b.shape order b.view.known a.down;
          best = omega (arith, best, ap length a.below.cells);
          empty = cell-empty w u a.block d b.shape iu b.width k below l;
        }

    last-at : (p : Phase) → w.scan.phase ≡ p
        → (scan_on p w.scan x).count ≤ (scan_on p w.scan x).place
        → MayChoose (record w { scan = scan_on p w.scan x })
    last-at Move e l = absurd (let q = a.scan.place in omega (arith, q, l))
    last-at Tally e l = absurd (let q = a.scan.place in omega (arith, q, l))
    last-at Seen e l = last-seen e l

    can-scan : MayScan w x
    can-scan = record { look = can-look; last = last-at w.scan.phase refl }

  pub can-write : AtWrite w v → (w.node < PAST_WORDS) × (w.start < PAST_WORDS) × (w.at < PAST_WORDS)
  can-write a =
      let q = b.view.held
      (record { start = w.start; size = size_below (state_in w); written = take (w.at - w.start) (block_words (own_block w)) }) a.held in
      (known-small w.node a.may.down.known, omega (arith, q, small-end), omega (arith, q, small-end, a.at))

  can-at : (t : Stage) → Stands t w v → MayAnswer v (op_at t w) x → IsView (after v (op_at t w) x)
      → CanGoAt t w x
  can-at Drawing a may iu = tt
  can-at Rooting a may iu = tt
  can-at Linking a may iu
      = (known-small w.node a.down.known, link-small w.node (may.step.link w.node a.down.known a.at))
  can-at Heading a may iu = can-head a
  can-at Scanning a may iu = can-scan a may iu
  can-at Claiming a may iu
      = (known-small w.node a.may.down.known, let m = may.step.most in omega (arith, m, small-end))
  can-at Writing a may iu = can-write a
  can-at Publishing a may iu = link-small w.node (may.step w.node a.may.down.known a.at)
  can-at Tallying a may iu = way-words w.way w.node a.climbs.way
  can-at Seeing a may iu = way-node w.way w.node a.climbs.way
  can-at Noting a may iu = tt
  can-at Ended a may iu = tt

  pub can-go : MayAnswer v (op_of w) x → CanGo w x
  can-go may = can-at w.stage b.stands may (view-after w v b x w.stage b.stands may)
