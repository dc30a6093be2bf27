-- Each step but a draw leaves a walk fewer steps.
use Rattle.std.proofs.Common.{◌≡◌, ◌≢◌, ◌⊎◌, ℕ, ◌+◌, ◌-◌, ◌*◌, ◌<◌, ◌≤◌, Bool, true, false, cond}
use Rattle.std.proofs.Common.{List, [], ◌∷◌, suc, length, get_or, inl, inr, refl, ap, ◌∙◌, arith}
use Rattle.std.proofs.Common.{⊎_elim}
use Rattle.std.proofs.lemmas.Bool.{cases_Bool, cases_lt, cases_eq}
use Rattle.hex_cells.specs.Sets.{has as has_cell}
use Rattle.hex_cells.specs.Colours.{other_of, is_same}
use Rattle.hex_cells.specs.declared.colours.Colour.{Colour}
use Rattle.hex_board.specs.Positions.{stones_of, placed}
use Rattle.play_out.specs.Fills.{empties_of}
use Rattle.tree_words.specs.Settings.{Setting}
use Rattle.tree_words.specs.Words.{end_of}
use Rattle.tree_words.specs.Writing.{listed}
use Rattle.tree_words.specs.Sequence.{size_below}
use Rattle.tree_words.specs.declared.steps.Op.TheVariants.{Draw, Done, Look}
use Rattle.tree_words.proofs.Boards.RootLaws.{few_cells}
use Rattle.tree_words.proofs.Walks.Asking.{size-most}
use Rattle.arena_rule.specs.Views.{SeatView}
use Rattle.arena_rule.specs.Adds.{CountAdd, seen_adds}
use Rattle.arena_rule.specs.Answers.{MayAnswer}
use Rattle.arena_rule.specs.Afters.{after, looked, with_word}
use Rattle.arena_rule.specs.IsView.{IsView}
use Rattle.walker.specs.declared.ways.Level.{Level}
use Rattle.walker.specs.declared.scans.Phase.{Phase}
use Rattle.walker.specs.declared.scans.Phase.TheVariants.{Move, Tally, Seen}
use Rattle.walker.specs.declared.stages.Stage.{Stage}
use Rattle.walker.specs.declared.stages.Stage.TheVariants.{Drawing, Rooting, Linking, Heading}
use Rattle.walker.specs.declared.stages.Stage.TheVariants.{Scanning, Claiming, Writing, Publishing}
use Rattle.walker.specs.declared.stages.Stage.TheVariants.{Tallying, Seeing, Noting, Ended}
use Rattle.walker.specs.declared.machine.Walker.{Walker}
use Rattle.walker.specs.declared.machine.TheConstants.{WALK_STEPS}
use Rattle.walker.specs.Scans.{ScanData, child_in, scan_on, scan_next}
use Rattle.walker.specs.Climbs.{adds_after}
use Rattle.walker.specs.Machine.{state_in, set_in, cells_in, asks_block, at_leaf, on_way_up, drawn}
use Rattle.walker.specs.Machine.{rooted, linked, headed, chosen, scanned, claimed, written, risen}
use Rattle.walker.specs.Machine.{seen_on, op_at, op_of, next_at, next}
use Rattle.walker.specs.Measure.{looks_made, up_left, level_left, left_at, steps_left, looks_left}
use Rattle.walker.specs.Belongs.{Belongs, Stands, Down, AtHeader, AtChild, AtWrite}
use Rattle.walker.proofs.Cases.{drawn-begins, drawn-ends, linked-block, linked-claim, linked-leaf}
use Rattle.walker.proofs.Cases.{headed-next, headed-leaf, headed-scan, scanned-next, scanned-last}
use Rattle.walker.proofs.Cases.{claimed-inside, claimed-past, written-next, written-last}
use Rattle.walker.proofs.KnownLaws.{one-order}
use Rattle.walker.proofs.LeafLaws.{size-is}
use Rattle.walker.proofs.Keeping.{kept-count}
use Rattle.walker.proofs.KeepsScan.{below-after, fewer-empties}
use Rattle.walker.proofs.KeepsChoice.{Looked, seen-looked}
use Rattle.walker.proofs.KeepsLast.{cell-empty}
use Rattle.walker.proofs.KeepsUp.{few-empties}
use Rattle.walker.proofs.Keeps.{view-after}
use Rattle.walker.proofs.Endings.{draw-at}

leaf-left : (w : Walker) → steps_left (at_leaf w) ≡ up_left (length w.way)
unfolding at_leaf
leaf-left w = refl

chosen-left : (w : Walker) (e : ℕ)
    → length (empties_of (placed w.board w.player (get_or (cells_in w) w.scan.best 0))) < e
    → steps_left (chosen w) < 1 + (858 * e + up_left (e + length w.way))
unfolding chosen
chosen-left w e l = omega (arith, l)

up-steps : (climb : List CountAdd) (w : Walker) (n : ℕ) → w.climb ≡ climb → length climb < n
    → steps_left (on_way_up climb w) < n + up_left (length w.way)
up-steps [] w n e l = omega (arith, l)
up-steps (a ∷ climb) w n e l = omega (arith, l, ap length e)

seen-few : (set y : ℕ) (won : Bool) (cs : List ℕ) → length (seen_adds set won y cs) ≤ length cs
seen-few set y won [] = omega arith
seen-few set y won (c ∷ cs) = by (has_cell set c) (seen_adds set won (y + 4) cs)
    (record { word = y + 3; won = won }) (seen-few set (y + 4) won cs)
  where
    by : (t : Bool) (xs : List CountAdd) (a : CountAdd) → length xs ≤ length cs
        → length (cond t (a ∷ xs) xs) ≤ suc (length cs)
    by true xs a l = omega (arith, l)
    by false xs a l = omega (arith, l)

module _ (w : Walker) (v : SeatView) (b : Belongs w v) (x : ℕ) where
  board-small : Down w v → w.board.size ≤ 11
  board-small d =
      let most = b.view.setting.position.most in
      let s = size-is w v b.shape (one-order v b.view b.width) b.view.known d in
      omega (arith, s, most, ap (λ (t : Setting). t.board.size) b.shape)

  falls-link : steps_left (linked w x) < left_at Linking w
  falls-link = ⊎_elim
      (λ (e : x ≡ 0). ⊎_elim
      (λ (t : asks_block w ≡ true). omega (arith, ap steps_left (linked-claim w x e t)))
      (λ (t : asks_block w ≡ false). omega (arith, ap steps_left (linked-leaf w x e t), leaf-left w))
      (cases_Bool (asks_block w)))
      (λ (ne : x ≢ 0). omega (arith, ap steps_left (linked-block w x ne)))
      (cases_eq x 0)

  few-below : length (cells_in w) ≤ 121
  few-below =
      let most = b.view.setting.position.most in
      few_cells w.shape.board.size (has_cell (set_in w))
      (omega (arith, most, ap (λ (s : Setting). s.board.size) b.shape))

  falls-head : w.stage ≡ Heading → AtHeader w v → steps_left (headed w) < left_at Heading w
  falls-head stage a = ⊎_elim
      (λ (l : w.at + 1 < w.start + 4).
      let next : steps_left (headed w) ≡ level_left w (367 - (w.at + 1 - w.start))
      = ap steps_left (headed-next w l)
      ∙ ap (λ (t : Stage). left_at t (record w { at = w.at + 1 })) stage in
      omega (arith, next, a.at))
      (λ (l : w.start + 4 ≤ w.at + 1). ⊎_elim
      (λ (e : length (cells_in w) ≡ 0). omega (arith, ap steps_left (headed-leaf w l e), leaf-left w, a.at))
      (λ (ne : length (cells_in w) ≢ 0). let m : 0 < length (cells_in w) = omega arith in omega (
        arith,
        ap steps_left (headed-scan w l m),
        few-below,
        a.at,
        l,
      ))
      (cases_eq (length (cells_in w)) 0))
      (cases_lt (w.at + 1) (w.start + 4))

  -- a scan that goes on in its block
  scan-falls : w.stage ≡ Scanning → (d : ScanData) → scan_next w.scan x ≡ d → d.place < d.count
      → looks_left d < looks_left w.scan → steps_left (scanned w x) < left_at Scanning w
  scan-falls stage d e l less =
      let in_block : (scan_next w.scan x).place < (scan_next w.scan x).count
      = omega (arith, ap (λ (z : ScanData). z.place) e, ap (λ (z : ScanData). z.count) e, l) in
      let next : steps_left (scanned w x) ≡ level_left w (looks_left d)
      = ap steps_left (scanned-next w x in_block ∙ ap (λ (z : ScanData). record w { scan = z }) e)
      ∙ ap (λ (t : Stage). left_at t (record w { scan = d })) stage in
      omega (arith, next, less)

  falls-scan : (p : Phase) → w.scan.phase ≡ p → w.stage ≡ Scanning → (a : AtChild w v)
      → MayAnswer v (Look w.scan.at) x → IsView (after v (Look w.scan.at) x)
      → steps_left (scanned w x) < left_at Scanning w
  unfolding with_word looked
  falls-scan Move e s a may iu =
      let was : looks_left w.scan ≡ 3 * (w.scan.count - w.scan.place) - 0
      = ap (λ (p : Phase). 3 * (w.scan.count - w.scan.place) - looks_made p) e in
      scan-falls s (scan_on Move w.scan x) (ap (λ (p : Phase). scan_on p w.scan x) e) a.scan.place
      (let l = a.scan.place in omega (arith, was, l))
  falls-scan Tally e s a may iu =
      let was : looks_left w.scan ≡ 3 * (w.scan.count - w.scan.place) - 1
      = ap (λ (p : Phase). 3 * (w.scan.count - w.scan.place) - looks_made p) e in
      scan-falls s (scan_on Tally w.scan x) (ap (λ (p : Phase). scan_on p w.scan x) e) a.scan.place
      (let l = a.scan.place in omega (arith, was, l))
  falls-scan Seen e s a may iu =
      let u : SeatView = after v (Look w.scan.at) x in
      let d : ScanData = scan_on Seen w.scan x in
      let next : scan_next w.scan x ≡ d = ap (λ (p : Phase). scan_on p w.scan x) e in
      let was : looks_left w.scan ≡ 3 * (w.scan.count - w.scan.place) - 2
      = ap (λ (p : Phase). 3 * (w.scan.count - w.scan.place) - looks_made p) e in
      let count : d.count ≡ w.scan.count = kept-count w.scan (child_in w.scan x) in
      let in_block = a.scan.place in
      ⊎_elim
      (λ (l : d.place < d.count). scan-falls s d next l (omega (arith, was, count, in_block, l)))
      (λ (l : d.count ≤ d.place).
      let k : Looked w u a.block d = seen-looked w v b x a e may iu in
      let last : (scan_next w.scan x).count ≤ (scan_next w.scan x).place
      = omega (arith, ap (λ (z : ScanData). z.place) next, ap (λ (z : ScanData). z.count) next, l) in
      let is : scanned w x ≡ chosen (record w { scan = d }) = scanned-last w x last
      ∙ ap (λ (z : ScanData). chosen (record w { scan = z })) next in
      let below = below-after w v b x a iu d in
      let empty = cell-empty w u a.block d b.shape iu b.width k below l in
      let fewer = fewer-empties w.board w.player (get_or (cells_in w) d.best 0)
      (board-small a.down) empty in
      let left = chosen-left (record w { scan = d }) (length (empties_of w.board)) fewer in
      omega (arith, ap steps_left is, left, was, in_block))
      (cases_lt d.place d.count)

  falls-claim : Down w v → steps_left (claimed w x) < left_at Claiming w
  falls-claim d =
      let most = size-most (state_in w) (board-small d) in
      ⊎_elim
      (λ (l : x + size_below (state_in w) ≤ end_of w.shape). omega (arith, ap steps_left (claimed-inside w x l), most))
      (λ (l : end_of w.shape < x + size_below (state_in w)). omega (arith, ap steps_left (claimed-past w x l), leaf-left (record w { full = true })))
      (inside (x + size_below (state_in w)) (end_of w.shape))
    where
      inside : (a n : ℕ) → (a ≤ n) ⊎ (n < a)
      inside a n = ⊎_elim (λ (l : n < a). inr l) (λ (l : a ≤ n). inl l) (cases_lt n a)

  falls-write : w.stage ≡ Writing → AtWrite w v → steps_left (written w) < left_at Writing w
  falls-write stage a = ⊎_elim
      (λ (l : w.at + 1 < w.start + size_below (state_in w)).
      let next : steps_left (written w) ≡ level_left w
      (367 + 1 + (w.start + size_below (state_in w) - (w.at + 1)))
      = ap steps_left (written-next w l)
      ∙ ap (λ (t : Stage). left_at t (record w { at = w.at + 1 })) stage in
      omega (arith, next, l))
      (λ (l : w.start + size_below (state_in w) ≤ w.at + 1). omega (arith, ap steps_left (written-last w l), a.at))
      (cases_lt (w.at + 1) (w.start + size_below (state_in w)))

  falls-rise : (way : List Level) → w.way ≡ way → steps_left (risen way w) < up_left (length way)
  falls-rise [] e = omega arith
  falls-rise (l ∷ way) e =
      let most = b.view.setting.position.most in
      let mover : Colour = other_of w.player in
      let seen : List CountAdd
      = seen_adds (stones_of w.ending.full mover) (is_same w.ending.winner mover) (l.block + 4)
      (listed w.shape.board.size l.cells) in
      let few = few_cells w.shape.board.size (has_cell l.cells)
      (omega (arith, most, ap (λ (s : Setting). s.board.size) b.shape)) in
      let long = seen-few (stones_of w.ending.full mover) (l.block + 4)
      (is_same w.ending.winner mover) (listed w.shape.board.size l.cells) in
      let up = up-steps seen
      (record w { way = way; node = l.parent; player = mover; climb = seen }) 122 refl
      (omega (arith, few, long)) in
      omega (arith, up)

  falls-seen : (climb : List CountAdd) → w.climb ≡ climb → climb ≢ []
      → steps_left
      (on_way_up (adds_after climb) (record w { climb = adds_after climb })) < length climb + up_left
      (length w.way)
  falls-seen [] e ne = absurd (ne refl)
  falls-seen (a ∷ climb) e ne = let up = up-steps climb (record w { climb = climb })
      (suc (length climb)) refl (omega arith) in omega (arith, up)

  root-left : steps_left (rooted w x) < left_at Rooting w
  unfolding rooted
  root-left = omega arith

  seen-left : w.climb ≢ [] → steps_left (seen_on w) < left_at Seeing w
  seen-left ne = falls-seen w.climb refl ne

  fewer-at : (t : Stage) → w.stage ≡ t → Stands t w v → MayAnswer v (op_at t w) x
      → IsView (after v (op_at t w) x) → op_at t w ≢ Draw → op_at t w ≢ Done
      → steps_left (next_at t w x) < left_at t w
  fewer-at Drawing s a may iu nd nn = absurd (nd refl)
  fewer-at Rooting s a may iu nd nn = root-left
  fewer-at Linking s a may iu nd nn = falls-link
  fewer-at Heading s a may iu nd nn = falls-head s a
  fewer-at Scanning s a may iu nd nn = falls-scan w.scan.phase refl s a may iu
  fewer-at Claiming s a may iu nd nn = falls-claim a.may.down
  fewer-at Writing s a may iu nd nn = falls-write s a
  fewer-at Publishing s a may iu nd nn = omega arith
  fewer-at Tallying s a may iu nd nn = falls-rise w.way refl
  fewer-at Seeing s a may iu nd nn = seen-left a.some
  fewer-at Noting s a may iu nd nn = omega arith
  fewer-at Ended s a may iu nd nn = absurd (nn refl)

  -- each step but a draw
  pub fewer : MayAnswer v (op_of w) x → op_of w ≢ Draw → op_of w ≢ Done
      → steps_left (next w x) < steps_left w
  fewer may nd nn
      = fewer-at w.stage refl b.stands may (view-after w v b x w.stage b.stands may) nd nn

  -- and a draw leaves at most those of a walk
  draw-left : steps_left (drawn w x) ≤ WALK_STEPS
  draw-left =
      let most = b.view.setting.position.most in
      let few = few-empties w.shape.board
      (omega (arith, most, ap (λ (s : Setting). s.board.size) b.shape)) in
      ⊎_elim
      (λ (l : x < w.shape.knobs.playouts). omega (arith, ap steps_left (drawn-begins w x l), few))
      (λ (l : w.shape.knobs.playouts ≤ x). omega (arith, ap steps_left (drawn-ends w x l)))
      (cases_lt x w.shape.knobs.playouts)

  pub bound : op_of w ≡ Draw → steps_left (next w x) ≤ WALK_STEPS
  bound e = let q : steps_left (next w x) ≡ steps_left
      (drawn w x) = ap (λ (t : Stage). steps_left (next_at t w x)) (draw-at w w.stage e) in
      omega (arith, q, draw-left)
