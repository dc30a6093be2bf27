-- The three looks at a child are steps of the walker that lent its scan, with the scan put back.
use Rattle.std.proofs.Common.{◌≡◌, ℕ, ◌<◌, ◌≤◌, true, refl, sym, ap, ◌∙◌, subst}
use Rattle.std.specs.Prelude.{nat_lt}
use Rattle.std.proofs.lemmas.Bool.{lt-ltb}
use Rattle.tree_words.specs.declared.steps.Op.{Op}
use Rattle.tree_words.specs.declared.steps.Op.TheVariants.{Look}
use Rattle.tree_words.specs.Words.{count_in}
use Rattle.tree_words.specs.Walks.{AtMost}
use Rattle.uct_table.specs.declared.scoring.TheConstants.{MOST_COUNT}
use Rattle.arena_rule.specs.Views.{SeatView}
use Rattle.arena_rule.specs.Answers.{MayAnswer}
use Rattle.arena_rule.specs.Afters.{after}
use Rattle.walker.specs.declared.TheConstants.{PAST_WORDS}
use Rattle.walker.specs.declared.machine.Walker.{Walker}
use Rattle.walker.specs.declared.stages.Stage.{Stage}
use Rattle.walker.specs.declared.stages.Stage.TheVariants.{Scanning}
use Rattle.walker.specs.declared.scans.Phase.{Phase}
use Rattle.walker.specs.declared.scans.Phase.TheVariants.{Move, Seen}
use Rattle.walker.specs.Scans.{ScanData, CanScanChild, scan_on, scan_next}
use Rattle.walker.specs.Machine.{op_at, next_at, with_scan}
use Rattle.walker.specs.Choosing.{MayChoose, MayScan, CanGoAt, CanGo}
use Rattle.walker.specs.Belongs.{Belongs, Stands, AtChild}
use Rattle.walker.proofs.GoingOn.{scan-small}
use Rattle.search_team.specs.Runs.{HasRun, HasGone}
use Rattle.search_team.proofs.Going.{IsNext, run-begins, run-runs, can-next, goes}

-- a scan that is not at its end is put back as it is
lent : (w : Walker) (s : ScanData) → s.place < s.count → with_scan w s ≡ record w { scan = s }
unfolding with_scan
lent w s l = let p : nat_lt s.place s.count ≡ true = lt-ltb s.place s.count l in rw p

twice : (w : Walker) (s d : ScanData) → with_scan w d ≡ with_scan (record w { scan = s }) d
unfolding with_scan
twice w s d = refl

-- a scan that the walker lent has more looks
pub more-looks : (w : Walker) (v : SeatView) → Belongs w v → w.stage ≡ Scanning → (s : ScanData)
    → s ≡ w.scan → s.place < s.count
more-looks w v b stage s e =
    let a : AtChild w v = subst (λ (t : Stage). Stands t w v) stage b.stands in
    subst (λ (d : ScanData). d.place < d.count) (sym e) a.scan.place

-- and begins where the walker stands
pub scan-begins : (w : Walker) (v : SeatView) → Belongs w v → w.stage ≡ Scanning → (s : ScanData)
    → s ≡ w.scan → HasRun w v (with_scan w s) v
scan-begins w v b stage s e = run-begins
    (lent w s (more-looks w v b stage s e) ∙ ap (λ (d : ScanData). record w { scan = d }) e) b

-- what the loop over them needs
pub ruleset scan_rules = (run-runs, scan-begins, more-looks)

-- a child of the scan s was looked at, with these answers at its tally and its seen word: the scan
-- is d, and the view u
pub record HasLooked (w : Walker) (s : ScanData) (v : SeatView) (y z : ℕ) (d : ScanData)
    (u : SeatView) : Type 0 where
  pub can : CanScanChild s y z
  pub phase : d.phase ≡ Move
  pub gone : HasGone (with_scan w s) v (with_scan w d) u
  pub last : d.count ≤ d.place → MayChoose (record w { scan = d })

module _ (w : Walker) (stage : w.stage ≡ Scanning) where
  -- a look of the scan s is the next step
  pub next-look : (s : ScanData) → s.place < s.count → {op : Op} → op ≡ Look s.at
      → IsNext (with_scan w s) op (λ x. with_scan w (scan_next s x))
  next-look s more {op} e =
      let z : Walker = record w { scan = s } in
      let is : op ≡ op_at z.stage z = e ∙ ap (λ (t : Stage). op_at t z) (sym stage) in
      subst (λ (u : Walker). IsNext u op (λ x. with_scan w (scan_next s x))) (sym (lent w s more))
      (record {
        op_is = is;
        some = λ d. absurd (cc);
        later_is = λ x. twice w s (scan_next s x) ∙ ap (λ (t : Stage). next_at t z x) (sym stage);
      })

  may-scan : (s : ScanData) (x : ℕ) → s.place < s.count → CanGo (with_scan w s) x
      → MayScan (record w { scan = s }) x
  may-scan s x more can = subst (λ (t : Stage). CanGoAt t (record w { scan = s }) x) stage
      (subst (λ (u : Walker). CanGo u x) (lent w s more) can)

  module _ (s : ScanData) (phase : s.phase ≡ Move) (more : s.place < s.count) where
    pub small : (v : SeatView) → Belongs (with_scan w s) v → s.at < PAST_WORDS
    small v b =
        let z : Walker = record w { scan = s } in
        let here : Belongs z v = subst (λ (u : Walker). Belongs u v) (lent w s more) b in
        scan-small z v here 0 (subst (λ (t : Stage). Stands t z v) stage here.stands)

    -- the look at its tally
    pub next-tally : (x : ℕ) {op : Op} → op ≡ Look (scan_next s x).at
        → IsNext (with_scan w (scan_next s x)) op (λ y. with_scan w (scan_next (scan_next s x) y))
    next-tally x e = next-look (scan_next s x)
        (subst (λ (p : Phase). (scan_on p s x).place < (scan_on p s x).count) (sym phase) more) e

    more-seen : (x y : ℕ) → (scan_next (scan_next s x) y).place < (scan_next (scan_next s x) y).count
    more-seen x y = subst (λ (p : Phase). (scan_next (scan_on p s x) y).place < (scan_next (scan_on p s x) y).count) (sym phase) more

    -- the look at its seen word
    pub next-seen : (x y : ℕ) {op : Op} → op ≡ Look (scan_next (scan_next s x) y).at
        → IsNext (with_scan w (scan_next (scan_next s x) y)) op
        (λ z. with_scan w (scan_next (scan_next (scan_next s x) y) z))
    next-seen x y e = next-look (scan_next (scan_next s x) y) (more-seen x y) e

    -- the three looks were made: the scan may take the answers y and z, and is d, and the view u
    pub child-looked : {v v1 v2 u : SeatView} → Belongs (with_scan w s) v
        → {o1 o2 o3 : Op} {x y z : ℕ} {d : ScanData}
        → o1 ≡ Look s.at → MayAnswer v o1 x → v1 ≡ after v o1 x
        → o2 ≡ Look (scan_next s x).at → MayAnswer v1 o2 y → v2 ≡ after v1 o2 y
        → o3 ≡ Look (scan_next (scan_next s x) y).at → MayAnswer v2 o3 z → u ≡ after v2 o3 z
        → d ≡ scan_next (scan_next (scan_next s x) y) z → HasLooked w s v y z d u
    child-looked {v} {v1} {v2} {u} b {o1} {o2} {o3} {x} {y} {z} {d} e1 m1 a1 e2 m2 a2 e3 m3 a3 e =
        let s2 : ScanData = scan_next (scan_next s x) y in
        let seen : s2.phase ≡ Seen = ap (λ (p : Phase). (scan_next (scan_on p s x) y).phase) phase in
        let tally : s2.tally ≡ y = ap (λ (p : Phase). (scan_next (scan_on p s x) y).tally) phase in
        let none = run-begins refl b in
        let one = goes none (next-look s more e1) m1 refl a1 in
        let two = goes one.run (next-tally x e2) m2 refl a2 in
        let first = may-scan s x more (can-next none (next-look s more e1) m1) in
        let last = may-scan s2 z (more-seen x y) (can-next two.run (next-seen x y e3) m3) in
        record {
          can = record {
            at = first.look.at;
            place = first.look.place;
            tally = subst (λ (n : ℕ). AtMost MOST_COUNT (count_in n)) tally (last.look.tally seen);
            seen = last.look.seen seen;
          };
          phase = ap (λ (r : ScanData). r.phase) e
              ∙ ap (λ (p : Phase). (scan_next (scan_next (scan_on p s x) y) z).phase) phase;
          gone = goes two.run (next-seen x y e3) m3 (ap (with_scan w) e) a3;
          last = subst (λ (r : ScanData). r.count ≤ r.place → MayChoose (record w { scan = r }))
              (sym e) last.last;
        }
