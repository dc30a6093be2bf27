-- Each look at a child keeps Belongs.
use Rattle.std.proofs.Common.{◌≡◌, ℕ, ◌+◌, ◌<◌, ◌≤◌, true, refl, sym, ap, ◌∙◌, subst, arith, ⊎_elim}
use Rattle.std.proofs.lemmas.Bool.{cases_lt}
use Rattle.tree_words.specs.Blocks.{child}
use Rattle.tree_words.specs.declared.steps.Op.TheVariants.{Look}
use Rattle.arena_rule.specs.Views.{SeatView}
use Rattle.arena_rule.specs.Lookups.{is_known}
use Rattle.arena_rule.specs.Answers.{MayAnswer}
use Rattle.arena_rule.specs.Afters.{after, looked, with_word}
use Rattle.arena_rule.specs.IsView.{IsView}
use Rattle.walker.specs.declared.stages.Stage.{Stage}
use Rattle.walker.specs.declared.stages.Stage.TheVariants.{Scanning}
use Rattle.walker.specs.declared.scans.Phase.{Phase}
use Rattle.walker.specs.declared.scans.Phase.TheVariants.{Move, Tally, Seen}
use Rattle.walker.specs.declared.machine.Walker.{Walker}
use Rattle.walker.specs.Scans.{ScanData, scan_on, scan_next}
use Rattle.walker.specs.Machine.{chosen, scanned}
use Rattle.walker.specs.Belongs.{Belongs, Stands, InChild, AtChild, AtLink}
use Rattle.walker.proofs.Going.{look-tally}
use Rattle.walker.proofs.KeepsDown.{look-down}
use Rattle.walker.proofs.KeepsScan.{here, kid, move-clear, count-down, count-else, below-after}
use Rattle.walker.proofs.KeepsScan.{in-its-child}
use Rattle.walker.proofs.KeepsChoice.{Looked, seen-looked}
use Rattle.walker.proofs.KeepsLast.{looked-next, looked-last}
use Rattle.walker.proofs.Cases.{scanned-next, scanned-last}

-- if the walker is at its node's link after the choice
pub chosen-belongs : (w : Walker) (v : SeatView) → v.shape ≡ w.shape → IsView v → v.width ≡ 1
    → v.full ≡ w.full → AtLink (chosen w) v → Belongs (chosen w) v
unfolding chosen
chosen-belongs w v s iv one f t = record { shape = s; view = iv; width = one; full = f; stands = t }

module _ (w : Walker) (v : SeatView) (b : Belongs w v) (x : ℕ) (stage : w.stage ≡ Scanning)
    (a : AtChild w v) (may : MayAnswer v (Look w.scan.at) x)
    (iu : IsView (after v (Look w.scan.at) x)) where
  -- the scan goes on in the block
  goes-on : (d : ScanData) → scan_next w.scan x ≡ d → d.place < d.count
      → AtChild (record w { scan = d }) (after v (Look w.scan.at) x)
      → Belongs (scanned w x) (after v (Look w.scan.at) x)
  unfolding with_word looked
  goes-on d e l t =
      let u : SeatView = after v (Look w.scan.at) x in
      let less : (scan_next w.scan x).place < (scan_next w.scan x).count
      = omega (arith, ap (λ (z : ScanData). z.place) e, ap (λ (z : ScanData). z.count) e, l) in
      let is : scanned w x ≡ record w { scan = d } = scanned-next w x less
      ∙ ap (λ (z : ScanData). record w { scan = z }) e in
      let now : Belongs (record w { scan = d }) u = record {
        shape = b.shape;
        view = iu;
        width = b.width;
        full = b.full;
        stands = subst (λ (s : Stage). Stands s (record w { scan = d }) u) (sym stage) t;
      } in
      subst (λ (z : Walker). Belongs z u) (sym is) now

  pub after-move : w.scan.phase ≡ Move → Belongs (scanned w x) (after v (Look w.scan.at) x)
  unfolding with_word looked
  after-move e =
      let y : ℕ = child a.block w.scan.place in
      let at : w.scan.at ≡ y = subst (λ (p : Phase). InChild p v w.scan y) e a.scan.stands in
      let clear = move-clear w v b x a at in
      let next : scan_next w.scan x ≡ record w.scan { at = w.scan.at + 2; phase = Tally }
      = ap (λ (p : Phase). scan_on p w.scan x) e in
      goes-on (record w.scan { at = w.scan.at + 2; phase = Tally }) next a.scan.place (record {
        down = look-down w v b x w.scan.at a.down iu clear;
        held = a.held;
        block = a.block;
        below = below-after w v b x a iu (record w.scan { at = w.scan.at + 2; phase = Tally });
        scan = in-its-child w v b x a iu (w.scan.at + 2) w.scan.tally Tally
            (λ i k l m n. clear (child a.block i) k (kid w v b x a i (let h = here w v b x a in omega (arith, h, l))) m n)
            (omega (arith, at));
      })

  pub after-tally : w.scan.phase ≡ Tally → Belongs (scanned w x) (after v (Look w.scan.at) x)
  unfolding with_word looked
  after-tally e =
      let y : ℕ = child a.block w.scan.place in
      let at : w.scan.at ≡ y + 2 = subst (λ (p : Phase). InChild p v w.scan y) e a.scan.stands in
      let node : is_known v y ≡ true = kid w v b x a w.scan.place (here w v b x a) in
      let next : scan_next w.scan x ≡ record w.scan { at = w.scan.at + 1; phase = Seen; tally = x }
      = ap (λ (p : Phase). scan_on p w.scan x) e in
      let counts = may.step.tally y node at in
      goes-on (record w.scan { at = w.scan.at + 1; phase = Seen; tally = x }) next a.scan.place (record {
        down = count-down w v b x a 2 (omega arith) (omega arith) at iu;
        held = a.held;
        block = a.block;
        below = below-after w v b x a iu
            (record w.scan { at = w.scan.at + 1; phase = Seen; tally = x });
        scan = in-its-child w v b x a iu (w.scan.at + 1) x Seen
            (count-else w v b x a 2 (omega arith) (omega arith) at)
            (omega (arith, at), look-tally v w.scan.at x y node at, (counts.visits, counts.wins));
      })

  pub after-seen : w.scan.phase ≡ Seen → Belongs (scanned w x) (after v (Look w.scan.at) x)
  unfolding with_word looked
  after-seen e =
      let u : SeatView = after v (Look w.scan.at) x in
      let d : ScanData = scan_on Seen w.scan x in
      let next : scan_next w.scan x ≡ d = ap (λ (p : Phase). scan_on p w.scan x) e in
      let k : Looked w u a.block d = seen-looked w v b x a e may iu in
      ⊎_elim
      (λ (l : d.place < d.count). goes-on d next l (looked-next w u a.block d k (below-after w v b x a iu d) a.held l))
      (λ (l : d.count ≤ d.place).
      let last : (scan_next w.scan x).count ≤ (scan_next w.scan x).place
      = omega (arith, ap (λ (z : ScanData). z.place) next, ap (λ (z : ScanData). z.count) next, l) in
      let is : scanned w x ≡ chosen (record w { scan = d }) = scanned-last w x last
      ∙ ap (λ (z : ScanData). chosen (record w { scan = z })) next in
      subst (λ (z : Walker). Belongs z u) (sym is)
      (chosen-belongs (record w { scan = d }) u b.shape iu b.width b.full
      (looked-last w u a.block d b.shape iu b.width k (below-after w v b x a iu d) l a.held)))
      (cases_lt d.place d.count)

  by-phase : (p : Phase) → w.scan.phase ≡ p → Belongs (scanned w x) (after v (Look w.scan.at) x)
  by-phase Move e = after-move e
  by-phase Tally e = after-tally e
  by-phase Seen e = after-seen e

  pub keeps-child : Belongs (scanned w x) (after v (Look w.scan.at) x)
  keeps-child = by-phase w.scan.phase refl
