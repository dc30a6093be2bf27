-- What a scan keeps of its children.
use Rattle.std.proofs.Common.{◌≡◌, ℕ, ◌+◌, Bool, true, false, cond, refl, sym, ap, ◌∙◌, arith}
use Rattle.std.specs.Prelude.{◌==◌, nat_lt}
use Rattle.uct_table.specs.Choice.{Child, score_in}
use Rattle.walker.specs.declared.scans.Phase.{Phase}
use Rattle.walker.specs.declared.scans.Phase.TheVariants.{Move, Seen}
use Rattle.walker.specs.Scans.{ScanData, child_in, kept, scan_on, scan_next}

-- a part that keeping a child does not change
module _ {A : Type 0} (f : ScanData → A) where
  pub kept-same : (d : ScanData) (c : Child)
      → ((b v m : ℕ) (t : Bool) → f (record d { best = b; visits = v; most = m; fresh = t }) ≡ f d)
      → f (kept d c) ≡ f d
  unfolding kept
  kept-same d c h = by d.fresh (c.visits == 0) (nat_lt d.most (score_in d.parent d.weight c))
      (d.place == 0)
    where
      by : (t u w x : Bool)
          → f (cond t d (cond u (record d { best = d.place; visits = 0; fresh = true })
          (cond w (record d { best = d.place; visits = c.visits; most = score_in d.parent d.weight c }) (cond x (record d { visits = c.visits }) d)))) ≡ f d
      by true u w x = refl
      by false true w x = h d.place 0 d.most true
      by false false true x = h d.place c.visits (score_in d.parent d.weight c) d.fresh
      by false false false true = h d.best c.visits d.most d.fresh
      by false false false false = refl

pub kept-at : (d : ScanData) (c : Child) → (kept d c).at ≡ d.at
kept-at d c = kept-same (λ z. z.at) d c (λ b v m t. refl)

pub kept-place : (d : ScanData) (c : Child) → (kept d c).place ≡ d.place
kept-place d c = kept-same (λ z. z.place) d c (λ b v m t. refl)

pub kept-count : (d : ScanData) (c : Child) → (kept d c).count ≡ d.count
kept-count d c = kept-same (λ z. z.count) d c (λ b v m t. refl)

-- keeping a child does not hang on where the scan looks
pub kept-elsewhere : (d : ScanData) (c : Child) (at : ℕ) (p : Phase)
    → kept (record d { at = at; phase = p }) c ≡ record (kept d c) { at = at; phase = p }
unfolding kept
kept-elsewhere d c at p = by d.fresh (c.visits == 0) (nat_lt d.most (score_in d.parent d.weight c))
    (d.place == 0)
  where
    e : ScanData
    e = record d { at = at; phase = p }

    by : (t u w x : Bool) → cond t e (cond u (record e { best = d.place; visits = 0; fresh = true })
        (cond w (record e { best = d.place; visits = c.visits; most = score_in d.parent d.weight c }) (cond x (record e { visits = c.visits }) e)))
        ≡ record (cond t d (cond u (record d { best = d.place; visits = 0; fresh = true })
        (cond w (record d { best = d.place; visits = c.visits; most = score_in d.parent d.weight c }) (cond x (record d { visits = c.visits }) d))))
        { at = at; phase = p }
    by true u w x = refl
    by false true w x = refl
    by false false true x = refl
    by false false false true = refl
    by false false false false = refl

-- the three looks at a child at once
pub whole-child : (d : ScanData) (m t s : ℕ) → d.phase ≡ Move
    → (let k : ScanData = kept (record d { tally = t }) (child_in (record d { tally = t }) s) in record k { at = k.at + 4; place = d.place + 1 })
    ≡ scan_next (scan_next (scan_next d m) t) s
whole-child d m t s e = ends ∙ sym thrice
  where
    f : ScanData
    f = record d { tally = t }

    k : ScanData
    k = kept f (child_in f s)

    at-is : k.at + 4 ≡ d.at + 2 + 1 + 1
    at-is = omega (arith, kept-at f (child_in f s))

    phase-is : k.phase ≡ Move
    phase-is = kept-same (λ z. z.phase) f (child_in f s) (λ b v m t. refl) ∙ e

    ends : record k { at = k.at + 4; place = d.place + 1 } ≡ record k { at = d.at + 2 + 1 + 1; phase = Move; place = d.place + 1 }
    ends = λ i. record k { at = at-is i; phase = phase-is i; place = d.place + 1 }

    thrice : scan_next
        (scan_next (scan_next d m) t) s ≡ record k { at = d.at + 2 + 1 + 1; phase = Move; place = d.place + 1 }
    thrice =
        ap (λ (p : Phase). scan_next (scan_next (scan_on p d m) t) s) e
        ∙ ap (λ (z : ScanData). record z { at = d.at + 2 + 1 + 1; phase = Move; place = d.place + 1 }) (kept-elsewhere f (child_in f s) (d.at + 2 + 1) Seen)
