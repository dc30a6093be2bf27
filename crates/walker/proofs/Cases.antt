-- What the walker is after an answer, case by case.
use Rattle.std.proofs.Common.{◌≡◌, ℕ, ◌+◌, ◌<◌, ◌≤◌, true, false, length, arith}
use Rattle.std.specs.Prelude.{◌==◌, nat_lt, nat_le}
use Rattle.std.proofs.lemmas.Bool.{eq-eqb, ne_eqb, le-leb, lt-leb, lt-ltb, le-ltb}
use Rattle.tree_words.specs.Words.{root_at, end_of}
use Rattle.tree_words.specs.Sequence.{size_below}
use Rattle.walker.specs.declared.stages.Stage.TheVariants.{Rooting, Scanning, Claiming, Writing}
use Rattle.walker.specs.declared.stages.Stage.TheVariants.{Publishing, Ended}
use Rattle.walker.specs.declared.machine.Walker.{Walker}
use Rattle.walker.specs.Scans.{scan_of, scan_next}
use Rattle.walker.specs.Machine.{state_in, cells_in, asks_block, at_leaf, at_block, drawn, linked}
use Rattle.walker.specs.Machine.{headed, with_scan, scanned, chosen, claimed, written}

module _ (w : Walker) where
  pub drawn-begins : (x : ℕ) → x < w.shape.knobs.playouts
      → drawn w x ≡ record w { number = x; stage = Rooting; at = root_at w.shape + 2 }
  unfolding drawn
  drawn-begins x l
      = let p : nat_lt x w.shape.knobs.playouts ≡ true = lt-ltb x w.shape.knobs.playouts l in rw p

  pub drawn-ends : (x : ℕ) → w.shape.knobs.playouts ≤ x → drawn w x ≡ record w { stage = Ended }
  unfolding drawn
  drawn-ends x l
      = let p : nat_lt x w.shape.knobs.playouts ≡ false = le-ltb x w.shape.knobs.playouts l in rw p

  pub linked-block : (x : ℕ) → (x ≡ 0 → ⊥) → linked w x ≡ at_block w x
  unfolding linked
  linked-block x ne = let p : (x == 0) ≡ false = ne_eqb x 0 ne in rw p

  pub linked-claim : (x : ℕ) → x ≡ 0 → asks_block w ≡ true
      → linked w x ≡ record w { stage = Claiming }
  unfolding linked
  linked-claim x e a = let p : (x == 0) ≡ true = eq-eqb x 0 e in rw (p, a)

  pub linked-leaf : (x : ℕ) → x ≡ 0 → asks_block w ≡ false → linked w x ≡ at_leaf w
  unfolding linked
  linked-leaf x e a = let p : (x == 0) ≡ true = eq-eqb x 0 e in rw (p, a)

  pub headed-next : w.at + 1 < w.start + 4 → headed w ≡ record w { at = w.at + 1 }
  unfolding headed
  headed-next l = let p : nat_lt (w.at + 1) (w.start + 4) ≡ true = lt-ltb (w.at + 1)
      (w.start + 4) l in rw p

  pub headed-leaf : w.start + 4 ≤ w.at + 1 → length (cells_in w) ≡ 0 → headed w ≡ at_leaf w
  unfolding headed
  headed-leaf l e =
      let p : nat_lt (w.at + 1) (w.start + 4) ≡ false = le-ltb (w.at + 1) (w.start + 4) l in
      let q : (length (cells_in w) == 0) ≡ true = eq-eqb (length (cells_in w)) 0 e in rw (p, q)

  pub headed-scan : w.start + 4 ≤ w.at + 1 → 0 < length (cells_in w)
      → headed w ≡ record w { stage = Scanning; scan = scan_of w.start (length (cells_in w)) w.visits w.shape.knobs.weight }
  unfolding headed
  headed-scan l e =
      let p : nat_lt (w.at + 1) (w.start + 4) ≡ false = le-ltb (w.at + 1) (w.start + 4) l in
      let q : (length (cells_in w) == 0) ≡ false
      = ne_eqb (length (cells_in w)) 0 (λ z. omega arith) in rw (p, q)

  pub scanned-next : (x : ℕ) → (scan_next w.scan x).place < (scan_next w.scan x).count
      → scanned w x ≡ record w { scan = scan_next w.scan x }
  unfolding with_scan
  scanned-next x l
      = let p : nat_lt (scan_next w.scan x).place (scan_next w.scan x).count ≡ true
      = lt-ltb _ _ l in rw p

  pub scanned-last : (x : ℕ) → (scan_next w.scan x).count ≤ (scan_next w.scan x).place
      → scanned w x ≡ chosen (record w { scan = scan_next w.scan x })
  unfolding with_scan
  scanned-last x l
      = let p : nat_lt (scan_next w.scan x).place (scan_next w.scan x).count ≡ false
      = le-ltb _ _ l in rw p

  pub claimed-inside : (x : ℕ) → x + size_below (state_in w) ≤ end_of w.shape
      → claimed w x ≡ record w { stage = Writing; start = x; at = x }
  unfolding claimed
  claimed-inside x l
      = let p : nat_le (x + size_below (state_in w)) (end_of w.shape) ≡ true = le-leb _ _ l in rw p

  pub claimed-past : (x : ℕ) → end_of w.shape < x + size_below (state_in w)
      → claimed w x ≡ at_leaf (record w { full = true })
  unfolding claimed
  claimed-past x l
      = let p : nat_le (x + size_below (state_in w)) (end_of w.shape) ≡ false = lt-leb _ _ l in rw p

  pub written-next : w.at + 1 < w.start + size_below (state_in w)
      → written w ≡ record w { at = w.at + 1 }
  unfolding written
  written-next l
      = let p : nat_lt (w.at + 1) (w.start + size_below (state_in w)) ≡ true = lt-ltb _ _ l in rw p

  pub written-last : w.start + size_below (state_in w) ≤ w.at + 1
      → written w ≡ record w { stage = Publishing; at = w.node + 1 }
  unfolding written
  written-last l
      = let p : nat_lt (w.at + 1) (w.start + size_below (state_in w)) ≡ false = le-ltb _ _ l in rw p
