-- A ledger with one line more.
use Rattle.std.proofs.Common.{◌≡◌, ℕ, ◌+◌, ◌-◌, ◌^◌, ◌<◌, ◌≤◌, List, [], ◌∷◌, ◌++◌, All, length}
use Rattle.std.proofs.Common.{min, if◌then◌else◌, refl, sym, ◌∙◌, ap, subst, inl, inr, arith}
use Rattle.std.proofs.Common.{append-nil, append_assoc}
use Rattle.std.proofs.lemmas.Bool.{cases_lt, le-ltb, lt-ltb}
use Rattle.std.proofs.lemmas.List.Elements.{All-push}
use Rattle.win_cert.specs.Writable.{IsLineOf}
use Rattle.win_cert.specs.declared.certs.TheConstants.{MOST_LINES, SECOND_VERSION}
use Rattle.win_cert.specs.declared.lines.Line.{Line}
use Rattle.win_cert.proofs.CutDerivations.{longer}
use Rattle.hex_solve.specs.Ledgers.{CountsBy, GrowsBy, IsLedger, LedgerData, MayStandNext, read_of}
use Rattle.hex_solve.specs.Ledgers.{with_one_line}
use Rattle.win_cert.specs.Contexts.{context_after, first_context}
use Rattle.win_cert.proofs.Appending.{after_append, base_after, clear_append, length_after}

-- ---- one line

abbrev stored : LedgerData → Line → LedgerData
stored d line = record { base = d.base; lines = d.lines ++ line ∷ []; lost = d.lost }

abbrev counted_on : LedgerData → LedgerData
counted_on d = record { base = d.base; lines = d.lines; lost = min (d.lost + 1) (2 ^ 64 - 1) }

pub with_room : (d : LedgerData) (line : Line) → length d.lines < MOST_LINES
    → with_one_line d line ≡ stored d line
with_room d line l = ap (λ b. if b then stored d line else counted_on d)
    (lt-ltb (length d.lines) MOST_LINES l)

pub no_room : (d : LedgerData) (line : Line) → MOST_LINES ≤ length d.lines
    → with_one_line d line ≡ counted_on d
no_room d line l = ap (λ b. if b then stored d line else counted_on d)
    (le-ltb (length d.lines) MOST_LINES l)

rises : (x : ℕ) → x < 2 ^ 64 → (x ≤ min (x + 1) (2 ^ 64 - 1)) × (min (x + 1) (2 ^ 64 - 1) ≤ x + 1)
rises x l = (omega arith, omega arith)

-- what is lost is a count of 64 bits
abbrev pub IsSmall : LedgerData → Type 0
IsSmall d = d.lost < 2 ^ 64

pub small_on : (d : LedgerData) (line : Line) → IsSmall d → IsSmall (with_one_line d line)
small_on d line w = elim (cases_lt (length d.lines) MOST_LINES) [
  | inl l ↦ subst IsSmall (sym (with_room d line l)) w
  | inr l ↦ subst IsSmall (sym (no_room d line l)) (below d.lost)
]
  where
    below : (x : ℕ) → min (x + 1) (2 ^ 64 - 1) < 2 ^ 64
    below x = omega arith

pub grows_one : (d : LedgerData) (line : Line) → IsSmall d → GrowsBy 1 d (with_one_line d line)
grows_one d line w = elim (cases_lt (length d.lines) MOST_LINES) [
  | inl l ↦ subst (λ e. GrowsBy 1 d e) (sym (with_room d line l)) (record {
    base = refl;
    more = line ∷ [];
    lines = refl;
    lost = omega arith;
    count = let e : length (d.lines ++ line ∷ []) ≡ length d.lines + 1 = longer d.lines line in
        omega arith;
  })
  | inr l ↦
      let r = rises d.lost w in
      subst (λ e. GrowsBy 1 d e) (sym (no_room d line l))
      (record {
        base = refl;
        more = [];
        lines = sym (append-nil d.lines);
        lost = r.0;
        count = more (length d.lines) d.lost (min (d.lost + 1) (2 ^ 64 - 1)) r.1;
      })
]
  where
    more : (a x y : ℕ) → y ≤ x + 1 → a + y ≤ a + x + 1
    more a x y l = omega arith

-- ---- lines counted

pub counts_one : (d : LedgerData) (line : Line) → CountsBy 1 d (with_one_line d line)
counts_one d line = elim (cases_lt (length d.lines) MOST_LINES) [
  | inl l ↦ subst (λ e. CountsBy 1 d e) (sym (with_room d line l))
      (λ z. let e : length (d.lines ++ line ∷ []) ≡ length d.lines + 1 = longer d.lines line in omega arith)
  | inr l ↦ subst (λ e. CountsBy 1 d e) (sym (no_room d line l))
      (λ z. more (length d.lines) d.lost z)
]
  where
    more : (a x : ℕ) → min (x + 1) (2 ^ 64 - 1) < 2 ^ 64 - 1
        → a + min (x + 1) (2 ^ 64 - 1) ≡ a + x + 1
    more a x l = omega (arith, l)

pub counts_on : (a b : ℕ) (d e f : LedgerData) → e.lost ≤ f.lost
    → CountsBy a d e → CountsBy b e f → CountsBy (a + b) d f
counts_on a b d e f l g h z =
    let small : e.lost < 2 ^ 64 - 1 = omega (arith, l, z) in
    omega (arith, g small, h z)

pub grows_on : (a b : ℕ) (d e f : LedgerData) → GrowsBy a d e → GrowsBy b e f → GrowsBy (a + b) d f
grows_on a b d e f g h = record {
  base = h.base ∙ g.base;
  more = g.more ++ h.more;
  lines = h.lines ∙ ap (λ v. v ++ h.more) g.lines ∙ append_assoc d.lines g.more h.more;
  lost = omega (arith, g.lost, h.lost);
  count = omega (arith, g.count, h.count);
}

pub grows_none : (d : LedgerData) → GrowsBy 0 d d
grows_none d
    = record { base = refl; more = []; lines = sym (append-nil d.lines); lost = omega arith; count = omega arith }

not_lost : (x : ℕ) → min (x + 1) (2 ^ 64 - 1) ≡ 0 → ⊥
not_lost x e = absurd (omega arith)

-- if nothing was lost there was room
pub had_room : (d : LedgerData) (line : Line) → (with_one_line d line).lost ≡ 0
    → (length d.lines < MOST_LINES) × (d.lost ≡ 0)
had_room d line h = elim (cases_lt (length d.lines) MOST_LINES) [
  | inl l ↦ (l, sym (ap (λ (e : LedgerData). e.lost) (with_room d line l)) ∙ h)
  | inr l ↦ absurd (not_lost d.lost (sym (ap (λ (e : LedgerData). e.lost) (no_room d line l)) ∙ h))
]

pub read_next : (d : LedgerData) (line : Line) → length d.lines < MOST_LINES
    → read_of (with_one_line d line) ≡ context_after (read_of d) line
read_next d line l = ap read_of (with_room d line l)
    ∙ after_append (first_context d.base.board d.base.player) d.lines (line ∷ [])

pub number_next : (d : LedgerData) → length (read_of d).earlier ≡ length d.lines
number_next d = let e : length (read_of d).earlier ≡ 0 + length d.lines = length_after
    (first_context d.base.board d.base.player) d.lines in omega arith

pub base_of : (d : LedgerData) → (read_of d).base ≡ d.base
base_of d = base_after (first_context d.base.board d.base.player) d.lines

-- a ledger stays one
pub ledger_more : (d : LedgerData) (line : Line) → IsLedger d → length d.lines < MOST_LINES
    → MayStandNext d line → IsLedger (stored d line)
ledger_more d line w l m = record {
  clear = clear_append (first_context d.base.board d.base.player) d.lines
      (line ∷ []) w.clear (m.0, tt);
  form = All-push (IsLineOf SECOND_VERSION d.base.board.size) d.lines line w.form m.1;
  few = let e : length (d.lines ++ line ∷ []) ≡ length d.lines + 1 = longer d.lines line in
      omega arith;
  full = λ h. let e : length d.lines ≡ MOST_LINES = w.full h in absurd (omega arith);
  small = w.small;
}

pub ledger_lost : (d : LedgerData) → IsLedger d → MOST_LINES ≤ length d.lines
    → IsLedger (counted_on d)
ledger_lost d w l = record {
  clear = w.clear;
  form = w.form;
  few = w.few;
  full = λ h. let e : length d.lines ≤ MOST_LINES = w.few in omega arith;
  small = omega arith;
}

-- ---- as the code goes

pub ledger_added : (d e : LedgerData) (line : Line) (xs : List Line) → e ≡ d → IsLedger e
    → (length d.lines < MOST_LINES → MayStandNext d line) → length e.lines < MOST_LINES
    → xs ≡ e.lines ++ line ∷ []
    → IsLedger (record { base = e.base; lines = xs; lost = e.lost })
ledger_added d e line xs q w f l h =
    let may : MayStandNext e line
    = subst (λ (v : LedgerData). length v.lines < MOST_LINES → MayStandNext v line)
    (sym q) f l in
    subst (λ (ys : List Line). IsLedger (record { base = e.base; lines = ys; lost = e.lost }))
    (sym h) (ledger_more e line w l may)
