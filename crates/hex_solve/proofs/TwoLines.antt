-- A ledger with two lines more.
use Rattle.std.proofs.Common.{◌≡◌, ◌+◌, ◌<◌, [], ◌∷◌, None, length, sym, ◌∙◌, ap, subst, inl, inr}
use Rattle.std.proofs.Common.{arith}
use Rattle.std.proofs.lemmas.Bool.{cases_lt}
use Rattle.hex_board.specs.Elements.{PlayerBoard}
use Rattle.hex_board.specs.Positions.{Position}
use Rattle.conn_store.specs.declared.entries.Kind.{Kind}
use Rattle.win_cert.specs.Reasons.{reason_against}
use Rattle.win_cert.specs.declared.statements.Statement.TheVariants.{Derivation}
use Rattle.win_cert.specs.declared.certs.TheConstants.{MOST_LINES}
use Rattle.win_cert.specs.declared.lines.Line.{Line}
use Rattle.hex_solve.specs.Ledgers.{LedgerData, ShowsWin, read_of, with_one_line}
use Rattle.win_cert.specs.Contexts.{AreClear, after_lines, context_after}
use Rattle.win_cert.specs.Showing.{Shows, scope_of}
use Rattle.hex_solve.proofs.LedgerLaws.{with_room, no_room, had_room, read_next, number_next}

abbrev pub with_two : LedgerData → Line → Line → LedgerData
with_two d line next = with_one_line (with_one_line d line) next

-- lines that show something of what is read so far
abbrev pub TwoShow : LedgerData → Position → Kind → Line → Line → Type 0
TwoShow d p kind line next = AreClear (read_of d) (line ∷ next ∷ [])
    × Shows (after_lines (read_of d) (line ∷ next ∷ [])) p kind (scope_of d.base p)
    (length (read_of d).earlier + 1)

pub second_follows : (d : LedgerData) (line next : Line) → AreClear (read_of d) (line ∷ next ∷ [])
    → length (with_one_line d line).lines < MOST_LINES
    → reason_against (read_of (with_one_line d line)) (Derivation next) ≡ None
second_follows d line next h l = elim (cases_lt (length d.lines) MOST_LINES) [
  | inl m ↦ subst (λ c. reason_against c (Derivation next) ≡ None) (sym (read_next d line m)) h.1.0
  | inr m ↦ let e : length (with_one_line d line).lines ≡ length d.lines
      = ap (λ (e : LedgerData). length e.lines) (no_room d line m) in absurd (omega arith)
]

pub base_same : (d : LedgerData) (line : Line) → (with_one_line d line).base ≡ d.base
base_same d line = elim (cases_lt (length d.lines) MOST_LINES) [
  | inl l ↦ ap (λ (e : LedgerData). e.base) (with_room d line l)
  | inr l ↦ ap (λ (e : LedgerData). e.base) (no_room d line l)
]

pub two_shown : (d : LedgerData) (p : Position) (kind : Kind) (line next : Line)
    → (d.lost ≡ 0 → TwoShow d p kind line next)
    → ShowsWin (with_two d line next) p kind (length d.lines + 1)
two_shown d p kind line next f h =
    let e = with_one_line d line in
    let s = had_room e next h in
    let t = had_room d line s.1 in
    let same : read_of (with_two d line next) ≡ after_lines (read_of d) (line ∷ next ∷ [])
    = read_next e next s.0 ∙ ap (λ c. context_after c next) (read_next d line t.0) in
    let shown = (f t.1).1 in
    subst (λ (b : PlayerBoard). Shows (read_of (with_two d line next)) p kind (scope_of b p) (length d.lines + 1)) (sym (base_same e next ∙ base_same d line))
    (subst (λ i. Shows (read_of (with_two d line next)) p kind (scope_of d.base p) (i + 1)) (number_next d)
    (subst (λ c. Shows c p kind (scope_of d.base p) (length (read_of d).earlier + 1)) (sym same) shown))
