-- The two lines that a ledger gets for a position: `put`, and `done` or `move`.
use Rattle.std.proofs.Common.{◌≡◌, ℕ, ◌+◌, ◌*◌, ◌<◌, ◌≤◌, true, [], ◌∷◌, Option, Some, None, length}
use Rattle.std.proofs.Common.{refl, sym, ◌∙◌, ap, subst, inl, inr, arith}
use Rattle.std.specs.List.{slice_get}
use Rattle.std.specs.Option.{option_flatten}
use Rattle.std.proofs.lemmas.Bool.{cases_eq, cases_lt}
use Rattle.std.proofs.lemmas.List.Elements.{All-cons, All-nil}
use Rattle.std.proofs.lemmas.Option.{slice_get_within}
use Rattle.hex_cells.specs.Sets.{with_cell}
use Rattle.hex_board.specs.Elements.{PlayerBoard}
use Rattle.hex_board.specs.Joined.{is_joined}
use Rattle.hex_board.specs.Positions.{Position, is_empty_at, placed, stones_of}
use Rattle.hex_board.proofs.Placed.{empty_on}
use Rattle.conn_store.specs.declared.entries.Kind.{Kind}
use Rattle.conn_store.specs.declared.entries.Kind.TheVariants.{Full, Semi}
use Rattle.win_cert.specs.Entries.{ScopedEntry, entry_at}
use Rattle.win_cert.specs.Reasons.{reason_against}
use Rattle.win_cert.specs.declared.statements.Statement.TheVariants.{Derivation}
use Rattle.win_cert.specs.Writable.{IsLineOf}
use Rattle.win_cert.specs.declared.certs.TheConstants.{MOST_LINES, SECOND_VERSION}
use Rattle.win_cert.specs.declared.lines.Line.{Line}
use Rattle.win_cert.specs.declared.lines.Line.TheVariants.{Put, Done, Move}
use Rattle.win_cert.specs.declared.lines.TheConstants.{MOST_NUMBER}
use Rattle.hex_solve.specs.Ledgers.{CountsBy, GrowsBy, IsLedger, LedgerData, MayStandNext, ShowsWin}
use Rattle.hex_solve.specs.Ledgers.{read_of, with_one_line}
use Rattle.win_cert.specs.Contexts.{AreClear, after_lines}
use Rattle.win_cert.specs.Showing.{IsReached, Keeps, Shows, scope_of}
use Rattle.hex_solve.proofs.TwoLines.{TwoShow, base_same, second_follows, two_shown}
use Rattle.hex_solve.proofs.LedgerLaws.{base_of, counts_on, counts_one, grows_on, grows_one}
use Rattle.hex_solve.proofs.LedgerLaws.{no_room, number_next, small_on}
use Rattle.win_cert.proofs.Reaching.{kept_reached, scope_own}
use Rattle.win_cert.proofs.Shown.{put_done, put_move}
use Rattle.win_cert.proofs.ScopeLines.{put_right}

-- ---- room

pub none_lost : (d : LedgerData) → IsLedger d → length d.lines < MOST_LINES → d.lost ≡ 0
none_lost d w l = elim (cases_eq d.lost 0) [
  | inl e ↦ e
  | inr n ↦ let e : length d.lines ≡ MOST_LINES = w.full (omega arith) in absurd (omega arith)
]

room_back : (d : LedgerData) (line : Line) → length (with_one_line d line).lines < MOST_LINES
    → length d.lines < MOST_LINES
room_back d line l = elim (cases_lt (length d.lines) MOST_LINES) [
  | inl m ↦ m
  | inr m ↦ let e : length (with_one_line d line).lines ≡ length d.lines
      = ap (λ (e : LedgerData). length e.lines) (no_room d line m) in omega arith
]

pub follows_second : (d e : LedgerData) (line next : Line) → IsLedger d → e ≡ with_one_line d line
    → (d.lost ≡ 0 → AreClear (read_of d) (line ∷ next ∷ [])) → length e.lines < MOST_LINES
    → reason_against (read_of e) (Derivation next) ≡ None
follows_second d e line next w q f l =
    let m : length (with_one_line d line).lines < MOST_LINES
    = subst (λ (v : LedgerData). length v.lines < MOST_LINES) q l in
    subst (λ (v : LedgerData). reason_against (read_of v) (Derivation next) ≡ None) (sym q)
    (second_follows d line next (f (none_lost d w (room_back d line m))) m)

pub shown_second : (d e f : LedgerData) (p : Position) (kind : Kind) (line next : Line) (i : ℕ)
    → e ≡ with_one_line d line → f ≡ with_one_line e next → i ≡ length d.lines + 1
    → (d.lost ≡ 0 → TwoShow d p kind line next) → ShowsWin f p kind i
shown_second d e f p kind line next i q r n h =
    let same : f ≡ with_one_line (with_one_line d line) next = r
    ∙ ap (λ (v : LedgerData). with_one_line v next) q in
    subst (λ (v : LedgerData). ShowsWin v p kind i) (sym same)
    (subst (λ v. ShowsWin (with_one_line (with_one_line d line) next) p kind v) (sym n) (two_shown d p kind line next h))

pub grows_second : (d e f : LedgerData) (line next : Line) → IsLedger d → e ≡ with_one_line d line
    → f ≡ with_one_line e next → GrowsBy 2 d f
grows_second d e f line next w q r =
    let m = with_one_line d line in
    let same : f ≡ with_one_line m next = r ∙ ap (λ (v : LedgerData). with_one_line v next) q in
    subst (λ (z : LedgerData). GrowsBy 2 d z) (sym same)
    (grows_on 1 1 d m (with_one_line m next) (grows_one d line w.small) (grows_one m next (small_on d line w.small)))

pub counts_second : (d e f : LedgerData) (line next : Line) → IsLedger d
    → e ≡ with_one_line d line → f ≡ with_one_line e next → CountsBy 2 d f
counts_second d e f line next w q r =
    let m = with_one_line d line in
    let same : f ≡ with_one_line m next = r ∙ ap (λ (v : LedgerData). with_one_line v next) q in
    let more = grows_one m next (small_on d line w.small) in
    subst (λ (z : LedgerData). CountsBy 2 d z) (sym same)
    (counts_on 1 1 d m (with_one_line m next) more.lost (counts_one d line) (counts_one m next))

-- ---- the scope

pub reached_there : (d : LedgerData) (p : Position) (s : ℕ) → Keeps d.base.board p
    → s ≡ scope_of d.base p → IsReached (read_of d).base p s
reached_there d p s k q = subst (λ v. IsReached (read_of d).base p v) (sym q)
    (subst (λ (b : PlayerBoard). IsReached b p (scope_of d.base p)) (sym (base_of d)) (kept_reached d.base p k))

pub put_follows : (d : LedgerData) (p : Position) (s : ℕ) → Keeps d.base.board p
    → s ≡ scope_of d.base p → MayStandNext d (Put s)
put_follows d p s k q =
    let r = reached_there d p s k q in (
      put_right (read_of d) s r.fresh,
      (omega arith, λ j h. subst (λ (b : PlayerBoard). j < b.board.size * b.board.size) (base_of d) (empty_on (read_of d).base.board j (r.fresh j h))),
    )

-- ---- joined

pub done_two : (d : LedgerData) (p : Position) (s : ℕ) → Keeps d.base.board p
    → s ≡ scope_of d.base p → is_joined p.size d.base.player (stones_of p d.base.player) ≡ true
    → TwoShow d p Full (Put s) Done
done_two d p s k q j =
    let r = put_done (read_of d) p s (reached_there d p s k q)
    (subst (λ (b : PlayerBoard). is_joined p.size b.player (stones_of p b.player) ≡ true) (sym (base_of d)) j) in
    (r.0, subst (λ v. Shows (after_lines (read_of d) (Put s ∷ Done ∷ [])) p Full v (length (read_of d).earlier + 1)) q r.1)

-- ---- a stone of his

pub move_two : (d : LedgerData) (p : Position) (s k i : ℕ) → Keeps d.base.board p
    → s ≡ scope_of d.base p → is_empty_at p k ≡ true → ShowsWin d (placed p d.base.player k) Full i
    → d.lost ≡ 0
    → TwoShow d p Semi (Put s) (Move k i)
move_two d p s k i e q h f z =
    let after : Shows (read_of d) (placed p d.base.player k) Full (with_cell s k) i =
    subst (λ v. Shows (read_of d) (placed p d.base.player k) Full v i)
    (scope_own d.base p k e h ∙ ap (λ v. with_cell v k) (sym q)) (f z) in
    let r = put_move (read_of d) p s k i (reached_there d p s e q) h
    (subst (λ (b : PlayerBoard). Shows (read_of d) (placed p b.player k) Full (with_cell s k) i) (sym (base_of d)) after) in
    (r.0, subst (λ v. Shows (after_lines (read_of d) (Put s ∷ Move k i ∷ [])) p Semi v (length (read_of d).earlier + 1)) q r.1)

-- ---- numbers

flat_some : (o : Option (Option ScopedEntry)) (a : ScopedEntry) → option_flatten o ≡ Some a
    → (b : Option ScopedEntry) × (o ≡ Some b)
flat_some None a h = absurd (cc)
flat_some (Some b) a h = (b, refl)

number_below : (d : LedgerData) (i : ℕ) (a : ScopedEntry) → entry_at (read_of d) i ≡ Some a
    → i < length d.lines
number_below d i a h =
    let w = flat_some (slice_get (read_of d).earlier i) a h in
    let l : i < length (read_of d).earlier = slice_get_within (read_of d).earlier i w.0 w.1 in
    let e : length (read_of d).earlier ≡ length d.lines = number_next d in
    omega arith

pub shown_below : (d : LedgerData) (p : Position) (kind : Kind) (s i : ℕ) → IsLedger d
    → Shows (read_of d) p kind s i → i ≤ MOST_NUMBER
shown_below d p kind s i w h =
    let l : i < length d.lines = number_below d i h.gives.entry h.gives.at in
    let m : length d.lines ≤ MOST_LINES = w.few in
    omega arith

pub move_form : (d : LedgerData) (p : Position) (k i : ℕ) → IsLedger d → Keeps d.base.board p
    → is_empty_at p k ≡ true → ShowsWin d (placed p d.base.player k) Full i → d.lost ≡ 0
    → IsLineOf SECOND_VERSION d.base.board.size (Move k i)
move_form d p k i w e h f z = (
  omega arith,
  subst (λ n. k < n * n) e.size (empty_on p k h),
  All-cons (λ v. v ≤ MOST_NUMBER) i []
      (shown_below d (placed p d.base.player k) Full (scope_of d.base (placed p d.base.player k)) i w (f z)) (All-nil (λ v. v ≤ MOST_NUMBER)),
)

-- ---- as the code goes

pub room_had : (d e : LedgerData) (line : Line) → e ≡ with_one_line d line
    → length e.lines < MOST_LINES → length d.lines < MOST_LINES
room_had d e line q l
    = room_back d line (subst (λ (v : LedgerData). length v.lines < MOST_LINES) q l)

pub base_kept : (d e : LedgerData) (line : Line) → e ≡ with_one_line d line → e.base ≡ d.base
base_kept d e line q = ap (λ (v : LedgerData). v.base) q ∙ base_same d line
