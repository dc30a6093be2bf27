-- The end of the plain search: the certificate of a ledger, or why there is none.
use Rattle.std.proofs.Common.{◌≡◌, ℕ, ◌+◌, ◌-◌, ◌*◌, ◌^◌, ◌<◌, ◌≤◌, ◌&&◌, not, true, false, Bool}
use Rattle.std.proofs.Common.{All, Some, length, min, refl, sym, ◌∙◌, ap, subst, inl, inr, arith}
use Rattle.std.proofs.lemmas.Bool.{cases_lt}
use Rattle.hex_cells.specs.Colours.{other_of}
use Rattle.hex_cells.specs.Sets.{has, without_cells}
use Rattle.hex_cells.specs.declared.colours.Colour.{Colour}
use Rattle.hex_cells.specs.declared.colours.Colour.TheVariants.{Black, White}
use Rattle.hex_cells.proofs.Bits.{has_none, has_without_cells, same_set}
use Rattle.hex_board.specs.Elements.{PlayerBoard}
use Rattle.hex_board.specs.Positions.{Position, stones_of}
use Rattle.hex_board.specs.Wins.{empty_count}
use Rattle.conn_store.specs.declared.entries.Kind.{Kind}
use Rattle.conn_store.specs.declared.entries.Kind.TheVariants.{Full, Semi}
use Rattle.win_cert.specs.Scopes.{player_board}
use Rattle.win_cert.specs.Versions.{version_for}
use Rattle.win_cert.specs.Writable.{IsLineOf, most_lines}
use Rattle.win_cert.specs.declared.certs.Cert.{Cert}
use Rattle.win_cert.specs.declared.certs.TheConstants.{MOST_LINES, SECOND_VERSION}
use Rattle.hex_solve.specs.Deciding.{lines_needed, positions_needed}
use Rattle.hex_solve.specs.Ledgers.{IsLedger, LedgerData, ShowsWin, count_of, read_of}
use Rattle.hex_found.specs.Found.{IsCertifiedWinner, claim_for}
use Rattle.hex_solve.specs.Solved.{few_cells}
use Rattle.hex_solve.specs.PlainSearch.{IsShownBy, tree_lines}
use Rattle.win_cert.specs.Showing.{GivesEdges, Shows, scope_of}
use Rattle.hex_solve.specs.PlainAnswer.{IsCertOf, IsToldBy, IsOverlong}
use Rattle.win_cert.proofs.Accepting.{accepted}
use Rattle.win_cert.proofs.VersionLines.{second_suffices}
use Rattle.hex_solve.proofs.AddedLines.{shown_below}
use Rattle.hex_solve.proofs.FirstWins.{first_wins}
use Rattle.hex_solve.proofs.TreeLines.{tree_few}

-- ---- the certificate

no_more : (a : Bool) → (a && not a) ≡ false
no_more true = refl
no_more false = refl

-- on the board itself the scope is empty
pub no_scope : (base : PlayerBoard) → scope_of base base.board ≡ 0
no_scope base = let s = stones_of base.board base.player in
    same_set (without_cells s s) 0
    (λ k. has_without_cells s s k ∙ (no_more (has s k) ∙ sym (has_none k)))

pub certified : (d : LedgerData) (claim : Kind) (cert : Cert) → IsLedger d → d.lost ≡ 0
    → ShowsWin d d.base.board claim cert.entry → cert.version ≡ SECOND_VERSION
    → cert.board ≡ d.base.board
    → cert.player ≡ d.base.player → cert.claim ≡ claim → cert.lines ≡ d.lines
    → IsCertOf d claim cert
certified d claim cert w z f v b p k l =
    let base : PlayerBoard = player_board cert in
    let same : base ≡ d.base = ap (λ (x : Position). record { board = x; player = cert.player }) b
    ∙ ap (λ (c : Colour). record { board = d.base.board; player = c }) p in
    let e : LedgerData = record { base = base; lines = cert.lines; lost = d.lost } in
    let is : e ≡ d
    = ap (λ (x : PlayerBoard). record { base = x; lines = cert.lines; lost = d.lost }) same
    ∙ ap (λ xs. record { base = d.base; lines = xs; lost = d.lost }) l in
    let ledger : IsLedger e = subst IsLedger (sym is) w in
    let shown : Shows (read_of d) d.base.board claim
    (scope_of d.base d.base.board) cert.entry = f z in
    let gives : GivesEdges (read_of d) claim 0 shown.carrier cert.entry
    = subst (λ s. GivesEdges (read_of d) claim s shown.carrier cert.entry)
    (no_scope d.base) shown.gives in
    let there : GivesEdges (read_of e) cert.claim 0 shown.carrier cert.entry
    = subst (λ (x : Kind). GivesEdges (read_of e) x 0 shown.carrier cert.entry) (sym k)
    (subst (λ (x : LedgerData). GivesEdges (read_of x) claim 0 shown.carrier cert.entry) (sym is) gives) in
    record {
      version = v;
      board = b;
      player = p;
      claims = k;
      lines = l;
      writable = (
        record {
          version = inr (inl v);
          lines = subst (λ n. All (IsLineOf n cert.board.size) cert.lines) (sym v) ledger.form;
          entry = shown_below d d.base.board claim
              (scope_of d.base d.base.board) cert.entry w shown;
        },
        subst (λ n. length cert.lines ≤ most_lines n) (sym v) ledger.few,
      );
      accepted = (accepted cert shown.carrier ledger.clear there).0;
    }

-- the lines were too many
pub too_many : (d x : LedgerData) (n l : ℕ) → x ≡ d → IsLedger x → ¬ (x.lost ≡ 0)
    → l ≡ length x.lines → n ≡ min (l + x.lost) (2 ^ 64 - 1)
    → (MOST_LINES < n) × (n ≡ min (count_of d) (2 ^ 64 - 1))
too_many d x n l q w f m e =
    let full : length x.lines ≡ MOST_LINES = w.full (omega (arith, f)) in
    let small : x.lost < 2 ^ 64 = w.small in
    (omega (arith, f), subst (λ (v : LedgerData). n ≡ min (count_of v) (2 ^ 64 - 1)) q (e ∙ ap (λ v. min (v + x.lost) (2 ^ 64 - 1)) m))

-- ---- what is told

-- the lines of a ledger need version 2
ledger_version : (d : LedgerData) {claim : Kind} (cert : Cert) → IsCertOf d claim cert
    → version_for cert.lines ≡ SECOND_VERSION
ledger_version d cert c = second_suffices cert.board.size cert.lines
    (subst (λ n. All (IsLineOf n cert.board.size) cert.lines) c.version c.writable.0.lines)

pub won_told : (p : Position) (mover : Colour) (claim : Kind) (line : ℕ) (d : LedgerData)
    (cert : Cert) (winner : Colour) → IsToldBy p mover claim line d → IsCertOf d claim cert
    → winner ≡ d.base.player
    → IsCertifiedWinner p mover winner cert × (length cert.lines ≤ 2 * positions_needed p mover)
won_told p mover claim line d cert winner t c w = (
  record {
    certified = record {
      version = c.version ∙ sym (ledger_version d cert c);
      writable = c.writable;
      accepted = c.accepted;
      board = c.board ∙ t.board;
      player = c.player ∙ sym w;
      claims = c.claims ∙ (t.claims ∙ ap (λ (v : Colour). claim_for v mover) (sym w));
    };
    wins = first_wins p mover winner (t.first_is ∙ ap Some (sym w));
  },
  subst (λ xs. length xs ≤ 2 * positions_needed p mover) (sym c.lines)
      (fewer (length d.lines) d.lost (2 * positions_needed p mover) t.entered),
)
  where
    fewer : (a b c : ℕ) → a + b ≤ c → a ≤ c
    fewer a b c l = omega arith

over_nine : (p : Position) (claim : Kind) (n : ℕ) → n ≤ tree_lines claim (empty_count p)
    → MOST_LINES < n → few_cells < empty_count p
over_nine p claim n l m = elim (cases_lt 9 (empty_count p)) [
  | inl h ↦ h
  | inr h ↦ let t : tree_lines claim (empty_count p) ≤ 7220 = tree_few claim (empty_count p) h in
      absurd (omega arith)
]

pub long_told : (p : Position) (mover : Colour) (claim : Kind) (line : ℕ) (d : LedgerData)
    (winner : Colour) (lines : ℕ) → IsToldBy p mover claim line d → winner ≡ d.base.player
    → (MOST_LINES < lines) × (lines ≡ min (count_of d) (2 ^ 64 - 1))
    → IsOverlong p mover winner lines
long_told p mover claim line d winner lines t w (l, m) =
    let within : lines ≤ count_of d = omega (arith, m) in
    let many : MOST_LINES < count_of d = omega (arith, l, within) in
    record {
      wins = first_wins p mover winner (t.first_is ∙ ap Some (sym w));
      long = l;
      large = over_nine p claim (count_of d) t.tree many;
      fewer = let e : count_of d ≤ 2 * positions_needed p mover = t.entered in omega (arith, e, within);
      counted = λ z. subst (λ (c : Colour). lines ≡ lines_needed c p mover) (sym w)
          (exact lines (length d.lines) d.lost (lines_needed d.base.player p mover) m t.counted z);
    }
  where
    exact : (n a x c : ℕ) → n ≡ min (a + x) (2 ^ 64 - 1) → (x < 2 ^ 64 - 1 → a + x ≡ c)
        → n < 2 ^ 64 - 1 → n ≡ c
    exact n a x c e f z =
        let small : x < 2 ^ 64 - 1 = omega (arith, e, z) in
        omega (arith, e, z, f small)

-- ---- the two ledgers at the end

pub semi_for : (c : Colour) → Semi ≡ claim_for c c
semi_for Black = refl
semi_for White = refl

full_for : (c : Colour) → Full ≡ claim_for (other_of c) c
full_for Black = refl
full_for White = refl

pub own_told : (p : Position) (mover : Colour) (line : ℕ) (own other mine theirs : LedgerData)
    → own.base ≡ record { board = p; player = mover } → count_of own ≡ 0
    → IsShownBy true p mover line (own, other) (mine, theirs) → IsToldBy p mover Semi line mine
own_told p mover line own other mine theirs e z (g, s, q, f, b, x) =
    let base : mine.base ≡ record { board = p; player = mover } = g.base ∙ e in
    let board : mine.base.board ≡ p = ap (λ (x : PlayerBoard). x.board) base in
    let player : mine.base.player ≡ mover = ap (λ (x : PlayerBoard). x.player) base in
    record {
      board = board;
      claims = semi_for mover ∙ ap (λ (c : Colour). claim_for c mover) (sym player);
      first_is = f ∙ ap Some (sym player);
      shows = subst (λ (x : Position). ShowsWin mine x Semi line) (sym board) s;
      entered = from_none (count_of mine) (count_of own) (2 * positions_needed p mover) z g.count;
      tree = from_none (count_of mine) (count_of own) (tree_lines Semi (empty_count p)) z b;
      counted = λ y. subst (λ (c : Colour). count_of mine ≡ lines_needed c p mover) (sym player)
          (just (count_of mine) (count_of own) (lines_needed mover p mover) z (x y));
    }
  where
    from_none : (x y m : ℕ) → y ≡ 0 → x ≤ y + m → x ≤ m
    from_none x y m q l = omega arith

    just : (x y m : ℕ) → y ≡ 0 → x ≡ y + m → x ≡ m
    just x y m q e = omega (arith, q, e)

pub other_told : (p : Position) (mover : Colour) (line : ℕ) (own other mine theirs : LedgerData)
    → other.base ≡ record { board = p; player = other_of mover } → count_of other ≡ 0
    → IsShownBy false p mover line (own, other) (mine, theirs) → IsToldBy p mover Full line theirs
other_told p mover line own other mine theirs e z (g, s, q, f, b, x) =
    let base : theirs.base ≡ record { board = p; player = other_of mover } = g.base ∙ e in
    let board : theirs.base.board ≡ p = ap (λ (x : PlayerBoard). x.board) base in
    let player : theirs.base.player ≡ other_of mover = ap (λ (x : PlayerBoard). x.player) base in
    record {
      board = board;
      claims = full_for mover ∙ ap (λ (c : Colour). claim_for c mover) (sym player);
      first_is = f ∙ ap Some (sym player);
      shows = subst (λ (x : Position). ShowsWin theirs x Full line) (sym board) s;
      entered = from_none (count_of theirs) (count_of other) (2 * positions_needed p mover) z g.count;
      tree = from_none (count_of theirs) (count_of other) (tree_lines Full (empty_count p)) z b;
      counted = λ y. subst (λ (c : Colour). count_of theirs ≡ lines_needed c p mover) (sym player)
          (just (count_of theirs) (count_of other) (lines_needed (other_of mover) p mover) z (x y));
    }
  where
    from_none : (x y m : ℕ) → y ≡ 0 → x ≤ y + m → x ≤ m
    from_none x y m q l = omega arith

    just : (x y m : ℕ) → y ≡ 0 → x ≡ y + m → x ≡ m
    just x y m q e = omega (arith, q, e)
