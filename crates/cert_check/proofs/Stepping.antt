-- The lines of a certificate as the checker goes through them.
use Rattle.std.proofs.Common.{◌≡◌, ℕ, ◌<◌, ◌≤◌, List, [], ◌∷◌, Some, length, get_or, sym, ap, subst}
use Rattle.std.proofs.Common.{Bool, true, false, if◌then◌else◌, nat_le, zero, suc, arith}
use Rattle.std.specs.List.{slice_get}
use Rattle.win_cert.specs.Entries.{Context, context_at}
use Rattle.win_cert.specs.Writable.{most_lines}
use Rattle.win_cert.specs.declared.certs.Cert.{Cert}
use Rattle.win_cert.specs.declared.certs.TheConstants.{LATEST_VERSION, MOST_LATEST_LINES, MOST_LINES}
use Rattle.win_cert.specs.declared.lines.Line.{Line}
use Rattle.win_cert.proofs.Stepping.{AreClearTo}

pub at_index : {X : Type 0} (xs : List X) (i : ℕ) (x : X) → i < length xs → x ≡ get_or xs i x
    → slice_get xs i ≡ Some x
at_index [] i x l e = absurd (omega (arith, l))
at_index (y ∷ xs) zero x l e = ap Some (sym e)
at_index (y ∷ xs) (suc i) x l e = at_index xs i x (omega (arith, l)) e

-- in each version
pub few_lines : (v : ℕ) → most_lines v ≤ MOST_LATEST_LINES
few_lines v = of_both (nat_le LATEST_VERSION v)
  where
    of_both : (b : Bool) → (if b then MOST_LATEST_LINES else MOST_LINES) ≤ MOST_LATEST_LINES
    of_both true = omega arith
    of_both false = omega arith

-- k lines were read: this is kept, the next line has this number, and no reason stands so far
abbrev pub IsReadTo : Cert → Context → ℕ → ℕ → Type 0
IsReadTo cert kept number k = (kept ≡ context_at cert k) × (number ≡ k) × AreClearTo cert k

-- there is a line k
pub is_line : {items : List Line} {k : ℕ} (cert : Cert) → items ≡ cert.lines → k < length items
    → k < length cert.lines
is_line {k = k} cert e l = subst (λ xs. k < length xs) e l

-- and this is it
pub next_line : {items : List Line} {k : ℕ} (cert : Cert) (line : Line) → items ≡ cert.lines
    → k < length items → line ≡ get_or items k line
    → slice_get cert.lines k ≡ Some line
next_line {k = k} cert line e l is
    = at_index cert.lines k line (is_line cert e l) (subst (λ xs. line ≡ get_or xs k line) e is)

-- at the end all lines were read
pub all_read : {items : List Line} {kept : Context} {number k : ℕ} (cert : Cert)
    → items ≡ cert.lines → k ≤ length items → length items ≤ k → IsReadTo cert kept number k
    → IsReadTo cert kept number (length cert.lines)
all_read {items = items} {kept = kept} {number = number} {k = k} cert e l m read =
    let same : length items ≡ length cert.lines = ap length e in
    let last : k ≡ length cert.lines = omega (arith, same, l, m) in
    subst (IsReadTo cert kept number) last read
