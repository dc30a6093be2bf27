-- What reading one line does: what it says, and the bytes that are left. Only private clauses cite
-- this.
use Rattle.std.specs.Prelude.{◌≡◌, MatchOption, MatchResult, ℕ, ◌+◌, List, []}
use Rattle.std.specs.Prelude.{Option, Some, None, Result, Ok, Err, length, if◌then◌else◌}
use Rattle.conn_store.specs.declared.entries.Kind.{Kind}
use Rattle.win_cert.specs.Lines.{at_line, first_line, is_nothing, line_in, lines_of, steps_in}
use Rattle.win_cert.specs.Lines.{with_lines, with_rest}
use Rattle.win_cert.specs.Named.{statement_named}
use Rattle.win_cert.specs.declared.lines.Line.{Line}
use Rattle.win_cert.specs.declared.refusals.CertError.{CertError}
use Rattle.win_cert.specs.declared.refusals.CertError.TheVariants.{NotCert}
use Rattle.win_cert.specs.declared.statements.Statement.{Statement}

-- these words are the first line of the text, and these bytes are left; or no line feed is left
abbrev pub IsFirstLine : List ℕ → Option (List (List ℕ)) → List ℕ → Type 0
IsFirstLine bytes result rest = MatchOption result (first_line (lines_of bytes) ≡ None)
    (λ words. first_line (lines_of bytes) ≡ Some (words, lines_of rest))

-- the first line of the text says this, or nothing, and these bytes are left
abbrev pub IsLineTaken : {A : Type 0} → (List (List ℕ) → Option A) → List ℕ → Option A → List ℕ
    → Type 0
IsLineTaken said bytes result rest = MatchOption result (line_in said (lines_of bytes) ≡ None)
    (λ a. line_in said (lines_of bytes) ≡ Some (a, lines_of rest))

-- the first line of the text, which is line n, says this step, and these bytes are left; or it is
-- bad
abbrev pub IsStatementRead : ℕ → ℕ → ℕ → List ℕ → Result Statement CertError → List ℕ → Type 0
IsStatementRead version size n bytes result rest =
    with_rest result (lines_of rest)
    ≡ at_line n (line_in (statement_named version size) (lines_of bytes))

-- after the head and these lines, the first line of the text was taken: it was added, or it is the
-- claim, or it is refused
abbrev pub IsStatementTaken : ℕ → ℕ → List Line → List ℕ → Result (Option (Kind × ℕ)) CertError
    → List Line → List ℕ → Type 0
IsStatementTaken version n old bytes result new rest = MatchResult result
    (λ taken. MatchOption taken
    (with_lines old (steps_in version n (length old) (lines_of bytes))
    ≡ with_lines new (steps_in version n (length new) (lines_of rest)))
    (λ claim. (new ≡ old) × (steps_in version n (length old) (lines_of bytes)
    ≡ (if is_nothing (lines_of rest) then Ok ([], claim) else Err (NotCert (length old + 7))))))
    (λ e. steps_in version n (length old) (lines_of bytes) ≡ Err e)
