-- One step after others.
use Rattle.std.proofs.Common.{◌≡◌, ◌≢◌, ℕ, suc, cond, List, [], ◌∷◌, ◌++◌, length, Option, Some}
use Rattle.std.proofs.Common.{None, Result, Ok, Err, refl, ap, sym, ◌∙◌, length-append, subst}
use Rattle.std.proofs.Common.{arith}
use Rattle.std.specs.Option.{option_map}
use Rattle.std.proofs.lemmas.Bool.{ne_eqb}
use Rattle.std.proofs.lemmas.List.{append_assoc}
use Rattle.win_cert.specs.Lines.{Steps, steps_after, at_line, line_in, steps_in, with_lines}
use Rattle.win_cert.specs.Named.{statement_named}
use Rattle.win_cert.specs.Writable.{most_lines}
use Rattle.win_cert.specs.declared.lines.Line.{Line}
use Rattle.win_cert.specs.declared.refusals.CertError.{CertError}
use Rattle.win_cert.specs.declared.refusals.CertError.TheVariants.{TooManyLines}
use Rattle.win_cert.specs.declared.statements.Statement.{Statement}
use Rattle.win_cert.specs.declared.statements.Statement.TheVariants.{Derivation}

-- lines before lines are lines
pub with_both : (old : List Line) (line : Line) (steps : Result Steps CertError)
    → with_lines old (with_lines (line ∷ []) steps) ≡ with_lines (old ++ line ∷ []) steps
with_both old line (Ok s) = ap (λ lines. Ok (lines, s.1)) (sym (append_assoc old (line ∷ []) s.0))
with_both old line (Err e) = refl

abbrev pub Taken : Type 0
Taken = Result (Statement × List (List (List ℕ))) CertError

said : (v n k m : ℕ) (words next : List (List ℕ)) (lines rest : List (List (List ℕ))) (line : Line)
    (o : Option Statement)
    → statement_named v n words ≡ o → k ≢ most_lines v
    → ◌≡◌ {A = Taken} (Ok (Derivation line, rest))
    (at_line m (option_map (λ a. (a, next ∷ lines)) o))
    → steps_in v n k (words ∷ next ∷ lines) ≡ with_lines (line ∷ []) (steps_in v n (suc k) rest)
said v n k m words next lines rest line None is few e = cc
said v n k m words next lines rest line (Some s) is few e =
    let pair : ◌≡◌ {A = Statement × List (List (List ℕ))} (Derivation line, rest)
    (s, next ∷ lines) = cc in
    let first : Derivation line ≡ s = ap (λ p. p.0) pair in
    let others : rest ≡ next ∷ lines = ap (λ p. p.1) pair in
    ap (λ o. steps_after v k o (next ∷ lines) (steps_in v n (suc k) (next ∷ lines)))
    (is ∙ ap Some (sym first))
    ∙ ap (λ b. cond b (Err TooManyLines) (with_lines (line ∷ []) (steps_in v n (suc k) (next ∷ lines)))) (ne_eqb k (most_lines v) few)
    ∙ ap (λ rest. with_lines (line ∷ []) (steps_in v n (suc k) rest)) (sym others)

-- where a derivation line is said first, the steps are it and the others
pub line_first : (v n k m : ℕ) (lines rest : List (List (List ℕ))) (line : Line) → k ≢ most_lines v
    → ◌≡◌ {A = Taken} (Ok (Derivation line, rest)) (at_line m (line_in (statement_named v n) lines))
    → steps_in v n k lines ≡ with_lines (line ∷ []) (steps_in v n (suc k) rest)
line_first v n k m [] rest line few e = cc
line_first v n k m (words ∷ []) rest line few e = cc
line_first v n k m (words ∷ next ∷ lines) rest line few e =
    said v n k m words next lines rest line (statement_named v n words) refl few e

-- the same after other lines
pub line_added : (v n m : ℕ) (old new : List Line) (lines rest : List (List (List ℕ))) (line : Line)
    → length old ≢ most_lines v → new ≡ old ++ line ∷ []
    → ◌≡◌ {A = Taken} (Ok (Derivation line, rest)) (at_line m (line_in (statement_named v n) lines))
    → with_lines old (steps_in v n (length old) lines) ≡ with_lines new
    (steps_in v n (length new) rest)
line_added v n m old new lines rest line few e first =
    let long : suc (length old) ≡ length new
    = sym (ap length e ∙ length-append old (line ∷ []) ∙ omega arith) in
    ap (with_lines old) (line_first v n (length old) m lines rest line few first)
    ∙ with_both old line (steps_in v n (suc (length old)) rest)
    ∙ ap (λ ls. with_lines ls (steps_in v n (suc (length old)) rest)) (sym e)
    ∙ ap (λ k. with_lines new (steps_in v n k rest)) long

-- the same step, as the line that it is
pub step_is : (s : Statement) (line : Line) (rest : List (List (List ℕ))) (said : Taken)
    → s ≡ Derivation line
    → ◌≡◌ {A = Taken} (Ok (s, rest)) said → ◌≡◌ {A = Taken} (Ok (Derivation line, rest)) said
step_is s line rest said is e = subst (λ s. ◌≡◌ {A = Taken} (Ok (s, rest)) said) is e
