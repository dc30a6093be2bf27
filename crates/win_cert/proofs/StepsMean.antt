-- The steps of a text are in its words.
use Rattle.std.proofs.Common.{◌≡◌, ◌≢◌, ℕ, ◌+◌, ◌≤◌, eqb, suc, Bool, true, false, cond, List, []}
use Rattle.std.proofs.Common.{◌∷◌, ◌++◌, length, map, Option, Some, None, Result, Ok, Err, refl, ap}
use Rattle.std.proofs.Common.{subst, arith}
use Rattle.std.specs.Fmt.{decimal}
use Rattle.std.specs.List.{All}
use Rattle.std.proofs.lemmas.Bool.Decides.{Decides-eqb, not_from_Decides}
use Rattle.std.proofs.lemmas.List.Elements.{All-cons, All-nil}
use Rattle.win_cert.specs.Lines.{Steps, steps_after, is_nothing, steps_in, with_lines}
use Rattle.win_cert.specs.Named.{statement_named}
use Rattle.win_cert.specs.Texts.{kind_word, line_words}
use Rattle.win_cert.specs.Writable.{IsLineOf, most_lines}
use Rattle.win_cert.specs.declared.lines.TheConstants.{MOST_NUMBER}
use Rattle.win_cert.specs.declared.refusals.CertError.{CertError}
use Rattle.win_cert.specs.declared.refusals.CertError.TheVariants.{NotCert, TooManyLines}
use Rattle.win_cert.specs.declared.statements.Statement.{Statement}
use Rattle.win_cert.specs.declared.statements.Statement.TheVariants.{Claim, Derivation}
use Rattle.win_cert.proofs.HeadMeans.{TextLines, bind_ok}
use Rattle.win_cert.proofs.StepMeans.{step_means}
use Rattle.win_cert.proofs.WordParts.{Words}

-- what is left of a text that was read
abbrev pub nothing : TextLines
nothing = ([] ∷ []) ∷ []

no_word : (word : List ℕ) → eqb (length word) 0 ≡ true → word ≡ []
no_word [] e = refl
no_word (x ∷ word) e = let z = (Decides-eqb (length (x ∷ word)) 0).0 e in absurd (omega (arith, z))

pub nothing_means : (lines : TextLines) → is_nothing lines ≡ true → lines ≡ nothing
nothing_means [] e = cc
nothing_means ([] ∷ lines) e = cc
nothing_means ((word ∷ []) ∷ []) e = ap (λ w. (w ∷ []) ∷ []) (no_word word e)
nothing_means ((word ∷ []) ∷ line ∷ lines) e = cc
nothing_means ((word ∷ next ∷ words) ∷ lines) e = cc

pub record AreSteps (v n k : ℕ) (lines : TextLines) (s : Steps) : Type 0 where
  pub lines_are : lines ≡ map (line_words n) s.0 ++ (kind_word s.1.0 ∷ decimal s.1.1 ∷ []) ∷ nothing
  pub good : All (IsLineOf v n) s.0
  pub entry : s.1.1 ≤ MOST_NUMBER
  pub few : k + length s.0 ≤ most_lines v

ok_of_if : {A : Type 0} (b : Bool) (d : CertError) (r : Result A CertError) (y : A)
    → cond b (Err d) r ≡ Ok y → (b ≡ false) × (r ≡ Ok y)
ok_of_if true d r y e = cc
ok_of_if false d r y e = (refl, e)

ok_where : {A : Type 0} (b : Bool) (d : CertError) (x y : A) → cond b (Ok x) (Err d) ≡ Ok y
    → (b ≡ true) × (x ≡ y)
ok_where true d x y e = (refl, cc)
ok_where false d x y e = cc

one_step : (v n k : ℕ) (words : Words) (rest : TextLines) (later : Result Steps CertError)
    (o : Option Statement) (s : Steps)
    → statement_named v n words ≡ o → k ≤ most_lines v
    → ((t : Steps) → later ≡ Ok t → suc k ≤ most_lines v → AreSteps v n (suc k) rest t)
    → steps_after v k o rest later ≡ Ok s → AreSteps v n k (words ∷ rest) s
one_step v n k words rest later None s said few others e = cc
one_step v n k words rest later (Some (Derivation line)) s said few others e =
    let room = ok_of_if (eqb k (most_lines v)) TooManyLines (with_lines (line ∷ []) later) s e in
    let below : k ≢ most_lines v
    = not_from_Decides (eqb k (most_lines v)) (Decides-eqb k (most_lines v)) room.0 in
    let t = bind_ok later _ s room.1 in
    let steps = others t.0 t.1 (omega (arith, below)) in
    let means = step_means v n words (Derivation line) said in
    let is : ◌≡◌ {A = Steps} (line ∷ t.0.0, t.0.1) s = cc in
    subst (AreSteps v n k (words ∷ rest)) is (record {
      lines_are = (λ i. means.1 i ∷ steps.lines_are i);
      good = All-cons (IsLineOf v n) line t.0.0 means.0 steps.good;
      entry = steps.entry;
      few = let f = steps.few in omega (arith, f);
    })
one_step v n k words rest later (Some (Claim kind i)) s said few others e =
    let end = ok_where (is_nothing rest) (NotCert (k + 7)) ([], (kind, i)) s e in
    let means = step_means v n words (Claim kind i) said in
    subst (AreSteps v n k (words ∷ rest)) end.1 (record {
      lines_are = (λ j. means.1 j ∷ nothing_means rest end.0 j);
      good = All-nil (IsLineOf v n);
      entry = means.0;
      few = omega arith;
    })

-- steps that are read are good, and the lines are their own
pub steps_mean : (v n k : ℕ) (lines : TextLines) (s : Steps) → k ≤ most_lines v
    → steps_in v n k lines ≡ Ok s → AreSteps v n k lines s
steps_mean v n k [] s few e = cc
steps_mean v n k (words ∷ []) s few e = cc
steps_mean v n k (words ∷ next ∷ lines) s few e =
    one_step v n k words (next ∷ lines) (steps_in v n (suc k) (next ∷ lines))
    (statement_named v n words) s refl few
    (λ t f room. steps_mean v n (suc k) (next ∷ lines) t room f) e
