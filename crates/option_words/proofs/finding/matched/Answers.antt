use Rattle.std.proofs.Common.{◌≡◌, ◌≢◌, ◌∙◌, ap, refl, sym, subst, List, [], ◌∷◌, map, inl, inr, ℕ}
use Rattle.std.proofs.lemmas.Result.{IfOk-weaker}
use Rattle.clap.specs.Kinds.{HasKind, Kinds}
use Rattle.clap.specs.declared.error.Error.{Error}
use Rattle.clap.specs.declared.error.kind.ErrorKind.TheVariants as kind
use Rattle.clap.specs.Words.{App, app_of, fault_of, kind_of, matches_of}
use Rattle.option_words.proofs.finding.matched.Goals as goal

same : (xs : List (List ℕ)) → map (λ w. w) xs ≡ xs
same [] = refl
same (x ∷ xs) = ap (λ ys. x ∷ ys) (same xs)

-- an error that is no want of memory shows a fault
fault_shown : (ks : Kinds) (e : Error) → HasKind ks e → kind_of e ≢ kind.OutOfMemory → ks ≢ []
fault_shown [] e (inl h) other = absurd (other h)
fault_shown [] e (inr h) other = absurd h
fault_shown (k ∷ ks) e h other = λ none. cc

pub returns-in-Ok : goal.returns-in-Ok
returns-in-Ok c =
    let app : App = app_of c.args.command in
    λ form reads. (
      sym (ap (fault_of app) (same c.args.words.now)) ∙ c.in-Ok.ensures.kinds reads.free,
      (c.in-Ok.ensures.matches reads.simple).0 ∙ ap (matches_of app) (same c.args.words.now),
    )

pub returns-in-Err : goal.returns-in-Err
returns-in-Err c =
    let app : App = app_of c.args.command in
    IfOk-weaker c.none_unless_full.result _ _ (λ r h form reads.
    let has = subst (λ (ws : List (List ℕ)). HasKind (fault_of app ws) c.in-Err.error)
    (same c.args.words.now) (c.in-Err.ensures.kinds reads.free) in
    rw h.0 (fault_shown _ c.in-Err.error has h.1)) c.none_unless_full.ensures
