-- A schedule without a stray number.
use Rattle.std.proofs.Common.{◌≡◌, ℕ, ◌<◌, ◌≤◌, false, List, length, get_or, ltb, Some, None, sym}
use Rattle.std.proofs.Common.{◌∙◌, All, arith}
use Rattle.std.specs.List.{position_or_len}
use Rattle.std.proofs.lemmas.List.Sums.{fails_before_first}
use Rattle.tree_words.specs.Settings.{Setting}
use Rattle.sim_run.specs.Schedules.{is_stray, first_stray}
use Rattle.std.proofs.lemmas.Bool.{cond-true, false_from_ne_true, leb-false, ltb-false}
use Rattle.std.proofs.lemmas.Option.{none-some}

pub none-stray : (s : Setting) (schedule : List ℕ) → first_stray s schedule ≡ None
    → All (λ id. id < s.knobs.workers) schedule
none-stray s schedule e k d l =
    let n : ℕ = position_or_len (is_stray s) schedule in
    let far : ltb n (length schedule) ≡ false
    = false_from_ne_true (ltb n (length schedule))
    (λ t. none-some n (sym e ∙ cond-true (ltb n (length schedule)) (Some n) None t)) in
    let past : length schedule ≤ n = ltb-false n (length schedule) far in
    leb-false s.knobs.workers (get_or schedule k d)
    (fails_before_first (is_stray s) schedule k d (omega (arith, past, l)))
