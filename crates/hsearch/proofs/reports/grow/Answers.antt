use Rattle.std.proofs.Common.{◌≡◌, ◌+◌, ◌∷◌, [], ◌++◌, false, length, length-append, ap, sym, subst}
use Rattle.std.proofs.Common.{◌∙◌}
use Rattle.hsearch.specs.Taken.{IsGrown}
use Rattle.hsearch.proofs.Steps.{marks_push}
use Rattle.hsearch.proofs.reports.grow.Goals as goal

pub marks-preserved : goal.marks-preserved
marks-preserved c =
    let e : c.push.new.self.items ≡ c.marks.marks.items ++ false ∷ []
    = c.in_ok-push.ensures.items in
    record {
      count = ap length e
          ∙ (length-append c.marks.marks.items (false ∷ []) ∙ ap (λ n. n + 1) c.marks.invariant.count);
      same = subst (λ v. IsGrown c.args.marks.now.items v) (sym e)
          (marks_push c.args.marks.now.items c.marks.marks.items c.marks.invariant.same);
    }
