-- A tree whose area ends behind the written words fails at the same point as the whole tree.
use Rattle.std.proofs.Common.{◌≡◌, ℕ, ◌≤◌, List, length, ap, ◌∙◌, subst}
use Rattle.std.specs.Prelude.{min}
use Rattle.tree_words.specs.Settings.{Setting}
use Rattle.tree_words.specs.Words.{end_of, next_in}
use Rattle.tree_words.specs.Areas.{with_area, all_words, IsCut}
use Rattle.tree_words.proofs.Areas.CutAreas.{behind, exact_ahead, exact_to, grown_behind}
use Rattle.tree_words.proofs.Areas.CutAreas.{keeps_ahead, keeps_behind, linked_ahead, linked_behind}
use Rattle.tree_words.proofs.Areas.CutAreas.{recorded_ahead, recorded_to}
use Rattle.trace_audit.specs.Verdicts.{FailsFirst}
use Rattle.trace_audit.specs.declared.types.Flaw.{Flaw}
use Rattle.trace_audit.specs.declared.types.Flaw.TheVariants.{BadForm, Block, Record}
use Rattle.trace_audit.specs.declared.types.Flaw.TheVariants.{Count as BadCount, End, Growth}

-- the first point that fails of a cut tree is the first that fails of the tree that was told
module _ (s : Setting) (m : ℕ) (words : List ℕ) (long : length words ≡ end_of (with_area s m))
    (less : end_of (with_area s m) ≤ end_of s)
    (enough : min (next_in words) (end_of s) ≤ end_of (with_area s m)) where
  abbrev whole : List ℕ
  whole = all_words s words

  fails_ahead : (why : Flaw) → FailsFirst (with_area s m) words why → FailsFirst s whole why
  fails_ahead BadForm f = absurd f
  fails_ahead Block f = λ bs k. f bs (linked_behind s m words long less enough bs k)
  fails_ahead Record f
      = (f.0, linked_ahead s m words long less enough f.0 f.1, λ k. f.2 (recorded_to s s.knobs.words m whole words (behind s m words long less enough) f.0 k))
  fails_ahead BadCount f
      = (
        f.0,
        linked_ahead s m words long less enough f.0 f.1,
        recorded_ahead s m words long less enough f.0 f.2,
        λ k.
            f.3 (exact_to s s.knobs.words m whole words (behind s m words long less enough) f.0 k),
      )
  fails_ahead End f = (
    f.0,
    linked_ahead s m words long less enough f.0 f.1,
    recorded_ahead s m words long less enough f.0 f.2,
    exact_ahead s m words long less enough f.0 f.3,
    λ k. f.4 (keeps_behind s m words long less enough k),
  )
  fails_ahead Growth f = (
    f.0,
    linked_ahead s m words long less enough f.0 f.1,
    recorded_ahead s m words long less enough f.0 f.2,
    exact_ahead s m words long less enough f.0 f.3,
    keeps_ahead s m words long less enough f.4,
    λ k. f.5 (grown_behind s m words long less enough f.0 k),
  )

pub cut_fails : (s c : Setting) (words : List ℕ) → IsCut s words c → (why : Flaw)
    → FailsFirst c words why → FailsFirst s (all_words s words) why
cut_fails s c words k why f =
    let end : end_of c ≡ end_of (with_area s c.knobs.words) = ap end_of k.area in
    fails_ahead s c.knobs.words words (k.long ∙ end) (subst (λ (e : ℕ). e ≤ end_of s) end k.less)
    (subst (λ (e : ℕ). min (next_in words) (end_of s) ≤ e) end k.enough) why
    (subst (λ (t : Setting). FailsFirst t words why) k.area f)
