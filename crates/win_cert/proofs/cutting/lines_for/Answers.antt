-- One entry more: its line, if it is marked.
use Rattle.std.proofs.Common.{◌≡◌, ℕ, ◌+◌, ◌<◌, ◌≤◌, [], ◌∷◌, ◌++◌, length, take, vec_len, sym, ◌∙◌}
use Rattle.std.proofs.Common.{ap, subst, arith}
use Rattle.std.proofs.lemmas.List.Elements.{All-weaker}
use Rattle.conn_store.specs.Entries.{IsValid}
use Rattle.conn_store.specs.Rules.{FollowsFrom}
use Rattle.conn_store.proofs.RuleEntries.{stands}
use Rattle.win_cert.specs.Cuts.{premises}
use Rattle.win_cert.specs.Cutting.{AreLinesFor, IsLineFor}
use Rattle.conn_store.specs.declared.entries.TheConstants.{MOST_ENTRIES}
use Rattle.win_cert.proofs.CutDerivations.{longer, name_earlier, some_at}
use Rattle.win_cert.proofs.CutWhole.{none_more, one_more}
use Rattle.win_cert.proofs.cutting.lines_for.Goals as goal
use Rattle.win_cert.proofs.cutting.lines_for.Goals.{then-marks-number+in_ok-push-2}
use Rattle.win_cert.proofs.cutting.lines_for.Goals.{else-marks-number}

pub line_of-requires-clause-valid : goal.line_of-requires-clause-valid
line_of-requires-clause-valid c =
    let all : length c.entries-entries.result.now ≡ length c.args.store.now.entries
    = ap length c.entries-entries.ensures.value in
    let a = c.index-entries-number.result in
    let at = stands c.args.store.now _ c.entries.number a c.entries-entries.ensures.value
    (omega arith) c.index-entries-number.is in
    subst (λ e. IsValid e a) (sym c.elements.ensures)
    (c.entries-entries.ensures.sound.valid c.entries.number a at)

pub line_of-requires-clause-follows : goal.line_of-requires-clause-follows
line_of-requires-clause-follows c =
    let all : length c.entries-entries.result.now ≡ length c.args.store.now.entries
    = ap length c.entries-entries.ensures.value in
    let a = c.index-entries-number.result in
    let at = stands c.args.store.now _ c.entries.number a c.entries-entries.ensures.value
    (omega arith) c.index-entries-number.is in (
      take c.entries.number c.args.store.now.entries,
      subst (λ e. FollowsFrom e (take c.entries.number c.args.store.now.entries) a)
          (sym c.elements.ensures) (c.entries-entries.ensures.sound.follows c.entries.number a at),
    )

pub line_of-requires-clause-premises : goal.line_of-requires-clause-premises
line_of-requires-clause-premises c =
    let all : length c.entries-entries.result.now ≡ length c.args.store.now.entries
    = ap length c.entries-entries.ensures.value in
    let a = c.index-entries-number.result in
    let n : ℕ = c.entries.number in
    let at = stands c.args.store.now _ n a c.entries-entries.ensures.value
    (omega arith) c.index-entries-number.is in
    let number : length c.entries.renamed.items ≡ n = c.entries.invariant.lines.number in
    let long : length c.deref.result.now ≡ length c.entries.renamed.items + 1
    = ap length (c.deref.ensures.value ∙ c.in_ok-push.ensures.items)
    ∙ longer c.entries.renamed.items _ in
    All-weaker (λ j. j < n) (λ j. j < length c.deref.result.now) (λ j l. omega arith)
    (premises a.cause) (name_earlier c.args.store.now c.entries-entries.ensures.sound n a at)

pub entries-preserved : goal.entries-preserved
entries-preserved c =
    let all : length c.entries-entries.result.now ≡ length c.args.store.now.entries
    = ap length c.entries-entries.ensures.value in
    let d = c.args.store.now in
    let n : ℕ = c.entries.number in
    let marks = c.args.marks.now in
    let now = c.entries.lines.items in
    let renamed = c.entries.renamed.items in
    let long : vec_len c.entries.lines ≡ length now = omega (arith, c.entries.lines.ok) in
    let more : c.push.new.self.items ≡ renamed ++ length now ∷ [] = c.in_ok-push.ensures.items
    ∙ ap (λ v. renamed ++ v ∷ []) (c.len.ensures ∙ long) in
    let next = some_at d.entries n (omega arith) in
    elim c.if-marks-number.branch [
      | then-marks-number+in_ok-push-2 w ↦
          let a = w.index-entries-number.result in
          let line = w.line_of.result in
          let at = stands d _ n a c.entries-entries.ensures.value
          (omega arith) w.index-entries-number.is in
          let few = subst (λ es. length es ≤ MOST_ENTRIES) c.entries-entries.ensures.value c.entries-entries.ensures.few in
          let form = subst (λ r. IsLineFor d.elements r a a.cause line) (w.deref.ensures.value ∙ more)
          (subst (λ e. IsLineFor e w.deref.result.now a a.cause line) w.elements.ensures w.line_of.ensures) in
          record {
            within = omega arith;
            lines = subst (λ v. AreLinesFor d marks (n + 1) v.items c.push.new.self.items)
                (sym w.lines-is)
                (subst (λ v. AreLinesFor d marks (n + 1) v c.push.new.self.items) (sym w.in_ok-push-2.ensures.items)
                (subst (AreLinesFor d marks (n + 1) (now ++ line ∷ [])) (sym more)
                (one_more d marks n now renamed a line c.entries.invariant.lines
                c.entries-entries.ensures.sound few c.requires.closed at w.if-marks-number.true form)));
          }
      | else-marks-number w ↦ record {
        within = omega arith;
        lines = subst (λ v. AreLinesFor d marks (n + 1) v.items c.push.new.self.items) (sym w.lines-is)
            (subst (AreLinesFor d marks (n + 1) now) (sym more)
            (none_more d marks n now renamed next.0 c.entries.invariant.lines next.1 w.if-marks-number.false));
      }
    ]
