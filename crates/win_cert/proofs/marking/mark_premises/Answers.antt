-- The entries that a marked one names are marked with it.
use Rattle.std.proofs.Common.{◌≡◌, ℕ, ◌+◌, ◌-◌, ◌<◌, ◌≤◌, All, get_or, length, true, sym}
use Rattle.std.proofs.Common.{◌∙◌, subst, arith}
use Rattle.std.proofs.lemmas.List.Elements.{All-weaker}
use Rattle.std.proofs.lemmas.Option.{slice_get-get_or}
use Rattle.win_cert.specs.Cuts.{premises}
use Rattle.win_cert.specs.Cutting.{IsClosedFrom, IsMarkedBy, is_marked}
use Rattle.conn_store.specs.declared.entries.Entry.{Entry}
use Rattle.win_cert.proofs.CutMarks.{closed_more, marked_at, none_closed}
use Rattle.win_cert.proofs.CutMarks.{read_at}
use Rattle.win_cert.proofs.marking.mark_premises.Goals as goal

pub entries-init : goal.entries-init
entries-init c = record {
  number = c.requires.number;
  left = omega arith;
  kept = λ i h. h;
  closed = none_closed c.args.entries.now c.args.marks.now.items;
  least = λ s p f. f;
}

pub mark-requires : goal.mark-requires
mark-requires c =
    let n : ℕ = c.entries.left - 1 in
    let entries = c.args.entries.now in
    let a = c.index-entries-left.result in
    let long : length c.entries.marks.items ≡ length entries = c.entries.invariant.number in
    let left : c.entries.left ≤ length entries = c.entries.invariant.left in
    let e = get_or entries n a in
    All-weaker (λ j. j < n) (λ j. j < length c.entries.marks.items)
    (λ j l. omega (arith, l, long, left)) (premises e.cause)
    (c.requires.earlier n e (slice_get-get_or entries n a (omega arith)))

pub entries-preserved-then-index : goal.entries-preserved-then-index
entries-preserved-then-index c =
    let n : ℕ = c.entries.left - 1 in
    let entries = c.args.entries.now in
    let a = c.index-entries-left.result in
    let up : c.entries.left ≡ n + 1 = omega arith in
    let l : c.entries.left ≤ length entries = c.entries.invariant.left in
    let long : length c.entries.marks.items ≡ length entries = c.entries.invariant.number in
    let known : is_marked c.entries.marks.items n ≡ true
    = marked_at c.entries.marks.items n c.index.result.now
    (omega arith) c.index.ensures c.if-index.true in
    record {
      number = c.mark.ensures.number ∙ c.entries.invariant.number;
      left = omega arith;
      kept = λ i h. c.mark.ensures.kept i (c.entries.invariant.kept i h);
      closed = closed_more entries c.entries.marks.items c.mark.new.marks.items n a c.requires.earlier
          (subst (IsClosedFrom entries c.entries.marks.items) up c.entries.invariant.closed)
          (read_at entries n a (omega arith) c.index-entries-left.is)
          (subst (λ (v : Entry). IsMarkedBy c.entries.marks.items (premises v.cause) c.mark.new.marks.items) (sym c.index-entries-left.is) c.mark.ensures);
      least = λ s p f. c.mark.ensures.least s
          (subst (λ (v : Entry). All (λ j. s j ≡ true) (premises v.cause)) c.index-entries-left.is
          (p n a (c.entries.invariant.least s p f n known) (read_at entries n a (omega arith) c.index-entries-left.is)))
          (c.entries.invariant.least s p f);
    }
