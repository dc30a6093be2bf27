-- What is marked first is in each set that has these entries.
use Rattle.std.proofs.Common.{◌≡◌, length, true}
use Rattle.std.proofs.lemmas.List.Elements.{All-weaker}
use Rattle.win_cert.specs.Cutting.{is_marked}
use Rattle.win_cert.proofs.CutMarks.{none_inside}
use Rattle.win_cert.proofs.marking.marked.Goals as goal

pub returns : goal.returns
returns c =
    let made = c.in_ok-marks.ensures.items_if_clones_equal (λ y h. h) in
    let first = c.mark_all.ensures in
    let all = c.mark_premises.ensures in
    record {
      number = all.number;
      asked = All-weaker (λ i. is_marked c.mark_all.new.marks.items i ≡ true)
          (λ i. is_marked c.mark_premises.new.marks.items i ≡ true) all.kept c.args.numbers.now first.more;
      closed = all.closed;
      least = λ s f h. all.least s h
          (first.least s f (none_inside c.in_ok-marks.marks.items (length c.args.entries.now) s made));
    }
