use Rattle.std.proofs.Common.{◌≡◌, map, sym, ap, ◌∙◌, subst, arith}
use Rattle.std.specs.List.{range_with_len}
use Rattle.tree_words.specs.Roots.{row_at, rows_of, root_count, Rise}
use Rattle.tree_words.proofs.Boards.Bests.{one_row_more, rows_rise}
use Rattle.tree_words.proofs.roots.report.Goals as goal

pub loop-place-preserved : goal.loop-place-preserved
loop-place-preserved c
    = one_row_more
    (row_at c.args.closed.now.shape c.args.closed.now.words) c.loop-place.place c.loop-place.rows.items _ c.row.result c.loop-place.invariant c.row.ensures
    c.in-Ok-push.ensures.items

pub returns-clause-rising : goal.returns-clause-rising
returns-clause-rising c =
    let n : c.loop-place.place ≡ root_count c.args.closed.now.shape c.args.closed.now.words
    = omega (arith, c.root_count-count.ensures.value, c.loop-place.auto.place-end, c.loop-place-test.false) in
    let all : c.loop-place.rows.items ≡ rows_of c.args.closed.now.shape c.args.closed.now.words
    = c.loop-place.invariant
    ∙ ap (λ m. map (row_at c.args.closed.now.shape c.args.closed.now.words) (range_with_len 0 m)) n in
    subst Rise (sym all) (rows_rise _ _ c.root_count-count.ensures.root)
