use Rattle.std.proofs.Common.{◌∙◌}
use Rattle.tree_words.proofs.Boards.EmptyLaws.{count_empties}
use Rattle.seq_search.proofs.expanding.empty_count.Goals as goal

pub returns-clause-value : goal.returns-clause-value
returns-clause-value c = c.count.ensures.value ∙ count_empties c.empties.result c.args.board.now
    c.keeps.ensures.range.1 c.empties.ensures
