use Rattle.std.proofs.Common.{◌≡◌, ◌+◌, ◌-◌, ◌*◌, ◌/◌, ◌≤◌}
use Rattle.uct_table.specs.Choice.{choice_of}
use Rattle.tree_words.specs.Sequence.{children_in}
use Rattle.tree_words.specs.Words.{nodes_in}
use Rattle.uct_table.specs.declared.scoring.TheConstants.{MOST_BAR}
use Rattle.uct_table.proofs.Choices.{chosen_from}
use Rattle.seq_search.proofs.choosing.choose.Given as goal

abbrev pub invariant-children : goal.invariant-children
invariant-children l = record {
  chosen : choice_of l.visits l.weight (children_in l.words l.first (nodes_in l.words l.block))
      ≡ chosen_from l.visits l.weight ((l.at - l.first) / 4) ((l.best - l.first) / 4) l.most
      (children_in l.words l.at ((l.past - l.at) / 4));
  on : l.at ≡ l.first + 4 * ((l.at - l.first) / 4);
  left : l.past ≡ l.at + 4 * ((l.past - l.at) / 4);
  kept : l.first ≤ l.best;
  below : l.bar ≤ l.most;
  fits : l.bar ≤ MOST_BAR;
}

abbrev pub decreases-children : goal.decreases-children
decreases-children l = l.past - l.at
