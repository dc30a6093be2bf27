-- What stands after some lines of a script.
use Rattle.std.proofs.Common.{◌≡◌, drop}
use Rattle.tree_rule.specs.Seats.{IsOf}
use Rattle.search_tests.specs.Scripts.{both_views, after_script, AllFit}
use Rattle.search_tests.proofs.of_tree_rule.scripts.follow.Given as goal

abbrev pub invariant-loop-line : goal.invariant-loop-line
invariant-loop-line l = record {
  own : IsOf l.tree l.a × IsOf l.tree l.b;
  owed : (l.a.owed ≡ l.fn.a.owed) × (l.b.owed ≡ l.fn.b.owed);
  fits : AllFit (both_views l.a l.b) (drop l.line-index l.lines);
  views : after_script (both_views l.a l.b) (drop l.line-index l.lines) ≡ after_script (both_views l.fn.a l.fn.b) l.lines;
}
