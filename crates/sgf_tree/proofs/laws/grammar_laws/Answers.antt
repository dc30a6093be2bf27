use Rattle.sgf_tree.proofs.Verdicts.{one_collection}
use Rattle.sgf_tree.proofs.Printed.{text_printed, text_has}
use Rattle.sgf_tree.proofs.laws.grammar_laws.Goals as goal

pub returns : goal.returns
returns c = record { one = one_collection; printed = text_printed; printable = text_has }
