use Rattle.tree_words.proofs.NewBlocks.OpeningTold.{opening-are, opening-one, opening-root}
use Rattle.tree_words.proofs.laws.opening_words_are_told.Goals as goal

pub returns-clause-are : goal.returns-clause-are
returns-clause-are c = opening-are

pub returns-clause-one : goal.returns-clause-one
returns-clause-one c = opening-one

pub returns-clause-root : goal.returns-clause-root
returns-clause-root c = opening-root
