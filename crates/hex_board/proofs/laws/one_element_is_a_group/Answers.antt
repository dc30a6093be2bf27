use Rattle.hex_board.proofs.GroupLaws.{one_element, tied_element, linked_element}
use Rattle.hex_board.proofs.laws.one_element_is_a_group.Goals as goal

pub returns-clause-together : goal.returns-clause-together
returns-clause-together c = λ e x a b on h i. one_element e x a b on h i

pub returns-clause-tied : goal.returns-clause-tied
returns-clause-tied c = tied_element

pub returns-clause-linked : goal.returns-clause-linked
returns-clause-linked c = linked_element
