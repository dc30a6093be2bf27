use Rattle.std.proofs.Common.{◌+◌, arith, get_or, subst, sym}
use Rattle.std.proofs.lemmas.Bool.{both_ways}
use Rattle.conn_store.specs.Stores.{StoreData}
use Rattle.hsearch.proofs.Steps.{AreThirds, number_grown, thirds_more, thirds_none, thirds_wider}
use Rattle.hsearch.proofs.combining.choose_at.Goals as goal
use Rattle.hsearch.proofs.combining.choose_at.Goals.{then-is_marked, else-is_marked}

pub thirds-init : goal.thirds-init
thirds-init c
    = record { grown = c.choose_two.ensures.extends; two = c.choose_two.ensures.chosen; threes = λ q l m. absurd (omega arith) }

pub choose_three-requires-clause-first : goal.choose_three-requires-clause-first
choose_three-requires-clause-first c = number_grown _ _ _ c.thirds.invariant.grown c.requires.number

pub choose_three-requires-clause-second : goal.choose_three-requires-clause-second
choose_three-requires-clause-second c
    = number_grown _ _ _ c.thirds.invariant.grown (c.requires.held c.args.place c.requires.place)

pub choose_three-requires-clause-third : goal.choose_three-requires-clause-third
choose_three-requires-clause-third c
    = number_grown _ _ _ c.thirds.invariant.grown (c.requires.held c.thirds.other (omega arith))

pub thirds-preserved : goal.thirds-preserved
thirds-preserved c = elim c.if-is_marked.branch [
  | then-is_marked w ↦ subst (λ (v : StoreData). AreThirds c.args.store.now v c.args.taken.now c.args.number (get_or c.args.held.now.at c.args.place 0)
      c.args.held.now (c.thirds.other + 1)) (sym w.store-is)
      (thirds_more c.args.store.now c.thirds.store w.choose_three.new.store c.args.taken.now c.args.number (get_or c.args.held.now.at c.args.place 0)
      c.args.held.now c.thirds.other c.thirds.invariant
      w.choose_three.ensures.extends c.requires.number
      (c.requires.held c.args.place c.requires.place)
      (λ q l. c.requires.held q (omega arith)) w.choose_three.ensures.chosen)
  | else-is_marked w ↦ subst (λ (v : StoreData). AreThirds c.args.store.now v c.args.taken.now c.args.number (get_or c.args.held.now.at c.args.place 0)
      c.args.held.now (c.thirds.other + 1)) (sym w.store-is)
      (thirds_none c.args.store.now c.thirds.store c.args.taken.now c.args.number (get_or c.args.held.now.at c.args.place 0) c.args.held.now c.thirds.other
      c.thirds.invariant
      (λ m. both_ways c.is_marked.result w.if-is_marked.false (c.is_marked.ensures.1 m)))
]

pub returns-then-choose_two-clause-threes : goal.returns-then-choose_two-clause-threes
returns-then-choose_two-clause-threes c =
    λ q l m. thirds_wider c.args.store.now c.choose_two.new.store c.args.number
    (get_or c.args.held.now.at c.args.place 0) c.choose_two.ensures.extends c.requires.number
    (c.requires.held c.args.place c.requires.place)
    (c.choose_two.ensures.applies c.if-choose_two.true) c.choose_two.ensures.chosen
    (get_or c.args.held.now.at q 0)

pub returns-clause-threes : goal.returns-clause-threes
returns-clause-threes c
    = λ q l m. c.thirds.invariant.threes q (omega (arith, c.thirds-test.false)) m
