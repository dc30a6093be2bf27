use Rattle.std.proofs.Common.{◌+◌, arith, subst, sym}
use Rattle.std.proofs.lemmas.Bool.{both_ways}
use Rattle.conn_store.specs.Stores.{StoreData}
use Rattle.hsearch.specs.Taken.{Extends}
use Rattle.hsearch.proofs.Growth.{grown_none, grown_on}
use Rattle.hsearch.proofs.Steps.{AreChosen, chosen_first, chosen_more, chosen_none, chosen_three}
use Rattle.hsearch.proofs.Steps.{chosen_two, number_grown, within_grown}
use Rattle.hsearch.proofs.combining.choose.Goals as goal
use Rattle.hsearch.proofs.combining.choose.Goals.{then-is_marked, else-is_marked}

pub seconds-init : goal.seconds-init
seconds-init c
    = record { grown = grown_none c.args.store.now; chosen = chosen_first c.args.store.now c.args.taken.now c.args.number c.held-held.result }

pub choose_at-requires-clause-number : goal.choose_at-requires-clause-number
choose_at-requires-clause-number c = number_grown _ _ _ c.seconds.invariant.grown c.requires.number

pub choose_at-requires-clause-held : goal.choose_at-requires-clause-held
choose_at-requires-clause-held c
    = λ p l. within_grown _ _ _ _ _ c.held-held.result p c.held-held.ensures.numbers c.seconds.invariant.grown l

pub seconds-preserved : goal.seconds-preserved
seconds-preserved c = elim c.if-is_marked.branch [
  | then-is_marked w ↦ record {
    grown = subst (λ (v : StoreData). Extends c.args.store.now v) (sym w.store-is)
        (grown_on _ _ _ c.seconds.invariant.grown w.choose_at.ensures.extends);
    chosen = subst (λ (v : StoreData). AreChosen v c.args.taken.now c.args.number c.held-held.result (c.seconds.place + 1)) (sym w.store-is)
        (chosen_more c.seconds.store w.choose_at.new.store c.args.taken.now c.args.number c.held-held.result c.seconds.place c.seconds.invariant.chosen
        w.choose_at.ensures.extends
        (number_grown _ _ _ c.seconds.invariant.grown c.requires.number)
        (λ p l. within_grown _ _ _ _ _ c.held-held.result p c.held-held.ensures.numbers c.seconds.invariant.grown l) (omega arith) w.choose_at.ensures.two
        w.choose_at.ensures.threes);
  }
  | else-is_marked w ↦ record {
    grown = subst (λ (v : StoreData). Extends c.args.store.now v)
        (sym w.store-is) c.seconds.invariant.grown;
    chosen = subst (λ (v : StoreData). AreChosen v c.args.taken.now c.args.number c.held-held.result (c.seconds.place + 1)) (sym w.store-is)
        (chosen_none c.seconds.store c.args.taken.now c.args.number c.held-held.result c.seconds.place c.seconds.invariant.chosen
        (λ m. both_ways c.is_marked.result w.if-is_marked.false (c.is_marked.ensures.1 m)));
  }
]

pub returns-clause-twos : goal.returns-clause-twos
returns-clause-twos c =
    let done : AreChosen c.seconds.store c.args.taken.now c.args.number c.held-held.result c.held-held.result.count =
    record {
      twos = λ p l m. c.seconds.invariant.chosen.twos p (omega arith) m;
      threes =
          λ p q l m i j. c.seconds.invariant.chosen.threes p q (omega arith) m i j;
    } in
    chosen_two c.args.store.now c.seconds.store c.args.taken.now c.args.number c.args.x c.args.y c.held-held.result c.held-held.ensures.numbers
    c.seconds.invariant.grown c.requires.number c.requires.pair done

pub returns-clause-threes : goal.returns-clause-threes
returns-clause-threes c =
    let done : AreChosen c.seconds.store c.args.taken.now c.args.number c.held-held.result c.held-held.result.count =
    record {
      twos = λ p l m. c.seconds.invariant.chosen.twos p (omega arith) m;
      threes =
          λ p q l m i j. c.seconds.invariant.chosen.threes p q (omega arith) m i j;
    } in
    chosen_three c.args.store.now c.seconds.store c.args.taken.now c.args.number c.args.x c.args.y c.held-held.result c.held-held.ensures.numbers
    c.seconds.invariant.grown c.requires.number c.requires.pair done
