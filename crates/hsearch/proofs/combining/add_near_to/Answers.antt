use Rattle.std.proofs.Common.{◌+◌, sym, subst, arith}
use Rattle.conn_store.specs.Stores.{StoreData}
use Rattle.hsearch.proofs.Growth.{IsPut, grown_none}
use Rattle.hsearch.proofs.Steps.{IsNearTo, near_more, near_none, near_some}
use Rattle.hsearch.proofs.combining.add_near_to.Goals as goal
use Rattle.hsearch.proofs.combining.add_near_to.Goals.{in-Some, in-None}

pub firsts-init : goal.firsts-init
firsts-init c
    = record { grown = grown_none c.args.store.now; bare = c.requires.bare; before = c.requires.before; done = λ z l r. absurd (omega arith) }

pub firsts-preserved : goal.firsts-preserved
firsts-preserved c = elim c.match-by_adjacent.branch [
  | in-Some w ↦
      let p : IsPut c.firsts.store w.add.new.self w.in-Some.entry w.add.result =
      record { dominated = w.add.ensures.dominated.0; full = λ e. (w.add.ensures.full.0 e).1; after = w.add.ensures.after } in
      subst (λ (v : StoreData). IsNearTo c.args.store.now v (c.firsts.x + 1) c.args.y)
      (sym w.store-is)
      (near_some c.args.store.now c.firsts.store w.add.new.self c.firsts.x c.args.y w.in-Some.entry w.add.result c.firsts.invariant w.in-Some.ensures.entry p)
  | in-None w ↦ subst (λ (v : StoreData). IsNearTo c.args.store.now v (c.firsts.x + 1) c.args.y)
      (sym w.store-is)
      (near_none c.args.store.now c.firsts.store c.firsts.x c.args.y c.firsts.invariant w.in-None.ensures.none)
]

pub returns-clause-near : goal.returns-clause-near
returns-clause-near c = near_more c.firsts.store c.args.y c.firsts.invariant.before
    (λ x l r. c.firsts.invariant.done x (omega arith) r)
