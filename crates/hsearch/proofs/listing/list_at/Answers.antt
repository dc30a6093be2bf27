use Rattle.std.proofs.Common.{sym}
use Rattle.hsearch.proofs.TakenLists.{listed_at}
use Rattle.hsearch.proofs.listing.list_at.Goals as goal

pub returns : goal.returns
returns c =
    listed_at (λ q. q.items) c.args.lists.now.items c.args.element c.args.number c.push.new.self c.index_mut.result.now c.requires
    (sym c.index_mut.ensures.value) c.in_ok-push.ensures.items
