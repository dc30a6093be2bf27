use Rattle.hsearch.proofs.TakenLists.{enlisted_both}
use Rattle.hsearch.proofs.listing.enlist.Goals as goal

pub returns-in_ok-list_at-in-Full-2 : goal.returns-in_ok-list_at-in-Full-2
returns-in_ok-list_at-in-Full-2 c =
    enlisted_both
    (λ q. q.items) c.args.lists.now.items c.list_at.new.lists.items c.list_at-in-Full.new.lists.items c.args.number c.args.entry.now
    c.in_ok-list_at-in-Full.ensures
    c.in_ok-list_at-in-Full-2.ensures c.requires.first c.requires.second
