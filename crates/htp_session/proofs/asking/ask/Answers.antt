-- What the engine answered, told of the devices.
use Rattle.std.proofs.Common.{refl}
use Rattle.htp_session.proofs.Speaking.{asked, asked_counts}
use Rattle.htp_session.proofs.asking.ask.Goals as goal

pub returns-clause-asks : goal.returns-clause-asks
returns-clause-asks g c =
    let old = record c.args.devices.now {
      shelf = g.D.Shelf.Shelf.told c.devices.inside.shelf.now;
      turns = g.D.Archive.Archive.told c.devices.inside.archive.now;
    } in
    let new = record c.args.devices.now {
      shelf = g.D.Shelf.Shelf.told c.obey_with.new.shelf;
      turns = g.D.Archive.Archive.told c.obey_with.new.archive;
    } in
    rw (← c.devices.view_is)
    (asked old new _ _ c.args.question.now c.as_slice.result.now c.obey_with.result c.as_slice.ensures
    c.obey_with.ensures.reply c.obey_with.ensures.in_vain c.obey_with.ensures.wants_turn c.obey_with.ensures.no_fetch)

pub returns-clause-counts : goal.returns-clause-counts
returns-clause-counts g c =
    rw (← c.devices.view_is)
    (asked_counts _ _ c.obey_with.result refl refl c.obey_with.ensures.archive_fault refl)
