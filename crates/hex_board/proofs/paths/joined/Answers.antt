use Rattle.std.proofs.Common.{◌↔◌, IsTrue}
use Rattle.hex_board.specs.Joined.{Joined}
use Rattle.hex_board.proofs.Reach.{meets_joined}
use Rattle.hex_board.proofs.Search.{same_joined}
use Rattle.hex_board.proofs.paths.joined.Goals as goal

pub returns : goal.returns
returns c =
    let j : IsTrue c.meets.result ↔ Joined c.args.size c.args.colour c.args.stones =
    meets_joined c.args.size c.args.colour c.args.stones c.edge.result c.edge-2.result c.flood-reach.result c.meets.result
    c.edge.ensures c.edge-2.ensures c.flood-reach.ensures c.meets.ensures in
    record { path = j; value = same_joined c.args.size c.args.colour c.args.stones c.meets.result j }
