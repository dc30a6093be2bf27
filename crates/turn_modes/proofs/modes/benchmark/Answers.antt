-- The turn of mode bench, and its text.
use Rattle.std.proofs.Common.{refl}
use Rattle.turn_modes.proofs.TextLaws.{bench_size, bench_turn, benchmark_says}
use Rattle.turn_modes.proofs.modes.benchmark.Goals as goal

pub returns : goal.returns
returns g c =
    let o = c.args.options.now in
    let p = c.bench_position-position.result in
    let is = c.bench_position-position.ensures.is in
    let size = bench_size o p is c.bench_position-position.ensures.size in
    let turned = bench_turn o p c.in_ok-turn.turn is c.in_ok-turn.ensures in
    let text = c.in_ok-text.text.items in
    benchmark_says o c.in_ok-turn.turn p.stones text text turned is.stones size refl
    c.in_ok-text.ensures
