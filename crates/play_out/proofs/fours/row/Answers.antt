use Rattle.std.proofs.Common.{◌∙◌, ap, arith, get_or, []}
use Rattle.std.proofs.lemmas.List.FromFn.{get_or-map-range_with_len}
use Rattle.play_out.specs.Fours.{padded_bits}
use Rattle.play_out.proofs.fours.row.Goals as goal

pub returns : goal.returns
returns c =
    ap (λ rows. get_or rows c.args.four []) c.rows.ensures
    ∙ get_or-map-range_with_len padded_bits 0 16 c.args.four c.args.four [] c.requires (omega arith)
