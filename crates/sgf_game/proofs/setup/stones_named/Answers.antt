use Rattle.std.proofs.Common.{◌≡◌, ◌+◌, ◌<◌, true, false, Some, None, map, length, drop, ap, sym}
use Rattle.std.proofs.Common.{◌∙◌, arith}
use Rattle.std.specs.Str.{bytes_eq}
use Rattle.hex_cells.specs.Vertices.{vertex_cell}
use Rattle.sgf_game.specs.Values.{trimmed}
use Rattle.sgf_game.specs.Setup.{cells_named}
use Rattle.sgf_game.specs.Placing.{placed_on}
use Rattle.sgf_game.proofs.Placing.{named_here, named_not_here}
use Rattle.sgf_game.proofs.setup.stones_named.Goals.{then-is_named+in_ok-stones, else-is_named}
use Rattle.sgf_game.proofs.setup.stones_named.Goals as goal

pub returns-in_err-stones : goal.returns-in_err-stones
returns-in_err-stones c =
    let within : c.loop-prop.prop-index < length c.args.root.now.props = grind arith in
    let named : bytes_eq c.prop-item.result.name c.args.name.now ≡ true = grind arith in
    let none : placed_on c.args.taken c.loop-prop.stones
    (map (vertex_cell c.args.size) (map trimmed c.prop-item.result.values)) ≡ None =
    ap (λ vs. placed_on c.args.taken c.loop-prop.stones (map (vertex_cell c.args.size) (map trimmed vs))) (sym c.as_slice.ensures)
    ∙ sym c.in_err-stones.ensures in
    rw c.from_residual.ensures
    (sym (named_here c.args.size c.args.taken c.loop-prop.stones c.args.name.now c.args.root.now.props c.loop-prop.prop-index c.prop-item.result None within
    (grind arith) named none)
    ∙ c.loop-prop.invariant)

pub loop-prop-preserved : goal.loop-prop-preserved
loop-prop-preserved c =
    let within : c.loop-prop.prop-index < length c.args.root.now.props = grind arith in
    elim c.if-is_named.branch [
      | then-is_named+in_ok-stones w ↦ let named : bytes_eq c.prop-item.result.name c.args.name.now ≡ true = grind arith in
          let some : placed_on c.args.taken c.loop-prop.stones
          (map (vertex_cell c.args.size) (map trimmed c.prop-item.result.values)) ≡ Some w.in_ok-stones.stones =
          ap (λ vs. placed_on c.args.taken c.loop-prop.stones (map (vertex_cell c.args.size) (map trimmed vs))) (sym w.as_slice.ensures)
          ∙ sym w.in_ok-stones.ensures in
          ap (λ s. placed_on c.args.taken s (cells_named c.args.size c.args.name.now record {
            props = drop (c.loop-prop.prop-index
                + 1) c.args.root.now.props;
          })) w.stones-is
          ∙ sym (named_here c.args.size c.args.taken c.loop-prop.stones c.args.name.now c.args.root.now.props c.loop-prop.prop-index c.prop-item.result
          (Some w.in_ok-stones.stones) within (grind arith) named some) ∙ c.loop-prop.invariant
      | else-is_named w ↦ let other : bytes_eq c.prop-item.result.name c.args.name.now ≡ false
          = grind arith in
          ap (λ s. placed_on c.args.taken s (cells_named c.args.size c.args.name.now record {
            props = drop (c.loop-prop.prop-index
                + 1) c.args.root.now.props;
          })) w.stones-is
          ∙ sym (named_not_here c.args.size c.args.taken c.loop-prop.stones c.args.name.now c.args.root.now.props c.loop-prop.prop-index c.prop-item.result
          within (grind arith) other) ∙ c.loop-prop.invariant
    ]
