-- The child that was kept is a node of the block, and its cell is empty.
use Rattle.std.proofs.Common.{◌≡◌, ◌+◌, ◌*◌, ◌∷◌, length, get_or, sym, ap, ◌∙◌, arith}
use Rattle.hex_cells.specs.Sets.{members}
use Rattle.hex_board.specs.Positions.{is_empty_at, placed}
use Rattle.tree_words.specs.Writing.{listed}
use Rattle.walker.specs.declared.machine.Walker.{Walker}
use Rattle.walker.specs.Machine.{cells_in, set_in, at_node, chosen}
use Rattle.walker.proofs.CellLaws.{count-listed, nth-cell}
use Rattle.walker.proofs.machine.Walker.choose.Goals as goal

pub nth-cell-requires : goal.nth-cell-requires
nth-cell-requires c =
    let w : Walker = c.args.self.now in
    let many : members c.cells-cells.result 121 ≡ length
    (listed w.shape.board.size c.cells-cells.result)
    = count-listed c.cells-cells.result w.shape.board.size c.cells-cells.ensures.size
    (c.cells-cells.ensures.within c.requires.size) in
    let all : length (listed w.shape.board.size c.cells-cells.result) ≡ length (cells_in w)
    = ap (λ s. length (listed w.shape.board.size s)) c.cells-cells.ensures.value in
    omega (arith, c.best-place.ensures, c.requires.best, many, all)

pub overflow_mul-self : goal.overflow_mul-self
overflow_mul-self c = omega (arith, c.requires.child, c.best-place.ensures)

pub overflow_add-self-2 : goal.overflow_add-self-2
overflow_add-self-2 c = omega (arith, c.requires.child, c.best-place.ensures)

pub stand-requires : goal.stand-requires
stand-requires c = omega (arith, c.requires.child, c.best-place.ensures)

pub place-requires : goal.place-requires
place-requires c =
    let w : Walker = c.args.self.now in
    let cell : get_or (cells_in w) w.scan.best 0 ≡ c.nth-cell.result
    = ap (λ k. get_or (cells_in w) k 0) (sym c.best-place.ensures)
    ∙ (ap (λ s. get_or (listed w.shape.board.size s) c.best-place.result 0) (sym c.cells-cells.ensures.value)
    ∙ nth-cell c.cells-cells.result w.shape.board.size c.nth-cell.result c.best-place.result
    (c.cells-cells.ensures.within c.requires.size) c.nth-cell.ensures.inside c.nth-cell.ensures.order) in
    ap (is_empty_at w.board) (sym cell) ∙ c.requires.empty

pub returns : goal.returns
unfolding chosen
returns c =
    let w : Walker = c.args.self.now in
    let cell : get_or (cells_in w) w.scan.best 0 ≡ c.nth-cell.result
    = ap (λ k. get_or (cells_in w) k 0) (sym c.best-place.ensures)
    ∙ (ap (λ s. get_or (listed w.shape.board.size s) c.best-place.result 0) (sym c.cells-cells.ensures.value)
    ∙ nth-cell c.cells-cells.result w.shape.board.size c.nth-cell.result c.best-place.result
    (c.cells-cells.ensures.within c.requires.size) c.nth-cell.ensures.inside c.nth-cell.ensures.order) in
    let way : c.push.new.self ≡ record { parent = w.node; block = w.start; cells = set_in w } ∷ w.way = c.push.ensures
    ∙ ap (λ s. record { parent = w.node; block = w.start; cells = s } ∷ w.way) c.cells-cells.ensures.value in
    let board : c.place.new.self ≡ placed w.board w.player (get_or (cells_in w) w.scan.best 0)
    = c.place.ensures ∙ ap (placed w.board w.player) (sym cell) in
    c.stand.ensures ∙ (λ i. at_node (record w {
      way = way i;
      node = w.start + 4 + 4 * c.best-place.ensures i;
      board = board i;
      player = c.other-self.ensures i;
      visits = c.visits-self.ensures i;
    }))
