use Rattle.std.proofs.Common.{◌≡◌, ℕ, ◌+◌, ◌*◌, ◌/◌, ◌<◌, true, false, get_or, refl, sym, ap, ◌∙◌}
use Rattle.std.proofs.Common.{arith}
use Rattle.hex_board.proofs.Placed.{placed_size}
use Rattle.turn_modes.specs.Positions.{board_on, is_open}
use Rattle.turn_modes.proofs.Orders.{first_board, next_empty, next_board, next_mover, none_joined}
use Rattle.turn_modes.proofs.Orders.{open_so_far, all_placed}
use Rattle.turn_modes.proofs.positions.place_stones.Goals as goal
use Rattle.turn_modes.proofs.positions.place_stones.Goals.{else-stones-test}
use Rattle.turn_modes.proofs.positions.place_stones.Goals.{then-stones-test+then-not-is_open}

pub stones-init : goal.stones-init
stones-init c = record {
  within = omega arith;
  size = ap (λ p. p.size) c.empty-board.ensures.value;
  board = first_board c.args.size c.args.cells.now c.empty-board.result
      c.empty-board.ensures.value;
  colour = refl;
  nobody = c.empty-board.ensures.nobody;
  open_before = λ m l. absurd (omega arith);
}

pub bounds-cells-stones : goal.bounds-cells-stones
bounds-cells-stones c = let many = c.requires.many in omega arith

pub place-requires : goal.place-requires
place-requires c =
    let many = c.requires.many in
    next_empty c.args.size c.stones.stones c.index-cells-stones.result c.index-cells-stones.result
    c.args.cells.now c.stones.board c.requires.once
    (omega arith) c.index-cells-stones.is c.stones.invariant.board

pub stones-preserved : goal.stones-preserved
stones-preserved c =
    let many = c.requires.many in
    let board : c.place.new.self ≡ board_on c.args.size c.args.cells.now (c.stones.stones + 1)
    = next_board c.args.size c.stones.stones c.index-cells-stones.result c.args.cells.now
    c.stones.board c.place.new.self c.stones.colour (omega arith) c.index-cells-stones.is
    c.stones.invariant.board c.stones.invariant.colour c.place.ensures in
    let here : is_open c.place.new.self ≡ true = sym c.is_open.ensures ∙ c.if-not-is_open.false in
    record {
      within = omega arith;
      size = ap (λ p. p.size) c.place.ensures
          ∙ placed_size c.stones.board c.stones.colour c.index-cells-stones.result
          ∙ c.stones.invariant.size;
      board = board;
      colour = next_mover c.stones.stones c.stones.colour c.other-colour.result
          c.stones.invariant.colour c.other-colour.ensures;
      nobody = none_joined c.place.new.self here;
      open_before = open_so_far c.args.size c.stones.stones c.args.cells.now c.place.new.self
          c.stones.invariant.open_before board here;
    }

-- if fewer than the most are placed, the next one would join its player
stops : (c : goal.Left-stones) → c.stones.stones < c.args.size * c.args.size / 3
    → is_open (board_on c.args.size c.args.cells.now (c.stones.stones + 1)) ≡ false
stops c l =
    let many = c.requires.many in
    let most = c.cells-most.ensures.value in
    elim c.stones-test.branch [
      | else-stones-test w ↦ let full = w.stones-test.false in absurd (omega arith)
      | then-stones-test+then-not-is_open w ↦
          let board : w.place.new.self ≡ board_on c.args.size c.args.cells.now (c.stones.stones + 1)
          = next_board c.args.size c.stones.stones w.index-cells-stones.result c.args.cells.now
          c.stones.board w.place.new.self c.stones.colour (omega arith) w.index-cells-stones.is
          c.stones.invariant.board c.stones.invariant.colour w.place.ensures in
          ap is_open (sym board) ∙ sym w.is_open.ensures ∙ w.if-not-is_open.true
    ]

pub returns-clause-placed : goal.returns-clause-placed
returns-clause-placed c = record {
  stones = all_placed c.args.size c.stones.stones c.args.cells.now
      (let most = c.cells-most.ensures.value in omega arith) c.stones.invariant.open_before
      (stops c);
  board = c.stones.invariant.board;
  colour = c.stones.invariant.colour;
}

pub returns-clause-room : goal.returns-clause-room
returns-clause-room c =
    let many = c.requires.many in
    let most = c.cells-most.ensures in
    let x : ℕ = get_or c.args.cells.now c.stones.stones 0 in (
      x,
      next_empty c.args.size c.stones.stones x 0 c.args.cells.now c.stones.board c.requires.once
          (omega arith) refl c.stones.invariant.board,
    )
