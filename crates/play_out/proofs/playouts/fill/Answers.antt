-- The other player has each cell that the player to move has not.
use Rattle.std.proofs.Common.{◌≡◌, ◌∙◌, subst, sym, true}
use Rattle.hex_cells.specs.Sets.{has}
use Rattle.hex_board.specs.Positions.{stones_of}
use Rattle.play_out.proofs.Filling.{are_filled, black_filled, white_filled, own_within}
use Rattle.play_out.proofs.Filling.{filled_keeps}
use Rattle.play_out.proofs.playouts.fill.Goals as goal

pub of-requires-clause-black_on : goal.of-requires-clause-black_on
of-requires-clause-black_on c
    = own_within c.args.board.now c.args.to_move c.args.seed c.args.k c.movers_stones-own.result c.size-size.result c.stones-before.result
    c.movers_stones-own.ensures.empties
    c.size-size.ensures.value c.stones-before.ensures.value c.stones-before.ensures.on_board c.movers_stones-own.ensures.value

pub of-requires-in-White-clause-white_on : goal.of-requires-in-White-clause-white_on
of-requires-in-White-clause-white_on c
    = own_within c.args.board.now c.args.to_move c.args.seed c.args.k c.movers_stones-own.result c.size-size.result c.stones-before.result
    c.movers_stones-own.ensures.empties
    c.size-size.ensures.value c.stones-before.ensures.value c.stones-before.ensures.on_board c.movers_stones-own.ensures.value

pub returns-in-Black-clause-value : goal.returns-in-Black-clause-value
returns-in-Black-clause-value c = c.of.ensures
    ∙ black_filled c.args.board.now c.args.to_move c.args.seed c.args.k _ _ _ c.in-Black.is
    (are_filled c.args.board.now c.args.to_move c.other.result c.args.seed c.args.k c.size-size.result c.movers_stones-own.result c.minus-others.result
    c.stones-before.result c.stones-others_before.result c.all.result
    c.movers_stones-own.ensures.empties c.size-size.ensures.value c.stones-before.ensures.value c.stones-before.ensures.apart c.other.ensures
    c.stones-others_before.ensures.value c.stones-others_before.ensures.on_board c.movers_stones-own.ensures.value c.all.ensures.items
    c.minus-others.ensures.items)

pub returns-in-Black-clause-kept : goal.returns-in-Black-clause-kept
returns-in-Black-clause-kept c = λ owner k h. subst (λ v. has (stones_of v owner) k ≡ true)
    (sym (returns-in-Black-clause-value c))
    (filled_keeps c.args.board.now c.args.to_move c.args.seed c.args.k owner k h)

pub returns-in-White-clause-value : goal.returns-in-White-clause-value
returns-in-White-clause-value c = c.of-in-White.ensures
    ∙ white_filled c.args.board.now c.args.to_move c.args.seed c.args.k _ _ _ c.in-White.is
    (are_filled c.args.board.now c.args.to_move c.other.result c.args.seed c.args.k c.size-size.result c.movers_stones-own.result c.minus-others.result
    c.stones-before.result c.stones-others_before.result c.all.result
    c.movers_stones-own.ensures.empties c.size-size.ensures.value c.stones-before.ensures.value c.stones-before.ensures.apart c.other.ensures
    c.stones-others_before.ensures.value c.stones-others_before.ensures.on_board c.movers_stones-own.ensures.value c.all.ensures.items
    c.minus-others.ensures.items)

pub returns-in-White-clause-kept : goal.returns-in-White-clause-kept
returns-in-White-clause-kept c = λ owner k h. subst (λ v. has (stones_of v owner) k ≡ true)
    (sym (returns-in-White-clause-value c))
    (filled_keeps c.args.board.now c.args.to_move c.args.seed c.args.k owner k h)
