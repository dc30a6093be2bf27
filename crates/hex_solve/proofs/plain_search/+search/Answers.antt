use Rattle.std.proofs.Common.{◌≡◌, ℕ, ◌^◌, ◌<◌, true, false, List, refl, sym, ◌∙◌, ap, subst, suc}
use Rattle.std.proofs.Common.{arith}
use Rattle.std.proofs.lemmas.Bool.{not-false, not-true}
use Rattle.hex_cells.specs.Colours.{other_of}
use Rattle.hex_cells.proofs.Bits.{cell_below}
use Rattle.hex_cells.specs.declared.colours.Colour.{Colour}
use Rattle.conn_store.specs.declared.entries.Kind.TheVariants.{Full}
use Rattle.hex_board.specs.Joined.{is_joined}
use Rattle.hex_board.specs.Positions.{Position, is_empty_at, placed, stones_of}
use Rattle.hex_board.specs.Wins.{empty_count}
use Rattle.hex_board.proofs.WinLaws.{one_empty_less}
use Rattle.hex_solve.specs.Ledgers.{CountsBy, count_of}
use Rattle.hex_solve.specs.PlainSearch.{IsPairOfLedgers}
use Rattle.hex_solve.proofs.Found.{child_is, joined_short, mover_wins, other_wins_all}
use Rattle.hex_solve.proofs.Found.{stone_answered, stop_on}
use Rattle.hex_solve.proofs.Growing.{grows_wider}
use Rattle.hex_solve.proofs.NobodyJoined.{joined_told}
use Rattle.hex_solve.proofs.TreeLines.{tree_least}
use Rattle.hex_solve.proofs.Trying.{IsTrying, child_searched, trying_begun}
use Rattle.hex_solve.proofs.plain_search.+search.Goals as goal

pub moves-cells-init : goal.moves-cells-init
moves-cells-init t c = record {
  trying = subst (λ (xs : List ℕ). IsTrying c.args.board.now c.args.mover c.args.own.now c.args.other.now c.args.other.now c.args.left.now c.args.left.now xs
      c.empties-cells.result) (sym c.new-cases.ensures.items)
      (trying_begun c.args.board.now c.args.mover c.args.own.now c.args.other.now c.args.left.now c.empties-cells.result c.requires.room.0 c.requires.searched
      c.requires.apart c.requires.room.1 c.empties-cells.ensures);
  same = refl;
}

pub moves-position-requires : goal.moves-position-requires
moves-position-requires t c =
    let p = c.args.board.now in
    let w = c.cells.invariant.trying in
    let here : is_empty_at p c.in-Some.cell ≡ true = w.inside c.in-Some.cell c.in-Some.ensures.0 in
    let one : empty_count p ≡ suc (empty_count (placed p c.args.mover c.in-Some.cell))
    = one_empty_less p c.args.mover c.in-Some.cell here in
    let same : empty_count c.place.new.self ≡ empty_count (placed p c.args.mover c.in-Some.cell)
    = ap empty_count c.place.ensures in (
      omega (arith, c.decreases, one, same),
      subst (λ (q : Position). IsPairOfLedgers q c.other.result c.cells.other c.cells.own)
          (sym c.place.ensures)
          (subst (λ (d : Colour). IsPairOfLedgers (placed p c.args.mover c.in-Some.cell) d c.cells.other c.cells.own) (sym c.other.ensures)
          (child_searched p c.args.mover c.cells.own c.cells.other c.in-Some.cell w.searched c.requires.apart here)),
    )

pub moves-returns-in-Err : goal.moves-returns-in-Err
moves-returns-in-Err t c
    = stop_on c.args.board.now c.place.new.self c.args.mover c.other.result c.cells.own c.args.other.now c.cells.other c.args.left.now c.cells.left
    c.cells.cases.items c.cells.cells c.in-Some.cell c.in-Err.stop
    c.cells.invariant.trying c.in-Some.ensures.0 c.in-Some.ensures.1 c.place.ensures c.other.ensures c.in-Err.ensures

pub moves-returns-then-not-found : goal.moves-returns-then-not-found
moves-returns-then-not-found t c
    = mover_wins c.args.board.now c.args.mover c.args.own.now c.cells.own c.args.other.now c.cells.other c.position.new.other c.position.new.own
    c.add_move.new.self c.back.new.self c.args.left.now c.cells.left c.position.new.left
    c.cells.cases.items c.cells.cells c.in-Some.cell c.in-Ok.found.line c.in-Ok-add_move.line c.mark-mark.result c.cells.invariant.trying
    c.cells.invariant.same c.requires.apart c.in-Some.ensures.0 c.in-Some.ensures.1 c.mark-mark.ensures.kept c.mark-mark.ensures.value
    (child_is c.args.board.now c.place.new.self c.args.mover c.other.result c.in-Some.cell c.cells.left c.position.new.left _ _ c.in-Ok.found false
    c.place.ensures c.other.ensures (not-true c.in-Ok.found.by_mover c.if-not-found.true) c.in-Ok.ensures)
    c.in-Ok-add_move.ensures.grows c.in-Ok-add_move.ensures.counts c.in-Ok-add_move.ensures.shows c.back.ensures

pub moves-cells-preserved : goal.moves-cells-preserved
moves-cells-preserved t c =
    let l : c.in-Some.cell < 121
    = cell_below c.cells.cells 121 c.in-Some.cell
    (subst (λ v. v < 2 ^ 121) c.bits-bits.ensures.value c.bits-bits.ensures.range) c.in-Some.ensures.0 in
    let r = stone_answered c.args.board.now c.args.mover c.cells.own c.args.own.now c.args.other.now c.cells.other c.position.new.other c.position.new.own
    c.args.left.now c.cells.left c.position.new.left
    c.cells.cases.items c.push.new.self.items c.cells.cells c.without-cells.result c.in-Some.cell c.in-Ok.found.line c.cells.invariant.trying
    c.cells.invariant.same c.in-Some.ensures.0 c.in-Some.ensures.1 l
    (child_is c.args.board.now c.place.new.self c.args.mover c.other.result c.in-Some.cell c.cells.left c.position.new.left _ _ c.in-Ok.found true
    c.place.ensures c.other.ensures (not-false c.in-Ok.found.by_mover c.if-not-found.false) c.in-Ok.ensures)
    c.in-Ok-push.ensures.items c.without-cells.ensures.value in
    record { trying = r.0; same = r.1 }

pub moves-returns : goal.moves-returns
moves-returns t c
    = other_wins_all c.args.board.now c.args.mover c.cells.own c.args.own.now c.args.other.now c.cells.other c.add_cases.new.self c.args.left.now c.cells.left
    c.cells.cases.items c.cells.cells c.requires.room.0 c.in-Ok-add_cases.line
    c.cells.invariant.trying c.cells.invariant.same c.requires.apart c.requires.room.1 c.in_default.ensures c.in-Ok-add_cases.ensures.grows
    c.in-Ok-add_cases.ensures.counts c.in-Ok-add_cases.ensures.shows

pub position-returns-then-joined : goal.position-returns-then-joined
position-returns-then-joined t c =
    let p = c.args.board.now in
    let joined : is_joined p.size (other_of c.args.mover)
    (stones_of p (other_of c.args.mover)) ≡ true =
    subst (λ (d : Colour). is_joined p.size d (stones_of p d) ≡ true) c.other.ensures
    (sym c.joined.ensures.value ∙ c.if-joined.true) in
    let told = joined_told p c.args.mover c.requires.searched.unjoined joined in
    let one = told.1 in (
      omega (arith, one, c.if-left-eq0.false),
      (
        grows_wider 2 _ c.args.other.now c.add_done.new.self (omega (arith, one)) c.in-Ok.ensures.grows,
        c.in-Ok.ensures.shows,
        refl,
        told.0,
        joined_short (count_of c.add_done.new.self) (count_of c.args.other.now) 0 _ c.in-Ok.ensures.grows.count (tree_least Full (empty_count p)),
        subst (λ v. CountsBy v c.args.other.now c.add_done.new.self)
            (sym told.2) c.in-Ok.ensures.counts,
      ),
    )

pub position-moves-requires : goal.position-moves-requires
position-moves-requires t c =
    let p = c.args.board.now in (
      omega (arith, c.decreases),
      (
        c.requires.searched,
        (
          subst (λ (d : Colour). is_joined p.size d (stones_of p d) ≡ false) c.other.ensures
              (sym c.joined.ensures.value ∙ c.if-joined.false),
          (c.in-Some._room, sym (c.empties.ensures c.in-Some._room) ∙ c.in-Some.ensures.0),
        ),
      ),
    )
