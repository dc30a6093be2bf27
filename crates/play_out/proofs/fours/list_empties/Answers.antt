use Rattle.std.proofs.Common.{◌≡◌, ℕ, ◌+◌, ◌*◌, ◌/◌, ◌%◌, ◌^◌, subst, ap, ◌∙◌, arith, length}
use Rattle.std.proofs.Math.ListN.{set}
use Rattle.std.specs.List.{filter, range_with_len}
use Rattle.std.specs.Prelude.{bit_and}
use Rattle.hex_cells.specs.Sets.{has}
use Rattle.play_out.specs.Fills.{empties_of}
use Rattle.play_out.proofs.Listing.{Listed, listed_four, listed_next, listed_few, rest_next}
use Rattle.play_out.proofs.Listing.{all_empties}
use Rattle.play_out.proofs.fours.list_empties.Goals as goal

pub list_four-count-requires-clause-room : goal.list_four-count-requires-clause-room
list_four-count-requires-clause-room c =
    let few = listed_few _ _ _ _ c.loop-k.invariant.listed in
    omega (arith, few)

pub loop-k-preserved : goal.loop-k-preserved
loop-k-preserved c =
    let end : 4 * c.loop-k.k + 4 ≡ 4 * (c.loop-k.k + 1) = omega arith in
    record {
      listed = subst (Listed c.bits-rest.result c.list_four-count.new.cells c.list_four-count.result) end
          (listed_four c.bits-rest.result c.loop-k.cells c.list_four-count.new.cells c.loop-k.count (4 * c.loop-k.k) c.list_four-count.result
          (c.loop-k.rest % 16) c.loop-k.invariant.listed
          (ap (λ v. v % 16) c.loop-k.invariant.rest)
          (c.list_four-count.ensures.size ∙ c.loop-k.invariant.listed.size) c.list_four-count.ensures.list c.list_four-count.ensures.count);
      rest = rest_next c.bits-rest.result c.loop-k.rest c.loop-k.k c.loop-k.invariant.rest;
    }

pub listed : goal.listed
listed c =
    let few = listed_few _ _ _ _ c.loop-k.invariant.listed in
    let size = c.loop-k.invariant.listed.size in
    omega (arith, few, size, c.loop-k.auto.k-end)

pub bounds-cells-count : goal.bounds-cells-count
bounds-cells-count c =
    let few = listed_few _ _ _ _ c.loop-k.invariant.listed in
    omega (arith, few, c.loop-k.auto.k-end)

-- after the last cell
all : (c : goal.After-index-cells-count)
    → Listed c.bits-rest.result (set c.loop-k.cells c.loop-k.count c.numbered.result)
    (c.loop-k.count + bit_and c.loop-k.rest 1) (4 * ((c.cells.result + 2) / 4) + 1)
all c =
    let fours : ℕ = (c.cells.result + 2) / 4 in
    let last : c.loop-k.k ≡ fours = omega (arith, c.loop-k.auto.k-end, c.loop-k-test.false) in
    listed_next c.bits-rest.result c.loop-k.rest c.loop-k.cells c.loop-k.count (4 * fours)
    c.numbered.result
    (subst (λ k. Listed c.bits-rest.result c.loop-k.cells c.loop-k.count (4 * k)) last
    c.loop-k.invariant.listed)
    (c.loop-k.invariant.rest ∙ ap (λ k. c.bits-rest.result / 2 ^ (4 * k)) last)
    (omega (arith, c.cells.ensures.range)) c.numbered.ensures

same : (c : goal.After-index-cells-count)
    → filter (has c.bits-rest.result) (range_with_len 0 (4 * ((c.cells.result + 2) / 4) + 1))
    ≡ empties_of c.args.board.now
same c =
    let n = c.cells.ensures.value ∙ ap (λ z. z * z) c.size.ensures.value in
    all_empties c.args.board.now c.bits-rest.result (4 * ((c.cells.result + 2) / 4) + 1)
    (omega (arith, n))
    (λ k. c.bits-rest.ensures.items k ∙ c.empties.ensures k)

pub returns-clause-list : goal.returns-clause-list
returns-clause-list c = (all c).items ∙ same c

pub returns-clause-count : goal.returns-clause-count
returns-clause-count c = (all c).many ∙ ap length (same c)

pub returns-clause-range : goal.returns-clause-range
returns-clause-range c =
    omega (arith, listed_few _ _ _ _ (all c), c.cells.ensures.range)
