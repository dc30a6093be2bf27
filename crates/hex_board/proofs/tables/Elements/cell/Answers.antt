use Rattle.std.proofs.Common.{◌≡◌, ℕ, ◌∙◌, ap, subst}
use Rattle.hex_cells.specs.Sets.{has}
use Rattle.hex_board.specs.Positions.{Within, stones_of, is_empty_at}
use Rattle.hex_board.proofs.Places.{cell_test, free_found}
use Rattle.hex_board.proofs.tables.Elements.cell.Goals as goal

pub returns : goal.returns
returns c =
    let free : (k : ℕ) → has c.empties.result k ≡ is_empty_at c.args.self.now.board k =
    λ k. c.empties.ensures.items k ∙ ap (λ v. is_empty_at v.board k) c.self.view_is in
    let on : Within c.args.self.now.board.size
    (stones_of c.args.self.now.board c.args.self.now.player) =
    subst (λ v. Within v.board.size (stones_of v.board v.player)) c.self.view_is c.empties.ensures.stones in
    let t = free_found c.args.self.now c.args.element c.cells.result c.empties.result c.meet-empty.result c.least.result
    c.cells.ensures free c.meet-empty.ensures.items c.least.ensures in
    record { value = cell_test c.args.self.now c.args.element c.least.result on t.0 t.1; empty = t.0; group = t.1 }
