use Rattle.std.proofs.Common.{◌≡◌, ◌∷◌, ◌++◌, [], ap, sym, ◌∙◌, append_assoc, append-nil, arith}
use Rattle.std.proofs.lemmas.Grind.{common_steps}
use Rattle.hex_cells.specs.Vertices.{vertex_of, vertices_of}
use Rattle.sgf_game.proofs.Rising.{vertices_first, vertices_none, within_less}
use Rattle.sgf_game.proofs.writing.vertices.Goals as goal

pub write_vertex-length-requires : goal.write_vertex-length-requires
write_vertex-length-requires c = c.loop-cell.invariant.within c.in-Some.cell c.in-Some.ensures.0

pub loop-cell-preserved : goal.loop-cell-preserved
loop-cell-preserved c =
    let n = c.args.size in
    let cell = c.in-Some.cell in
    let pushed : c.push.new.self.items ≡ c.loop-cell.values.items ++ vertex_of n cell ∷ []
    = grind (arith, common_steps) in
    let first : vertices_of n c.loop-cell.rest ≡ vertex_of n cell ∷ vertices_of n c.without-rest.result =
    vertices_first n c.loop-cell.rest c.without-rest.result cell
    (c.loop-cell.invariant.within cell c.in-Some.ensures.0) c.in-Some.ensures.0 c.in-Some.ensures.1 c.without-rest.ensures.items in
    record {
      within = within_less n c.loop-cell.rest c.without-rest.result cell c.loop-cell.invariant.within c.without-rest.ensures.items;
      told = ap (λ vs. vs ++ vertices_of n c.without-rest.result) pushed
          ∙ append_assoc c.loop-cell.values.items (vertex_of n cell ∷ [])
          (vertices_of n c.without-rest.result)
          ∙ ap (λ vs. c.loop-cell.values.items ++ vs) (sym first) ∙ c.loop-cell.invariant.told;
    }

pub returns : goal.returns
returns c =
    let none : vertices_of c.args.size c.loop-cell.rest ≡ []
    = vertices_none c.args.size c.loop-cell.rest c.in_default.ensures in
    sym (append-nil c.loop-cell.values.items) ∙ ap (λ vs. c.loop-cell.values.items ++ vs) (sym none)
    ∙ c.loop-cell.invariant.told
