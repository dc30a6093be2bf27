use Rattle.std.proofs.Common.{◌≡◌, ◌++◌, ◌*◌, ◌∷◌, [], ℕ, ap, sym, ◌∙◌, arith}
use Rattle.std.specs.List.{filter, flat_map, range_with_len}
use Rattle.std.proofs.lemmas.List.Folds.{flat_map-map}
use Rattle.hex_cells.specs.Sets.{has}
use Rattle.hex_cells.specs.Vertices.{vertex_of}
use Rattle.hex_plan.specs.TurnTexts.{spaced_vertex}
use Rattle.hex_plan.proofs.Lines.{numbers_more}
use Rattle.hex_plan.proofs.mustplay_texts.push_cells.Goals as goal

pub cells-preserved : goal.cells-preserved
cells-preserved c = record {
  text = numbers_more (spaced_vertex c.args.size)
      (has c.args.set) c.cells.k c.args.text.now.items c.cells.text.items c.push_member.new.text.items c.cells.invariant.text
      (c.in_ok-push_member.ensures ∙ ap (λ k. c.cells.text.items ++ flat_map (spaced_vertex c.args.size)
      (filter (has c.args.set) (k ∷ []))) c.numbered.ensures);
}

pub returns : goal.returns
returns c =
    let n : ℕ = c.args.size in
    let all : c.cells.k ≡ n * n = omega arith in
    c.cells.invariant.text
    ∙ ap (λ k. c.args.text.now.items ++ flat_map (spaced_vertex n) (filter (has c.args.set) (range_with_len 0 k))) all
    ∙ ap (λ t. c.args.text.now.items ++ t)
    (sym (flat_map-map (λ vertex. 32 ∷ vertex) (vertex_of n) (filter (has c.args.set) (range_with_len 0 (n * n)))))
