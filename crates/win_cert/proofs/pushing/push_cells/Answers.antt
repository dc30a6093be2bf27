use Rattle.std.proofs.Common.{◌≡◌, ℕ, ◌*◌, map, ap, ◌∙◌, [], ◌∷◌, ◌++◌, arith}
use Rattle.std.specs.List.{filter, range_with_len}
use Rattle.hex_cells.specs.Sets.{has}
use Rattle.hex_cells.specs.Vertices.{vertex_of}
use Rattle.win_cert.specs.Texts.{vertices_of}
use Rattle.win_cert.specs.Words.{after_spaces}
use Rattle.win_cert.proofs.Joining.{joined_after, text_more}
use Rattle.win_cert.proofs.pushing.push_cells.Goals as goal

pub loop-k-preserved : goal.loop-k-preserved
loop-k-preserved c = record {
  text = text_more (vertex_of c.args.size) (has c.args.set) c.loop-k.k
      (c.args.text.now.items ++ c.args.word.now)
      c.loop-k.text.items c.push_member.new.text.items c.loop-k.invariant.text
      (c.in_ok-push_member.ensures ∙ ap (λ k. c.loop-k.text.items
      ++ after_spaces (map (vertex_of c.args.size) (filter (has c.args.set) (k ∷ [])))) c.numbered.ensures);
}

pub returns : goal.returns
returns c =
    let n : ℕ = c.args.size in
    let all : c.loop-k.k ≡ n * n = omega arith in
    let text = c.args.text.now.items ++ c.args.word.now in
    c.loop-k.invariant.text
    ∙ ap (λ k. text ++ after_spaces (map (vertex_of n) (filter (has c.args.set) (range_with_len 0 k)))) all
    ∙ joined_after c.args.text.now.items c.args.word.now (vertices_of n c.args.set)
