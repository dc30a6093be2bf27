use Rattle.std.proofs.Common.{◌≡◌, length, ap, sym, ◌∙◌, subst, arith}
use Rattle.tree_words.specs.Complete.{HasEmpties}
use Rattle.play_out.specs.Fills.{empties_of}
use Rattle.tree_words.specs.Writing.{listed}
use Rattle.tree_words.proofs.Boards.EmptyLaws.{has-empties, empties-listed}
use Rattle.seq_search.proofs.LeafBlocks.{link-written}
use Rattle.seq_search.proofs.expanding.link_block.Goals as goal

pub write_block-requires : goal.write_block-requires
write_block-requires c =
    let is : listed c.size.result c.empties-empties.result ≡ empties_of c.args.board.now
    = ap (λ n. listed n c.empties-empties.result) c.size.ensures.value
    ∙ empties-listed c.empties-empties.result c.args.board.now c.empties-empties.ensures in
    omega (arith, ap length is, c.requires.within)

pub returns : goal.returns
returns c p e =
    let is : listed c.size.result c.empties-empties.result ≡ empties_of c.args.board.now
    = ap (λ n. listed n c.empties-empties.result) c.size.ensures.value
    ∙ empties-listed c.empties-empties.result c.args.board.now c.empties-empties.ensures in (
      c.empties-empties.result,
      subst (HasEmpties c.empties-empties.result) (sym e)
          (has-empties c.empties-empties.result c.args.board.now (omega (arith, c.size.ensures.value, c.size.ensures.range)) c.empties-empties.ensures),
      link-written c.args.start c.args.leaf c.empties-empties.result p
          (listed c.size.result c.empties-empties.result) c.args.words.now c.write_block.new.words
          c.write_block.ensures.words (is ∙ ap empties_of (sym e)) c.requires.leaf,
    )
