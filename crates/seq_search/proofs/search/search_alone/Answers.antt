use Rattle.std.proofs.Common.{sym, ◌∙◌, subst, arith}
use Rattle.std.proofs.lemmas.List.{with_items_is}
use Rattle.tree_words.specs.Closing.{IsClosed}
use Rattle.tree_words.specs.Opening.{AreOpening}
use Rattle.tree_words.proofs.NewBlocks.OpeningTold.{opening-are}
use Rattle.seq_search.proofs.Searches.{searched-closed}
use Rattle.seq_search.proofs.search.search_alone.Goals as goal

pub make_walks-requires : goal.make_walks-requires
make_walks-requires g c =
    let s = c.args.shape.now in
    subst (AreOpening s) (sym (c.deref_mut.ensures.value ∙ c.in_ok-words.ensures))
    (opening-are s c.keeps.ensures.setting)

pub of-requires : goal.of-requires
of-requires g c =
    subst (λ l. IsClosed c.args.shape.now l)
    (sym (with_items_is c.in_ok-words.words c.make_walks.new.words (omega (arith, c.make_walks.auto.words, c.deref_mut.ensures.len))))
    (searched-closed c.args.shape.now c.make_walks.new.words c.keeps.ensures.setting c.make_walks.ensures)
