use Rattle.std.proofs.Common.{◌≡◌, ℕ, ◌+◌, length, ap, ◌∙◌, subst, arith}
use Rattle.tree_words.specs.Settings.{Setting, IsSetting}
use Rattle.tree_words.specs.Words.{end_of}
use Rattle.std.proofs.lemmas.List.{length-replicate}
use Rattle.tree_words.specs.Complete.{HasEmpties, allowed_cells}
use Rattle.tree_words.specs.Writing.{listed}
use Rattle.tree_words.proofs.Boards.EmptyLaws.{has-empties}
use Rattle.tree_words.proofs.NewBlocks.Openings.{allowed-listed, root-fits, few-allowed}
use Rattle.tree_words.proofs.NewBlocks.Openings.{opening-written}
use Rattle.tree_words.proofs.NewBlocks.OpeningTold.{opening-one}
use Rattle.tree_words.proofs.opening.write_opening.Goals as goal

pub write_block-count-requires : goal.write_block-count-requires
write_block-count-requires c =
    let s : Setting = c.args.shape.now in
    let h : IsSetting s = c.board-board.ensures.setting in
    let is : listed c.size.result c.allowed.result ≡ allowed_cells s
    = allowed-listed s c.size.result c.allowed.result
    (c.size.ensures.value ∙ ap (λ p. p.size) c.board-board.ensures.value) c.allowed.ensures.value in
    omega (arith, root-fits s h, ap length is, c.root-root.ensures, ap length c.requires, length-replicate {A = ℕ} (end_of s) 0)

pub overflow_mul-words : goal.overflow_mul-words
overflow_mul-words c =
    let s : Setting = c.args.shape.now in
    let h : IsSetting s = c.board-board.ensures.setting in
    let is : listed c.size.result c.allowed.result ≡ allowed_cells s
    = allowed-listed s c.size.result c.allowed.result
    (c.size.ensures.value ∙ ap (λ p. p.size) c.board-board.ensures.value) c.allowed.ensures.value in
    omega (arith, few-allowed s h, ap length is, c.root-root.ensures, c.write_block-count.ensures.count)

pub overflow_add-words-3 : goal.overflow_add-words-3
overflow_add-words-3 c =
    let s : Setting = c.args.shape.now in
    let h : IsSetting s = c.board-board.ensures.setting in
    let is : listed c.size.result c.allowed.result ≡ allowed_cells s
    = allowed-listed s c.size.result c.allowed.result
    (c.size.ensures.value ∙ ap (λ p. p.size) c.board-board.ensures.value) c.allowed.ensures.value in
    omega (arith, few-allowed s h, ap length is, c.root-root.ensures, c.write_block-count.ensures.count, h.ranges.playouts.1)

pub returns-clause-opening : goal.returns-clause-opening
returns-clause-opening c =
    let s : Setting = c.args.shape.now in
    let h : IsSetting s = c.board-board.ensures.setting in
    let is : listed c.size.result c.allowed.result ≡ allowed_cells s
    = allowed-listed s c.size.result c.allowed.result
    (c.size.ensures.value ∙ ap (λ p. p.size) c.board-board.ensures.value) c.allowed.ensures.value in
    opening-written s c.root-root.result c.empties.result c.write_block-count.result
    (listed c.size.result c.allowed.result) c.args.words.now c.write_block-count.new.words h
    c.requires c.root-root.ensures is
    (subst (HasEmpties c.empties.result) c.board-board.ensures.value (has-empties c.empties.result c.board-board.result.now (omega (
      arith,
      c.size.ensures.value,
      c.size.ensures.range,
    )) c.empties.ensures))
    c.write_block-count.ensures.words c.write_block-count.ensures.count

pub returns-clause-told : goal.returns-clause-told
returns-clause-told c = opening-one c.args.shape.now _ c.board-board.ensures.setting
    (returns-clause-opening c)
