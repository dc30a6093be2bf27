use Rattle.std.proofs.Common.{◌≡◌, ℕ, ◌≤◌, ◌||◌, Bool, true, false, List, Some, None, ap, ◌∙◌}
use Rattle.std.proofs.Common.{arith}
use Rattle.std.specs.Prelude.{codes}
use Rattle.sgf_tree.specs.declared.lists.Node.{Node}
use Rattle.sgf_game.specs.Lines.{nodes_lent}
use Rattle.sgf_game.specs.Values.{values_named}
use Rattle.sgf_game.specs.Setup.{cells_named, with_cells, set_up_cells, are_misplaced}
use Rattle.sgf_game.specs.Setup.{is_changed_late}
use Rattle.sgf_game.specs.Placing.{placed_on}
use Rattle.sgf_game.proofs.Placing.{first_refused, second_refused, both_placed, vertices_on_board}
use Rattle.sgf_game.proofs.Placing.{AreCells, ArePlaced}
use Rattle.sgf_game.proofs.setup.start_of.Goals as goal

on_board : (n : ℕ) (name : List ℕ) (node : Node) → AreCells n (cells_named n name node)
on_board n name node = vertices_on_board n (values_named name node)

late_or : (late misplaced x : Bool) → late ≡ false → misplaced ≡ x → (late || misplaced) ≡ x
late_or late misplaced x e f = rw e f

black_refused : (n s : ℕ) (root : Node) → n ≤ 11 → s ≡ 0
    → None ≡ placed_on s 0 (cells_named n (codes "AB") root)
    → are_misplaced (set_up_cells n root) ≡ true
black_refused n s root h z e =
    first_refused n (cells_named n (codes "AB") root) (cells_named n (codes "AW") root) h
    (on_board n (codes "AB") root)
    (e ∙ ap (λ t. placed_on t 0 (cells_named n (codes "AB") root)) z)

white_refused : (n s b : ℕ) (root : Node) → n ≤ 11 → s ≡ 0
    → Some b ≡ placed_on s 0 (cells_named n (codes "AB") root)
    → None ≡ placed_on b 0 (cells_named n (codes "AW") root)
    → are_misplaced (set_up_cells n root) ≡ true
white_refused n s b root h z e f =
    second_refused n b (cells_named n (codes "AB") root) (cells_named n (codes "AW") root) h
    (on_board n (codes "AB") root) (on_board n (codes "AW") root)
    (e ∙ ap (λ t. placed_on t 0 (cells_named n (codes "AB") root)) z) f

placed : (n s b w : ℕ) (root : Node) → n ≤ 11 → s ≡ 0
    → Some b ≡ placed_on s 0 (cells_named n (codes "AB") root)
    → Some w ≡ placed_on b 0 (cells_named n (codes "AW") root)
    → ArePlaced n b w (cells_named n (codes "AB") root) (cells_named n (codes "AW") root)
placed n s b w root h z e f =
    both_placed n b w (cells_named n (codes "AB") root) (cells_named n (codes "AW") root) h
    (on_board n (codes "AB") root) (on_board n (codes "AW") root)
    (e ∙ ap (λ t. placed_on t 0 (cells_named n (codes "AB") root)) z) f

pub returns-in_err-black : goal.returns-in_err-black
returns-in_err-black c =
    let small : c.args.size ≤ 11 = grind arith in
    let late : is_changed_late c.args.root.now (nodes_lent c.args.behind.now) ≡ false
    = grind arith in
    rw c.from_residual.ensures
    (late_or _ _ true late (black_refused c.args.size c.none.result c.args.root.now small c.none.ensures.value c.in_err-black.ensures))

pub returns-in_err-white : goal.returns-in_err-white
returns-in_err-white c =
    let small : c.args.size ≤ 11 = grind arith in
    let late : is_changed_late c.args.root.now (nodes_lent c.args.behind.now) ≡ false
    = grind arith in
    rw c.from_residual-in_err-white.ensures (late_or _ _ true late
    (white_refused c.args.size c.none.result c.in_ok-black.black c.args.root.now small c.none.ensures.value c.in_ok-black.ensures c.in_err-white.ensures))

pub of-requires : goal.of-requires
of-requires c =
    let small : c.args.size ≤ 11 = grind arith in
    let both = placed c.args.size c.none.result c.in_ok-black.black c.in_ok-white.white c.args.root.now small c.none.ensures.value c.in_ok-black.ensures
    c.in_ok-white.ensures in
    record { apart = both.apart; black_on = both.black_on; white_on = both.white_on }

pub returns : goal.returns
returns c =
    let small : c.args.size ≤ 11 = grind arith in
    let late : is_changed_late c.args.root.now (nodes_lent c.args.behind.now) ≡ false
    = grind arith in
    let both = placed c.args.size c.none.result c.in_ok-black.black c.in_ok-white.white c.args.root.now small c.none.ensures.value c.in_ok-black.ensures
    c.in_ok-white.ensures in (
      late_or _ _ false late both.fine,
      c.of.ensures
          ∙ ap (λ b. record { size = c.args.size; black = b; white = c.in_ok-white.white }) both.black
          ∙ ap (λ w. record { size = c.args.size; black = with_cells 0 (cells_named c.args.size (codes "AB") c.args.root.now); white = w }) both.white,
    )
