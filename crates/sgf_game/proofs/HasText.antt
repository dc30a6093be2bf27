-- A record has a text.
use Rattle.std.proofs.Common.{◌≡◌, ℕ, true, List, [], ◌∷◌, ◌++◌, map, refl}
use Rattle.std.specs.Prelude.{codes}
use Rattle.hex_cells.specs.declared.colours.Colour.{Colour}
use Rattle.hex_cells.specs.declared.colours.Colour.TheVariants.{Black, White}
use Rattle.hex_board.specs.Positions.{Position}
use Rattle.hex_game.specs.Games.{GameData}
use Rattle.hex_game.specs.declared.moves.Step.{Step}
use Rattle.sgf_tree.specs.declared.lists.Prop.{Prop}
use Rattle.sgf_tree.specs.Grammar.{is_capital, IsName}
use Rattle.sgf_tree.specs.Printing.{HaveTexts, NodesHaveTexts, HasText}
use Rattle.hex_cells.specs.Vertices.{vertices_of}
use Rattle.sgf_game.specs.Record.{letter_of, prop_if, root_of, node_of_step, record_of}

both_have : (xs ys : List Prop) → HaveTexts xs → HaveTexts ys → HaveTexts (xs ++ ys)
both_have [] ys h k = k
both_have (x ∷ xs) ys h k = (h.0, h.1, both_have xs ys h.2 k)

stones_have : (name : List ℕ) (values : List (List ℕ)) → IsName name
    → HaveTexts (prop_if name values)
stones_have name [] h = tt
stones_have name (value ∷ values) h = (h, tt, tt)

two_capitals : (a b : ℕ) → is_capital a ≡ true → is_capital b ≡ true → IsName (a ∷ b ∷ [])
two_capitals a b h k = (tt, (h, (k, tt)))

root_has : (start : Position) → HaveTexts (root_of start).props
root_has start = (
  two_capitals 70 70 refl refl,
  tt,
  (
    two_capitals 71 77 refl refl,
    tt,
    (
      two_capitals 83 90 refl refl,
      tt,
      both_have (prop_if (codes "AB") (vertices_of start.size start.black))
          (prop_if (codes "AW") (vertices_of start.size start.white))
          (stones_have (codes "AB") (vertices_of start.size start.black) (two_capitals 65 66 refl refl))
          (stones_have (codes "AW") (vertices_of start.size start.white) (two_capitals 65 87 refl refl)),
    ),
  ),
)

letter_is_name : (colour : Colour) → IsName (letter_of colour)
letter_is_name Black = (tt, (refl, tt))
letter_is_name White = (tt, (refl, tt))

nodes_have : (n : ℕ) (steps : List Step) → NodesHaveTexts (map (node_of_step n) steps)
nodes_have n [] = tt
nodes_have n (step ∷ steps) = ((letter_is_name step.colour, tt, tt), nodes_have n steps)

pub record_has_text : (game : GameData) → HasText (record_of game)
record_has_text game
    = (tt, (tt, (root_has game.start, nodes_have game.start.size game.steps), tt, tt))
