-- Where the reader ends.
use Rattle.std.proofs.Common.{◌≡◌, ℕ, ◌<◌, refl, sym, ap, subst, List, [], ◌∷◌, length, arith}
use Rattle.sgf_tree.specs.declared.lists.Prop.{Prop}
use Rattle.sgf_tree.specs.declared.lists.Node.{Node}
use Rattle.sgf_tree.specs.declared.trees.Tree.{Tree}
use Rattle.sgf_tree.specs.declared.reading.Parent.{Parent}
use Rattle.sgf_tree.specs.declared.reading.Place.{Place}
use Rattle.sgf_tree.specs.declared.reading.Place.TheVariants.{Between}
use Rattle.sgf_tree.specs.Trees.{GameTrees}
use Rattle.sgf_tree.specs.Rows.{row}
use Rattle.sgf_tree.specs.ReadingStates.{stack, state_in_place}
use Rattle.sgf_tree.specs.Verdict.{IsFinal}
use Rattle.sgf_tree.proofs.Stacks.{length-stack}

outside : (outer : List Parent) (nodes : List Node) (kids : List Tree) (props : List Prop)
    (name : List ℕ) (values : List (List ℕ)) (value : List ℕ) → length outer ≡ 0 → 0 < length kids
    → IsFinal (state_in_place Between (record { outer = stack outer []; nodes = nodes; kids = row kids }) props name values value) (row kids)
outside [] nodes [] props name values value ground some = absurd (omega arith)
outside [] nodes (t ∷ kids) props name values value ground some = (refl, refl, tt)
outside (p ∷ outer) nodes kids props name values value ground some = absurd (omega arith)

pub is_final : (place : Place) (outer : List Parent) (nodes : List Node) (kids : List Tree)
    (props : List Prop) (name : List ℕ) (values : List (List ℕ)) (value : List ℕ) → place ≡ Between
    → length outer ≡ 0 → 0 < length kids
    → IsFinal (state_in_place place (record { outer = stack outer []; nodes = nodes; kids = row kids }) props name values value) (row kids)
is_final place outer nodes kids props name values value e ground some =
    subst (λ p. IsFinal (state_in_place p (record { outer = stack outer []; nodes = nodes; kids = row kids }) props name values value) (row kids)) (sym e)
    (outside outer nodes kids props name values value ground some)

pub is_not_final : (place : Place) (outer : List Parent) (nodes : List Node) (kids : List Tree)
    (props : List Prop) (name : List ℕ) (values : List (List ℕ)) (value : List ℕ) → place ≡ Between
    → 0 < length outer → (trees : GameTrees)
    → IsFinal (state_in_place place (record { outer = stack outer []; nodes = nodes; kids = row kids }) props name values value) trees → ⊥
is_not_final place outer nodes kids props name values value e many trees final =
    let there = subst (λ p. IsFinal (state_in_place p (record { outer = stack outer []; nodes = nodes; kids = row kids }) props name values value) trees) e
    final in
    let none_open : length (stack outer []) ≡ 0 = ap length there.0 in
    omega (arith, none_open, length-stack outer [])
