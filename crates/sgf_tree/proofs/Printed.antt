-- What is printed is a text of what was printed, and what has a text can be printed.
use Rattle.std.proofs.lemmas.Bool.{or_parts}
use Rattle.std.proofs.Common.{◌≡◌, ℕ, refl, sym, ap, ◌∙◌, subst, ◌==◌, ◌||◌, List, [], ◌∷◌, ◌++◌}
use Rattle.std.proofs.Common.{append_assoc, inl, inr, flat_map}
use Rattle.sgf_tree.specs.declared.lists.Prop.{Prop}
use Rattle.sgf_tree.specs.declared.lists.Node.{Node}
use Rattle.sgf_tree.specs.Trees.{GameTrees, none, tree}
use Rattle.sgf_tree.specs.Grammar.{IsFilled, IsName, Gap, ByteText, ContentText, ValueText}
use Rattle.sgf_tree.specs.Grammar.{ValuesText, PropText, PropsText, NodeText, NodesText, TreesText}
use Rattle.sgf_tree.specs.Grammar.{Text}
use Rattle.sgf_tree.specs.Printing.{byte_print, value_print, prop_print, node_print, trees_print}
use Rattle.sgf_tree.specs.Printing.{HaveTexts, NodesHaveTexts, TreesHaveTexts, HasText}
use Rattle.sgf_tree.proofs.Choices.{by_cond, different, append_nil}

gap_none : (w : List ℕ) → Gap w w
gap_none [] = refl
gap_none (x ∷ w) = inl refl

byte_printed : (x : ℕ) (rest : List ℕ) → ByteText x (byte_print x ++ rest) rest
byte_printed x rest =
    by_cond (λ bytes. ByteText x (bytes ++ rest) rest) ((x == 92) || (x == 93))
    (92 ∷ x ∷ []) (x ∷ [])
    (λ _. inr refl)
    (λ e. let plain = or_parts (x == 92) (x == 93) e in inl (different x 92 plain.0, different x 93 plain.1, refl))

content_printed : (v rest : List ℕ) → ContentText v (flat_map byte_print v ++ 93 ∷ rest) rest
content_printed [] rest = refl
content_printed (x ∷ v) rest =
    let more = flat_map byte_print v ++ 93 ∷ rest in
    let first : ByteText x ((byte_print x ++ flat_map byte_print v) ++ 93 ∷ rest) more =
    subst (λ w. ByteText x w more)
    (sym (append_assoc (byte_print x) (flat_map byte_print v) (93 ∷ rest)))
    (byte_printed x more) in
    (more, first, content_printed v rest)

value_printed : (v rest : List ℕ) → ValueText v (value_print v ++ rest) rest
value_printed v rest =
    (flat_map byte_print v ++ 93 ∷ rest, ap (λ w. 91 ∷ w) (append_assoc (flat_map byte_print v) (93 ∷ []) rest), content_printed v rest)

values_printed : (vs : List (List ℕ)) (rest : List ℕ)
    → ValuesText vs (flat_map value_print vs ++ rest) rest
values_printed [] rest = refl
values_printed (v ∷ vs) rest =
    let more = flat_map value_print vs ++ rest in
    let first : ValueText v ((value_print v ++ flat_map value_print vs) ++ rest) more =
    subst (λ w. ValueText v w more)
    (sym (append_assoc (value_print v) (flat_map value_print vs) rest))
    (value_printed v more) in
    (more, more, first, gap_none more, values_printed vs rest)

prop_printed : (p : Prop) (rest : List ℕ) → IsName p.name → IsFilled p.values
    → PropText p (prop_print p ++ rest) rest
prop_printed p rest name filled =
    let more = flat_map value_print p.values ++ rest in
    (more, more, name, filled, append_assoc p.name (flat_map value_print p.values) rest, gap_none more, values_printed p.values rest)

props_printed : (ps : List Prop) (rest : List ℕ) → HaveTexts ps
    → PropsText ps (flat_map prop_print ps ++ rest) rest
props_printed [] rest have = refl
props_printed (p ∷ ps) rest have =
    let more = flat_map prop_print ps ++ rest in
    let first : PropText p ((prop_print p ++ flat_map prop_print ps) ++ rest) more =
    subst (λ w. PropText p w more) (sym (append_assoc (prop_print p) (flat_map prop_print ps) rest))
    (prop_printed p more have.0 have.1) in
    (more, first, props_printed ps rest have.2)

node_printed : (n : Node) (rest : List ℕ) → HaveTexts n.props
    → NodeText n (node_print n ++ rest) rest
node_printed n rest have =
    let more = flat_map prop_print n.props ++ rest in
    (more, more, refl, gap_none more, props_printed n.props rest have)

nodes_printed : (ns : List Node) (rest : List ℕ) → NodesHaveTexts ns
    → NodesText ns (flat_map node_print ns ++ rest) rest
nodes_printed [] rest have = refl
nodes_printed (n ∷ ns) rest have =
    let more = flat_map node_print ns ++ rest in
    let first : NodeText n ((node_print n ++ flat_map node_print ns) ++ rest) more =
    subst (λ w. NodeText n w more) (sym (append_assoc (node_print n) (flat_map node_print ns) rest))
    (node_printed n more have.0) in
    (more, first, nodes_printed ns rest have.1)

regroup : (a b c d : List ℕ) → (((a ++ b) ++ 41 ∷ []) ++ c) ++ d ≡ a ++ (b ++ 41 ∷ (c ++ d))
regroup a b c d =
    append_assoc ((a ++ b) ++ 41 ∷ []) c d ∙ append_assoc (a ++ b) (41 ∷ []) (c ++ d)
    ∙ append_assoc a b (41 ∷ (c ++ d))

trees_printed : (trees : GameTrees) (rest : List ℕ) → TreesHaveTexts trees
    → TreesText trees (trees_print trees ++ rest) rest
trees_printed none rest have = refl
trees_printed (tree nodes kids others) rest have =
    let behind = trees_print others ++ rest in
    let under = trees_print kids ++ 41 ∷ behind in
    let line = flat_map node_print nodes ++ under in
    let all = ap (λ w. 40 ∷ w)
    (regroup (flat_map node_print nodes) (trees_print kids) (trees_print others) rest) in (
      line,
      line,
      under,
      behind,
      behind,
      have.0,
      all,
      gap_none line,
      nodes_printed nodes under have.1,
      trees_printed kids (41 ∷ behind) have.2,
      gap_none behind,
      trees_printed others rest have.3,
    )

pub text_printed : (trees : GameTrees) → HasText trees → Text trees (trees_print trees)
text_printed trees have =
    let w = trees_print trees in
    (w, have.0, gap_none w, subst (λ bytes. TreesText trees bytes []) (append_nil w) (trees_printed trees [] have.1))

props_have : (ps : List Prop) (w r : List ℕ) → PropsText ps w r → HaveTexts ps
props_have [] w r text = tt
props_have (p ∷ ps) w r (more, (gap, rest, name, filled, e, g, values), others)
    = (name, filled, props_have ps more r others)

nodes_have : (ns : List Node) (w r : List ℕ) → NodesText ns w r → NodesHaveTexts ns
nodes_have [] w r text = tt
nodes_have (n ∷ ns) w r (more, (gap, line, e, g, props), others)
    = (props_have n.props line more props, nodes_have ns more r others)

trees_have : (trees : GameTrees) (w r : List ℕ) → TreesText trees w r → TreesHaveTexts trees
trees_have none w r text = tt
trees_have (tree nodes kids others) w r
    (gap, line, under, behind, more, filled, e, g, ns, ks, g2, os) =
    (filled, nodes_have nodes line under ns, trees_have kids under (41 ∷ behind) ks, trees_have others more r os)

pub text_has : (trees : GameTrees) (bytes : List ℕ) → Text trees bytes → HasText trees
text_has trees bytes (more, some, g, ts) = (some, trees_have trees more [] ts)
