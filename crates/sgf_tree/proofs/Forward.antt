-- The reader goes over each text of a collection, and ends with that collection.
use Rattle.std.proofs.Common.{◌≡◌, ℕ, false, cond, refl, sym, ap, ◌∙◌, subst, ◌==◌, List, [], ◌∷◌}
use Rattle.std.proofs.Common.{◌++◌, append_assoc, inl, inr, Option, Some, None, IsTrue}
use Rattle.std.specs.List.{AllByRecursion}
use Rattle.sgf_tree.specs.declared.lists.Prop.{Prop}
use Rattle.sgf_tree.specs.declared.lists.Node.{Node}
use Rattle.sgf_tree.specs.Trees.{GameTrees, none, tree}
use Rattle.sgf_tree.specs.Grammar.{is_white_space, is_capital, IsFilled, IsName, Gap, ContentText}
use Rattle.sgf_tree.specs.Grammar.{ValuesText, PropsText, NodesText, TreesText, Text}
use Rattle.sgf_tree.specs.Reading.{join, Open, State, between, opened, in_node, in_name, after_name}
use Rattle.sgf_tree.specs.Reading.{in_value, escaped, after_value, open_tree, add_node, turn, go_on}
use Rattle.sgf_tree.specs.Reading.{add_prop, step, run_on, run, begin}
use Rattle.sgf_tree.proofs.Choices.{cond_true, cond_false, not_equal, capital_no_space}
use Rattle.sgf_tree.proofs.Choices.{space_no_capital, capital_no_bracket, append_nil}

pub gap_runs : (s : State) (rest : ℕ → Option State)
    → ((x : ℕ) → step s x ≡ cond (is_white_space x) (Some s) (rest x)) → (w r : List ℕ) → Gap w r
    → run s w ≡ run s r
gap_runs s rest goes [] r g = ap (run s) g
gap_runs s rest goes (x ∷ w) r (inl e) = ap (run s) e
gap_runs s rest goes (x ∷ w) r (inr p) =
    ap (λ next. run_on next w) (goes x ∙ cond_true (is_white_space x) (Some s) (rest x) p.0)
    ∙ gap_runs s rest goes w r p.1

pub content_runs : (o : Open) (ps : List Prop) (n : List ℕ) (vs : List (List ℕ)) (v w r a : List ℕ)
    → ContentText v w r
    → run (in_value o ps n vs a) w ≡ run (after_value o ps n (vs ++ (a ++ v) ∷ [])) r
content_runs o ps n vs [] w r a e =
    ap (run (in_value o ps n vs a)) e ∙ ap (λ b. run (after_value o ps n (vs ++ b ∷ [])) r)
    (sym (append_nil a))
content_runs o ps n vs (x ∷ v) w r a (more, inl plain, c) =
    let first = cond_false (x == 92) (Some (escaped o ps n vs a))
    (cond (x == 93) (Some (after_value o ps n (vs ++ a ∷ []))) (Some (in_value o ps n vs (a ++ x ∷ [])))) (not_equal x 92 plain.0) in
    let second = cond_false (x == 93) (Some (after_value o ps n (vs ++ a ∷ [])))
    (Some (in_value o ps n vs (a ++ x ∷ []))) (not_equal x 93 plain.1) in
    ap (run (in_value o ps n vs a)) plain.2 ∙ ap (λ next. run_on next more) (first ∙ second)
    ∙ content_runs o ps n vs v more r (a ++ x ∷ []) c
    ∙ ap (λ b. run (after_value o ps n (vs ++ b ∷ [])) r) (append_assoc a (x ∷ []) v)
content_runs o ps n vs (x ∷ v) w r a (more, inr e, c) =
    ap (run (in_value o ps n vs a)) e ∙ content_runs o ps n vs v more r (a ++ x ∷ []) c
    ∙ ap (λ b. run (after_value o ps n (vs ++ b ∷ [])) r) (append_assoc a (x ∷ []) v)

pub values_runs : (o : Open) (ps : List Prop) (n : List ℕ) (vs more_vs : List (List ℕ))
    (w r : List ℕ) → ValuesText more_vs w r
    → run (after_value o ps n vs) w ≡ run (after_value o ps n (vs ++ more_vs)) r
values_runs o ps n vs [] w r e =
    ap (run (after_value o ps n vs)) e
    ∙ ap (λ b. run (after_value o ps n b) r) (sym (append_nil vs))
values_runs o ps n vs (v ∷ more_vs) w r (gap, more, value, g, others) =
    let now = vs ++ v ∷ [] in
    ap (run (after_value o ps n vs)) value.1 ∙ content_runs o ps n vs v value.0 gap [] value.2
    ∙ gap_runs (after_value o ps n now)
    (λ x. cond (x == 91) (Some (in_value o ps n now [])) (go_on o (add_prop ps n now) x))
    (λ x. refl) gap more g ∙ values_runs o ps n now more_vs more r others
    ∙ ap (λ b. run (after_value o ps n b) r) (append_assoc vs (v ∷ []) more_vs)

-- each byte is a capital letter
abbrev pub AreCapitals : List ℕ → Type 0
AreCapitals name = AllByRecursion (λ x. IsTrue (is_capital x)) name

pub name_runs : (o : Open) (ps : List Prop) (a m w : List ℕ) → AreCapitals m
    → run (in_name o ps a) (m ++ w) ≡ run (in_name o ps (a ++ m)) w
name_runs o ps a [] w h = ap (λ b. run (in_name o ps b) w) (sym (append_nil a))
name_runs o ps a (x ∷ m) w h =
    let first = cond_true (is_capital x) (Some (in_name o ps (a ++ x ∷ [])))
    (cond (is_white_space x) (Some (after_name o ps a)) (cond (x == 91) (Some (in_value o ps a [] [])) None)) h.0 in
    ap (λ next. run_on next (m ++ w)) first ∙ name_runs o ps (a ++ x ∷ []) m w h.1
    ∙ ap (λ b. run (in_name o ps b) w) (append_assoc a (x ∷ []) m)

-- after a name, a gap and the `[` of a value
pub named_runs : (o : Open) (ps : List Prop) (n w more content : List ℕ) → Gap w more
    → more ≡ 91 ∷ content → run (in_name o ps n) w ≡ run (in_value o ps n [] []) content
named_runs o ps n [] more content g e = ap (run (in_name o ps n)) (g ∙ e)
named_runs o ps n (x ∷ w) more content (inl g) e = ap (run (in_name o ps n)) (g ∙ e)
named_runs o ps n (x ∷ w) more content (inr p) e =
    let value : Option State = cond (x == 91) (Some (in_value o ps n [] [])) None in
    let first = cond_false (is_capital x) (Some (in_name o ps (n ++ x ∷ [])))
    (cond (is_white_space x) (Some (after_name o ps n)) value) (space_no_capital x p.0) in
    let second = cond_true (is_white_space x) (Some (after_name o ps n)) value p.0 in
    ap (λ next. run_on next w) (first ∙ second)
    ∙ gap_runs (after_name o ps n) (λ y. cond (y == 91) (Some (in_value o ps n [] [])) None)
    (λ y. refl) w more p.1 ∙ ap (run (after_name o ps n)) e

-- The state has an open node with these properties: what is neither white space nor `[` goes on
-- from there.
abbrev pub Sits : State → Open → List Prop → Type 0
Sits s o ps = (x : ℕ) → is_white_space x ≡ false → (x == 91) ≡ false → step s x ≡ go_on o ps x

pub sits_in_node : (o : Open) (ps : List Prop) → Sits (in_node o ps) o ps
sits_in_node o ps x no_space no_bracket = cond_false (is_white_space x) (Some (in_node o ps))
    (go_on o ps x) no_space

pub sits_after_value : (o : Open) (ps : List Prop) (n : List ℕ) (vs : List (List ℕ))
    → Sits (after_value o ps n vs) o (add_prop ps n vs)
sits_after_value o ps n vs x no_space no_bracket =
    let next = go_on o (add_prop ps n vs) x in
    cond_false (is_white_space x) (Some (after_value o ps n vs))
    (cond (x == 91) (Some (in_value o ps n vs [])) next) no_space
    ∙ cond_false (x == 91) (Some (in_value o ps n vs [])) next no_bracket

pub prop_runs : (s : State) (o : Open) (ps : List Prop) → Sits s o ps
    → (n : List ℕ) (vs : List (List ℕ)) (w gap more r : List ℕ) → IsName n → IsFilled vs
    → w ≡ n ++ gap → Gap gap more → ValuesText vs more r → run s w ≡ run (after_value o ps n vs) r
prop_runs s o ps sits [] vs w gap more r name filled e g values = absurd name.0
prop_runs s o ps sits (x ∷ n) [] w gap more r name filled e g values = absurd filled
prop_runs s o ps sits (x ∷ n) (v ∷ vs) w gap more r name filled e g
    (after, rest, value, g2, others) =
    let capital = name.1.0 in
    let first = sits x (capital_no_space x capital) (capital_no_bracket x capital) in
    let second = cond_true (is_capital x) (Some (in_name o ps (x ∷ [])))
    (cond (x == 59) (Some (in_node (add_node o ps) [])) (turn (add_node o ps) x)) capital in
    let now = v ∷ [] in
    ap (run s) e ∙ ap (λ next. run_on next (n ++ gap)) (first ∙ second)
    ∙ name_runs o ps (x ∷ []) n gap name.1.1
    ∙ named_runs o ps (x ∷ n) gap more value.0 g value.1
    ∙ content_runs o ps (x ∷ n) [] v value.0 after [] value.2
    ∙ gap_runs (after_value o ps (x ∷ n) now)
    (λ y. cond (y == 91) (Some (in_value o ps (x ∷ n) now [])) (go_on o (add_prop ps (x ∷ n) now) y)) (λ y. refl) after rest g2
    ∙ values_runs o ps (x ∷ n) now vs rest r others

pub props_runs : (s : State) (o : Open) (ps more_ps : List Prop) (w r : List ℕ) → Sits s o ps
    → PropsText more_ps w r → (t : State) × Sits t o (ps ++ more_ps) × (run s w ≡ run t r)
props_runs s o ps [] w r sits e
    = (s, subst (λ qs. Sits s o qs) (sym (append_nil ps)) sits, ap (run s) e)
props_runs s o ps (p ∷ more_ps) w r sits (more, (gap, rest, name, filled, e, g, values), others) =
    let here = prop_runs s o ps sits p.name p.values w gap rest more name filled e g values in
    let then = props_runs (after_value o ps p.name p.values) o (ps ++ p ∷ []) more_ps more r
    (sits_after_value o ps p.name p.values) others in
    (then.0, subst (λ qs. Sits then.0 o qs) (append_assoc ps (p ∷ []) more_ps) then.1, here ∙ then.2)

abbrev pub add_nodes : Open → List Node → Open
add_nodes o nodes = record { outer = o.outer; nodes = o.nodes ++ nodes; kids = o.kids }

-- A state with an open node, which is the last of the nodes of these open trees.
abbrev pub Ends : State → Open → Type 0
Ends t all = (o : Open) × (ps : List Prop) × Sits t o ps × (add_node o ps ≡ all)

pub nodes_runs : (s : State) (o : Open) (ps : List Prop) (nodes : List Node) (w r : List ℕ)
    → Sits s o ps → NodesText nodes w r → (t : State) × Ends t (add_nodes (add_node o ps) nodes)
    × (run s w ≡ run t r)
nodes_runs s o ps [] w r sits e = (
  s,
  (o, ps, sits, ap (λ ns. let all : Open = record { outer = o.outer; nodes = ns; kids = o.kids } in all) (sym (append_nil (add_node o ps).nodes))),
  ap (run s) e,
)
nodes_runs s o ps (n ∷ nodes) w r sits (more, (gap, line, e, g, props), others) =
    let in_it = in_node (add_node o ps) [] in
    let here = props_runs in_it (add_node o ps) [] n.props line more
    (sits_in_node (add_node o ps) []) props in
    let then = nodes_runs here.0 (add_node o ps) n.props nodes more r here.1 others in
    let start = ap (run s) e ∙ ap (λ next. run_on next gap) (sits 59 refl refl) in
    let passed = gap_runs in_it (λ x. go_on (add_node o ps) [] x) (λ x. refl) gap line g in
    let same = ap (λ ns. let all : Open = record { outer = o.outer; nodes = ns; kids = o.kids } in all) (append_assoc (add_node o ps).nodes (n ∷ []) nodes) in
    (then.0, subst (λ all. Ends then.0 all) same then.1, start ∙ passed ∙ here.2 ∙ then.2)

-- after `(` and a gap
pub opened_runs : (o : Open) (nodes : List Node) (w r : List ℕ) → IsFilled nodes
    → NodesText nodes w r → (t : State) × Ends t (add_nodes o nodes) × (run (opened o) w ≡ run t r)
opened_runs o [] w r filled nodes = absurd filled
opened_runs o (n ∷ nodes) w r filled (more, (gap, line, e, g, props), others) =
    let here = props_runs (in_node o []) o [] n.props line more (sits_in_node o []) props in
    let then = nodes_runs here.0 o n.props nodes more r here.1 others in
    let passed = gap_runs (in_node o []) (λ x. go_on o [] x) (λ x. refl) gap line g in
    let same = ap (λ ns. let all : Open = record { outer = o.outer; nodes = ns; kids = o.kids } in all) (append_assoc o.nodes (n ∷ []) nodes) in
    (then.0, subst (λ all. Ends then.0 all) same then.1, ap (run (opened o)) e ∙ passed ∙ here.2 ∙ then.2)

-- The state has these open trees, and no open node but one that a parenthesis ends.
abbrev pub Stands : State → Open → Type 0
Stands s o = (step s 40 ≡ turn o 40) × (step s 41 ≡ turn o 41)

pub stands_at_end : (t : State) (all : Open) → Ends t all → Stands t all
stands_at_end t all (o, ps, sits, e)
    = subst (λ any. Stands t any) e (sits 40 refl refl, sits 41 refl refl)

abbrev pub add_kids : Open → GameTrees → Open
add_kids o kids = record { outer = o.outer; nodes = o.nodes; kids = join o.kids kids }

pub join-none : (kids : GameTrees) → join kids none ≡ kids
join-none none = refl
join-none (tree n k others) = ap (λ more. tree n k more) (join-none others)

pub join-join : (a b c : GameTrees) → join (join a b) c ≡ join a (join b c)
join-join none b c = refl
join-join (tree n k others) b c = ap (λ more. tree n k more) (join-join others b c)

-- where the reader stands after these kids
abbrev pub after_kids : State → Open → GameTrees → State
after_kids s o none = s
after_kids s o (tree n k others) = between (add_kids o (tree n k others))

pub after_kids_between : (o : Open) (kids others : GameTrees)
    → after_kids (between (add_kids o kids)) (add_kids o kids) others ≡ between
    (add_kids o (join kids others))
after_kids_between o kids none =
    ap (λ all. between (let some : Open = record { outer = o.outer; nodes = o.nodes; kids = join o.kids all } in some)) (sym (join-none kids))
after_kids_between o kids (tree n k others) =
    ap (λ all. between (let some : Open = record { outer = o.outer; nodes = o.nodes; kids = all } in some)) (join-join o.kids kids (tree n k others))

pub stands_after_kids : (s : State) (o : Open) (kids : GameTrees) → Stands s o
    → Stands (after_kids s o kids) (add_kids o kids)
stands_after_kids s o none h =
    subst (λ all. Stands s (let some : Open = record { outer = o.outer; nodes = o.nodes; kids = all } in some)) (sym (join-none o.kids)) h
stands_after_kids s o (tree n k others) h = (refl, refl)

pub trees_runs : (kids : GameTrees) (s : State) (o : Open) (w r : List ℕ) → Stands s o
    → TreesText kids w r → run s w ≡ run (after_kids s o kids) r
trees_runs none s o w r stands e = ap (run s) e
trees_runs (tree nodes kids others) s o w r stands
    (gap, line, under, behind, more, filled, e, g, ns, ks, g2, os) =
    let inner = open_tree o in
    let all = add_nodes inner nodes in
    let lined = opened_runs inner nodes line under filled ns in
    let ended = stands_at_end lined.0 all lined.1 in
    let deep = trees_runs kids lined.0 all under (41 ∷ behind) ended ks in
    let closes = stands_after_kids lined.0 all kids ended in
    let one = tree nodes kids none in
    let next = between (add_kids o one) in
    let start = ap (run s) e ∙ ap (λ found. run_on found gap) stands.0 in
    let passed = gap_runs (opened inner) (λ x. cond (x == 59) (Some (in_node inner [])) None)
    (λ x. refl) gap line g in
    let closed = ap (λ found. run_on found behind) closes.1 in
    let behind_it = gap_runs next (λ x. turn (add_kids o one) x) (λ x. refl) behind more g2 in
    let rest = trees_runs others next (add_kids o one) more r (refl, refl) os in
    start ∙ passed ∙ lined.2 ∙ deep ∙ closed ∙ behind_it ∙ rest
    ∙ ap (λ t. run t r) (after_kids_between o one others)

-- where the reader stands after a text of these trees
abbrev pub finished : GameTrees → State
finished trees = between (record { outer = []; nodes = []; kids = trees })

pub text_runs : (trees : GameTrees) (w : List ℕ) → Text trees w
    → run begin w ≡ Some (finished trees)
text_runs none w (more, some, g, ts) = absurd some
text_runs (tree n k others) w (more, some, g, ts) =
    let ground : Open = record { outer = []; nodes = []; kids = none } in
    gap_runs begin (λ x. turn ground x) (λ x. refl) w more g
    ∙ trees_runs (tree n k others) begin ground more [] (refl, refl) ts
