-- Whatever the reader has gone over, some bytes complete it, and open no tree beyond those that are
-- open and one.
use Rattle.std.proofs.Common.{◌≡◌, ℕ, ◌≤◌, max, Bool, cond, refl, ap, ◌∙◌, ◌==◌, List, [], ◌∷◌}
use Rattle.std.proofs.Common.{◌++◌, Option, Some, None, arith}
use Rattle.sgf_tree.specs.declared.lists.Prop.{Prop}
use Rattle.sgf_tree.specs.declared.lists.Node.{Node}
use Rattle.sgf_tree.specs.Trees.{GameTrees, none, tree, depth}
use Rattle.sgf_tree.specs.Grammar.{is_white_space, is_capital, IsFilled, HasTree}
use Rattle.sgf_tree.specs.Reading.{join, Branch, Open, State, between, opened, in_node, in_name}
use Rattle.sgf_tree.specs.Reading.{after_name, in_value, escaped, after_value, open_tree, add_node}
use Rattle.sgf_tree.specs.Reading.{close_into, turn, go_on, add_prop, step, run_on, run, deepest}
use Rattle.sgf_tree.specs.Reading.{deepest_of}
use Rattle.sgf_tree.proofs.Choices.{by_cond}
use Rattle.sgf_tree.proofs.Depths.{deepest-join}

-- Where no tree is open the reader stands between trees.
abbrev pub IsFine : State → Type 0
IsFine (between o) = Unit {0}
IsFine (opened o) = IsFilled o.outer
IsFine (in_node o ps) = IsFilled o.outer
IsFine (in_name o ps n) = IsFilled o.outer
IsFine (after_name o ps n) = IsFilled o.outer
IsFine (in_value o ps n vs a) = IsFilled o.outer
IsFine (escaped o ps n vs a) = IsFilled o.outer
IsFine (after_value o ps n vs) = IsFilled o.outer

abbrev pub IsFineIfAny : Option State → Type 0
IsFineIfAny None = Unit {0}
IsFineIfAny (Some s) = IsFine s

fine_or : (b : Bool) (s : State) (other : Option State) → IsFine s → IsFineIfAny other
    → IsFineIfAny (cond b (Some s) other)
fine_or b s other here there = by_cond IsFineIfAny b (Some s) other (λ _. here) (λ _. there)

close_fine : (outer : List Branch) (nodes : List Node) (kids : GameTrees)
    → IsFineIfAny (close_into outer nodes kids)
close_fine [] nodes kids = tt
close_fine (b ∷ outer) nodes kids = tt

turn_fine : (o : Open) (x : ℕ) → IsFineIfAny (turn o x)
turn_fine o x =
    fine_or (x == 40) (opened (open_tree o))
    (cond (x == 41) (close_into o.outer o.nodes o.kids) None) tt
    (by_cond IsFineIfAny (x == 41) (close_into o.outer o.nodes o.kids) None (λ _. close_fine o.outer o.nodes o.kids) (λ _. tt))

go_on_fine : (o : Open) (ps : List Prop) (x : ℕ) → IsFilled o.outer → IsFineIfAny (go_on o ps x)
go_on_fine o ps x fine =
    let ends = turn (add_node o ps) x in
    fine_or (is_capital x) (in_name o ps (x ∷ []))
    (cond (x == 59) (Some (in_node (add_node o ps) [])) ends) fine
    (fine_or (x == 59) (in_node (add_node o ps) []) ends fine (turn_fine (add_node o ps) x))

step_fine : (s : State) (x : ℕ) → IsFine s → IsFineIfAny (step s x)
step_fine (between o) x fine = fine_or (is_white_space x) (between o) (turn o x) tt (turn_fine o x)
step_fine (opened o) x fine =
    fine_or (is_white_space x) (opened o) (cond (x == 59) (Some (in_node o [])) None) fine
    (fine_or (x == 59) (in_node o []) None fine tt)
step_fine (in_node o ps) x fine = fine_or (is_white_space x) (in_node o ps) (go_on o ps x) fine
    (go_on_fine o ps x fine)
step_fine (in_name o ps n) x fine =
    let value : Option State = cond (x == 91) (Some (in_value o ps n [] [])) None in
    fine_or (is_capital x) (in_name o ps (n ++ x ∷ []))
    (cond (is_white_space x) (Some (after_name o ps n)) value) fine
    (fine_or (is_white_space x) (after_name o ps n) value fine (fine_or (x == 91) (in_value o ps n [] []) None fine tt))
step_fine (after_name o ps n) x fine =
    fine_or (is_white_space x) (after_name o ps n)
    (cond (x == 91) (Some (in_value o ps n [] [])) None) fine
    (fine_or (x == 91) (in_value o ps n [] []) None fine tt)
step_fine (in_value o ps n vs a) x fine =
    let plain : Option State = Some (in_value o ps n vs (a ++ x ∷ [])) in
    fine_or (x == 92) (escaped o ps n vs a)
    (cond (x == 93) (Some (after_value o ps n (vs ++ a ∷ []))) plain) fine
    (fine_or (x == 93) (after_value o ps n (vs ++ a ∷ [])) plain fine fine)
step_fine (escaped o ps n vs a) x fine = fine
step_fine (after_value o ps n vs) x fine =
    let on = go_on o (add_prop ps n vs) x in
    fine_or (is_white_space x) (after_value o ps n vs)
    (cond (x == 91) (Some (in_value o ps n vs [])) on) fine
    (fine_or (x == 91) (in_value o ps n vs []) on fine (go_on_fine o (add_prop ps n vs) x fine))

pub run_fine : (w : List ℕ) (next : Option State) (t : State) → IsFineIfAny next
    → run_on next w ≡ Some t → IsFine t
run_fine [] None t fine e = cc
run_fine [] (Some s) t fine e = let same : s ≡ t = cc in rw same at fine
run_fine (x ∷ w) None t fine e = cc
run_fine (x ∷ w) (Some s) t fine e = run_fine w (step s x) t (step_fine s x fine) e

-- bytes lead from the state out of all trees, and no deeper than this
abbrev pub CanEnd : State → ℕ → Type 0
CanEnd s deep =
    (q : List ℕ) × (o : Open) × (run s q ≡ Some (between o)) × (o.outer ≡ []) × HasTree o.kids
    × (depth o.kids ≤ max 1 deep)

by_byte : (s : State) (x : ℕ) (t : State) (deep : ℕ) → step s x ≡ Some t → CanEnd t deep
    → CanEnd s deep
by_byte s x t deep e (q, o, goes, ground, some, shallow) =
    (x ∷ q, o, ap (λ next. run_on next q) e ∙ goes, ground, some, shallow)

shallower : (s : State) (a b : ℕ) → max 1 a ≤ max 1 b → CanEnd s a → CanEnd s b
shallower s a b le (q, o, goes, ground, some, shallow) = (q, o, goes, ground, some, omega arith)

between_ends : (outer : List Branch) (nodes : List Node) (kids : GameTrees)
    → CanEnd (between (record { outer = outer; nodes = nodes; kids = kids })) (deepest outer kids)
between_ends [] nodes none
    = (40 ∷ 59 ∷ 41 ∷ [], record { outer = []; nodes = nodes; kids = tree (record { props = [] } ∷ []) none none }, refl, refl, tt, omega arith)
between_ends [] nodes (tree n k others) =
    ([], record { outer = []; nodes = nodes; kids = tree n k others }, refl, refl, tt, omega arith)
between_ends (b ∷ outer) nodes kids =
    let all = join b.kids (tree nodes kids none) in
    let here : State = between (record { outer = b ∷ outer; nodes = nodes; kids = kids }) in
    let next : State = between (record { outer = outer; nodes = b.nodes; kids = all }) in
    shallower here (deepest outer all) (deepest (b ∷ outer) kids)
    (omega (arith, deepest-join outer b.kids nodes kids))
    (by_byte here 41 next (deepest outer all) refl (between_ends outer b.nodes all))

-- an open node is ended by the `)` of its tree
closed_ends : (s : State) (outer : List Branch) (nodes : List Node) (kids : GameTrees)
    → IsFilled outer → step s 41 ≡ close_into outer nodes kids → CanEnd s (deepest outer kids)
closed_ends s [] nodes kids filled e = absurd filled
closed_ends s (b ∷ outer) nodes kids filled e =
    let all = join b.kids (tree nodes kids none) in
    let next : State = between (record { outer = outer; nodes = b.nodes; kids = all }) in
    shallower s (deepest outer all) (deepest (b ∷ outer) kids)
    (omega (arith, deepest-join outer b.kids nodes kids))
    (by_byte s 41 next (deepest outer all) e (between_ends outer b.nodes all))

after_value_ends : (o : Open) (ps : List Prop) (n : List ℕ) (vs : List (List ℕ)) → IsFilled o.outer
    → CanEnd (after_value o ps n vs) (deepest o.outer o.kids)
after_value_ends o ps n vs fine
    = closed_ends (after_value o ps n vs) o.outer
    (add_node o (add_prop ps n vs)).nodes o.kids fine refl

in_value_ends : (o : Open) (ps : List Prop) (n : List ℕ) (vs : List (List ℕ)) (a : List ℕ)
    → IsFilled o.outer → CanEnd (in_value o ps n vs a) (deepest o.outer o.kids)
in_value_ends o ps n vs a fine =
    by_byte (in_value o ps n vs a) 93 (after_value o ps n (vs ++ a ∷ []))
    (deepest o.outer o.kids) refl (after_value_ends o ps n (vs ++ a ∷ []) fine)

pub ends : (s : State) → IsFine s → CanEnd s (deepest_of s)
ends (between o) fine = between_ends o.outer o.nodes o.kids
ends (opened o) fine =
    by_byte (opened o) 59 (in_node o []) (deepest o.outer o.kids) refl
    (closed_ends (in_node o []) o.outer (add_node o []).nodes o.kids fine refl)
ends (in_node o ps) fine = closed_ends (in_node o ps) o.outer (add_node o ps).nodes o.kids fine refl
ends (in_name o ps n) fine =
    by_byte (in_name o ps n) 91 (in_value o ps n [] []) (deepest o.outer o.kids) refl
    (in_value_ends o ps n [] [] fine)
ends (after_name o ps n) fine =
    by_byte (after_name o ps n) 91 (in_value o ps n [] []) (deepest o.outer o.kids) refl
    (in_value_ends o ps n [] [] fine)
ends (in_value o ps n vs a) fine = in_value_ends o ps n vs a fine
ends (escaped o ps n vs a) fine =
    by_byte (escaped o ps n vs a) 93 (in_value o ps n vs (a ++ 93 ∷ []))
    (deepest o.outer o.kids) refl (in_value_ends o ps n vs (a ++ 93 ∷ []) fine)
ends (after_value o ps n vs) fine = after_value_ends o ps n vs fine
