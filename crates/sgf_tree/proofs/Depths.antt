-- How deep the reader has been: a byte opens a tree, or leaves the greatest number of open trees as
-- it was.
use Rattle.std.proofs.Common.{◌≡◌, ℕ, suc, ◌+◌, ◌≤◌, max, Bool, cond, ap, ◌==◌, List, [], ◌∷◌, ◌++◌}
use Rattle.std.proofs.Common.{length, Option, Some, None, arith}
use Rattle.sgf_tree.specs.declared.lists.Prop.{Prop}
use Rattle.sgf_tree.specs.declared.lists.Node.{Node}
use Rattle.sgf_tree.specs.Trees.{GameTrees, none, tree, depth}
use Rattle.sgf_tree.specs.Grammar.{is_white_space, is_capital}
use Rattle.sgf_tree.specs.Reading.{join, Branch, Open, State, between, opened, in_node, in_name}
use Rattle.sgf_tree.specs.Reading.{after_name, in_value, escaped, after_value, open_tree, add_node}
use Rattle.sgf_tree.specs.Reading.{close_into, turn, go_on, add_prop, step, run_on, open_of}
use Rattle.sgf_tree.specs.Reading.{deepest, deepest_of}
use Rattle.sgf_tree.proofs.Choices.{by_cond}

depth-join : (a b : GameTrees) → depth (join a b) ≡ max (depth a) (depth b)
depth-join none b = omega arith
depth-join (tree n k others) b = omega (arith, depth-join others b)

pub open_le_deepest : (outer : List Branch) (kids : GameTrees) → length outer ≤ deepest outer kids
open_le_deepest [] kids = omega arith
open_le_deepest (b ∷ outer) kids = omega arith

pub deepest-join : (outer : List Branch) (kids : GameTrees) (ns : List Node) (ks : GameTrees)
    → deepest outer (join kids (tree ns ks none)) ≡ max (deepest outer kids)
    (suc (length outer) + depth ks)
deepest-join [] kids ns ks = omega (arith, depth-join kids (tree ns ks none))
deepest-join (b ∷ outer) kids ns ks = omega (arith, depth-join kids (tree ns ks none))

-- the greatest number after a byte, from these open trees
abbrev pub Grows : List Branch → GameTrees → Option State → Type 0
Grows outer kids None = Unit {0}
Grows outer kids (Some t) = deepest_of t ≡ max (deepest outer kids) (length (open_of t).outer)

same_grows : (outer : List Branch) (kids : GameTrees)
    → deepest outer kids ≡ max (deepest outer kids) (length outer)
same_grows outer kids = omega (arith, open_le_deepest outer kids)

close_grows : (outer : List Branch) (nodes : List Node) (kids : GameTrees)
    → Grows outer kids (close_into outer nodes kids)
close_grows [] nodes kids = tt
close_grows (b ∷ outer) nodes kids
    = omega (arith, deepest-join outer b.kids nodes kids, open_le_deepest outer b.kids)

turn_grows : (o : Open) (x : ℕ) → Grows o.outer o.kids (turn o x)
turn_grows o x =
    by_cond (Grows o.outer o.kids) (x == 40) (Some (opened (open_tree o)))
    (cond (x == 41) (close_into o.outer o.nodes o.kids) None)
    (λ _. omega (arith, open_le_deepest o.outer o.kids))
    (λ _. by_cond (Grows o.outer o.kids) (x == 41) (close_into o.outer o.nodes o.kids) None (λ _. close_grows o.outer o.nodes o.kids) (λ _. tt))

go_on_grows : (o : Open) (ps : List Prop) (x : ℕ) → Grows o.outer o.kids (go_on o ps x)
go_on_grows o ps x =
    let same = same_grows o.outer o.kids in
    let ends = turn (add_node o ps) x in
    by_cond (Grows o.outer o.kids) (is_capital x) (Some (in_name o ps (x ∷ [])))
    (cond (x == 59) (Some (in_node (add_node o ps) [])) ends)
    (λ _. same)
    (λ _. by_cond (Grows o.outer o.kids) (x == 59) (Some (in_node (add_node o ps) [])) ends (λ _. same) (λ _. turn_grows (add_node o ps) x))

-- a state of the same open trees, or none
same_or : (o : Open) (b : Bool) (s : State) (other : Option State)
    → deepest_of s ≡ max (deepest o.outer o.kids) (length (open_of s).outer)
    → Grows o.outer o.kids other → Grows o.outer o.kids (cond b (Some s) other)
same_or o b s other here there =
    by_cond (Grows o.outer o.kids) b (Some s) other (λ _. here) (λ _. there)

pub grows : (s : State) (x : ℕ) → Grows (open_of s).outer (open_of s).kids (step s x)
grows (between o) x = same_or o (is_white_space x) (between o) (turn o x)
    (same_grows o.outer o.kids) (turn_grows o x)
grows (opened o) x =
    let same = same_grows o.outer o.kids in
    same_or o (is_white_space x) (opened o) (cond (x == 59) (Some (in_node o [])) None) same
    (same_or o (x == 59) (in_node o []) None same tt)
grows (in_node o ps) x =
    same_or o (is_white_space x) (in_node o ps) (go_on o ps x) (same_grows o.outer o.kids)
    (go_on_grows o ps x)
grows (in_name o ps n) x =
    let same = same_grows o.outer o.kids in
    let value : Option State = cond (x == 91) (Some (in_value o ps n [] [])) None in
    same_or o (is_capital x) (in_name o ps (n ++ x ∷ []))
    (cond (is_white_space x) (Some (after_name o ps n)) value) same
    (same_or o (is_white_space x) (after_name o ps n) value same (same_or o (x == 91) (in_value o ps n [] []) None same tt))
grows (after_name o ps n) x =
    let same = same_grows o.outer o.kids in
    same_or o (is_white_space x) (after_name o ps n)
    (cond (x == 91) (Some (in_value o ps n [] [])) None) same
    (same_or o (x == 91) (in_value o ps n [] []) None same tt)
grows (in_value o ps n vs a) x =
    let same = same_grows o.outer o.kids in
    let plain : Option State = Some (in_value o ps n vs (a ++ x ∷ [])) in
    same_or o (x == 92) (escaped o ps n vs a)
    (cond (x == 93) (Some (after_value o ps n (vs ++ a ∷ []))) plain) same
    (same_or o (x == 93) (after_value o ps n (vs ++ a ∷ [])) plain same same)
grows (escaped o ps n vs a) x = same_grows o.outer o.kids
grows (after_value o ps n vs) x =
    let same = same_grows o.outer o.kids in
    let on = go_on o (add_prop ps n vs) x in
    same_or o (is_white_space x) (after_value o ps n vs)
    (cond (x == 91) (Some (in_value o ps n vs [])) on) same
    (same_or o (x == 91) (in_value o ps n vs []) on same (go_on_grows o (add_prop ps n vs) x))

-- from no state, or from one that was not deeper
abbrev pub UpTo : Option State → State → Type 0
UpTo None t = ⊥
UpTo (Some s) t = deepest_of s ≤ deepest_of t

still_up_to : (s : State) (next : Option State) (t : State)
    → Grows (open_of s).outer (open_of s).kids next → UpTo next t → deepest_of s ≤ deepest_of t
still_up_to s None t grown up = absurd up
still_up_to s (Some u) t grown up = omega arith

pub run_up_to : (w : List ℕ) (next : Option State) (t : State) → run_on next w ≡ Some t
    → UpTo next t
run_up_to [] None t e = cc
run_up_to [] (Some s) t e = let same : s ≡ t = cc in
    let deep : deepest_of s ≡ deepest_of t = ap deepest_of same in omega arith
run_up_to (x ∷ w) None t e = cc
run_up_to (x ∷ w) (Some s) t e = still_up_to s (step s x) t (grows s x) (run_up_to w (step s x) t e)
