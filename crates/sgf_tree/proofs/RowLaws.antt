-- Rows of trees: a tree of a list is smaller than the list, and what is printed of one more tree.
use Rattle.std.proofs.Common.{◌≡◌, ℕ, zero, suc, ◌+◌, ◌<◌, List, [], ◌∷◌, ◌++◌, length, get_or}
use Rattle.std.proofs.Common.{refl, sym, arith, append_assoc, flat_map}
use Rattle.sgf_tree.specs.declared.trees.Tree.{Tree}
use Rattle.sgf_tree.specs.Trees.{trees_size}
use Rattle.sgf_tree.specs.Rows.{row}
use Rattle.sgf_tree.specs.Printing.{trees_print, node_print}

pub kid_falls : (ts : List Tree) (i : ℕ) (t : Tree) → i < length ts → get_or ts i t ≡ t
    → trees_size t.kids + 1 < trees_size (row ts)
kid_falls [] i t inside is = absurd (omega arith)
kid_falls (x ∷ ts) zero t inside is = rw (← is) (omega arith)
kid_falls (x ∷ ts) (suc i) t inside is =
    let below : i < length ts = omega arith in
    omega (arith, kid_falls ts i t below is)

pub trees_print-append : (xs ys : List Tree)
    → trees_print (row (xs ++ ys)) ≡ trees_print (row xs) ++ trees_print (row ys)
trees_print-append [] ys = refl
trees_print-append (x ∷ xs) ys =
    let front : List ℕ = 40 ∷ (flat_map node_print x.nodes ++ trees_print x.kids ++ 41 ∷ []) in
    rw (trees_print-append xs ys)
    (sym (append_assoc front (trees_print (row xs)) (trees_print (row ys))))
