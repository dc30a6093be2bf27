-- How many lines the tree of a win has at most.
use Rattle.std.proofs.Common.{◌≡◌, ℕ, ◌+◌, ◌*◌, ◌≤◌, refl, subst, zero, suc, arith}
use Rattle.conn_store.specs.declared.entries.Kind.{Kind}
use Rattle.conn_store.specs.declared.entries.Kind.TheVariants.{Full, Semi}
use Rattle.hex_solve.specs.PlainSearch.{tree_lines}

pub tree_least : (kind : Kind) (m : ℕ) → 2 ≤ tree_lines kind m
tree_least Full zero = omega arith
tree_least Semi zero = omega arith
tree_least Full (suc m) = omega arith
tree_least Semi (suc m) = omega arith

pub tree_of_nine : (tree_lines Full 9 ≡ 7220) × (tree_lines Semi 9 ≡ 2532)
tree_of_nine = (refl, refl)

rises_by : (a b c d : ℕ) → a ≤ c → b ≤ d → 2 + a * b ≤ 2 + c * d
rises_by a b c d l m = grind arith

-- a tree of more cells has more lines
pub tree_rises : (kind : Kind) (m n : ℕ) → m ≤ n → tree_lines kind m ≤ tree_lines kind n
tree_rises Full zero n l = tree_least Full n
tree_rises Semi zero n l = tree_least Semi n
tree_rises kind (suc m) zero l = absurd (omega arith)
tree_rises Semi (suc m) (suc n) l = let r = tree_rises Full m n (omega arith) in
    add_two (tree_lines Full m) (tree_lines Full n) r
  where
    add_two : (x y : ℕ) → x ≤ y → 2 + x ≤ 2 + y
    add_two x y l = omega arith
tree_rises Full (suc m) (suc n) l
    = rises_by (suc m) (tree_lines Semi m) (suc n) (tree_lines Semi n) l
    (tree_rises Semi m n (omega arith))

pub tree_few : (kind : Kind) (m : ℕ) → m ≤ 9 → tree_lines kind m ≤ 7220
tree_few Full m l = subst (λ v. tree_lines Full m ≤ v) tree_of_nine.0 (tree_rises Full m 9 l)
tree_few Semi m l
    = at_most (tree_lines Semi m)
    (subst (λ v. tree_lines Semi m ≤ v) tree_of_nine.1 (tree_rises Semi m 9 l))
  where
    at_most : (x : ℕ) → x ≤ 2532 → x ≤ 7220
    at_most x l = omega arith
