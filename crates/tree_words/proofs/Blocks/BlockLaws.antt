-- What stays when a block is put before the others.
use Rattle.std.proofs.Common.{◌≡◌, ◌⊎◌, ℕ, zero, suc, ◌+◌, ◌-◌, ◌*◌, ◌/◌, ◌%◌, ◌≤◌, ◌<◌, Bool, true}
use Rattle.std.proofs.Common.{false, cond, List, [], ◌∷◌, length, get_or, refl, ap, ⊎_elim, inl}
use Rattle.std.proofs.Common.{inr, arith}
use Rattle.std.specs.Prelude.{◌==◌, nat_lt, nat_le, ◌&&◌}
use Rattle.std.proofs.lemmas.Bool.Decides.{nat_tests}
use Rattle.std.proofs.lemmas.List.Sums.{sum_by-cons}
use Rattle.tree_words.specs.Words.{move_word}
use Rattle.tree_words.specs.Blocks.{LinkedBlock, one_if, size, covers, has_node, up, is_node}
use Rattle.tree_words.specs.Blocks.{header_or_move, is_header_or_move, cover, Follows}
use Rattle.std.proofs.lemmas.Bool.{eq-eqb, and_parts, leb-true, ltb-true, eqb-true, or_cases}
use Rattle.std.proofs.lemmas.Bool.{false_from_ne_true, both_ways, or_right}

-- no test is both
pub clash : (t : Bool) → t ≡ true → t ≡ false → ⊥
clash t a b = both_ways t b a

pub covers_of : (i : ℕ) (b : LinkedBlock) → covers i b ≡ true
    → (b.start ≤ i) × (i < b.start + size b)
covers_of i b e = let t = and_parts (nat_le b.start i) (nat_lt i (b.start + size b)) e in
    (leb-true _ _ t.0, ltb-true _ _ t.1)

pub covers_if : (i : ℕ) (b : LinkedBlock) → b.start ≤ i → i < b.start + size b → covers i b ≡ true
covers_if i b l h = both (b.start) i (b.start + size b) l h
  where
    both : (a i c : ℕ) → a ≤ i → i < c → (nat_le a i && nat_lt i c) ≡ true
    both a i c l h = grind (arith, nat_tests)

-- where a node of the block is
pub has-at : (b : LinkedBlock) (x : ℕ) → has_node b x ≡ true → (k : ℕ) × (k < length b.cells)
    × (x ≡ b.start + (4 + 4 * k))
has-at b x h =
    let t = and_parts (nat_le (b.start + 4) x)
    (nat_lt x (b.start + size b) && ((x - b.start) % 4 == 0)) h in
    let u = and_parts (nat_lt x (b.start + size b)) ((x - b.start) % 4 == 0) t.1 in
    let low : b.start + 4 ≤ x = leb-true _ _ t.0 in
    let high : x < b.start + size b = ltb-true _ _ u.0 in
    let even : (x - b.start) % 4 ≡ 0 = eqb-true _ _ u.1 in
    ((x - b.start) / 4 - 1, omega arith, omega arith)

pub has-here : (b : LinkedBlock) (k : ℕ) → k < length b.cells
    → has_node b (b.start + (4 + 4 * k)) ≡ true
has-here b k l = all (b.start) k (length b.cells) l
  where
    all : (a k n : ℕ) → k < n
        → (nat_le (a + 4) (a + (4 + 4 * k)) && (nat_lt (a + (4 + 4 * k)) (a + (4 + 4 * n)) && ((a + (4 + 4 * k) - a) % 4 == 0))) ≡ true
    all a k n l = let even : (a + (4 + 4 * k) - a) % 4 ≡ 0 = omega arith in grind (arith, nat_tests)

-- a node's words lie in its block
pub has-covers : (b : LinkedBlock) (x i : ℕ) → has_node b x ≡ true → i < 4 → covers (x + i) b ≡ true
has-covers b x i h l = let t = has-at b x h in covers_if (x + i) b (omega arith) (omega arith)

module _ {A : Type 0} (root : A) (step : LinkedBlock → ℕ → A → A) where
  pub up_same : (b : LinkedBlock) (bs : List LinkedBlock) (x : ℕ) → has_node b x ≡ false
      → up root step (b ∷ bs) x ≡ up root step bs x
  up_same b bs x e
      = ap (λ (t : Bool). cond t (step b x (up root step bs b.parent)) (up root step bs x)) e

pub cover-cons : (i : ℕ) (b : LinkedBlock) (bs : List LinkedBlock)
    → cover i (b ∷ bs) ≡ one_if (covers i b) + cover i bs
cover-cons i b bs = sum_by-cons (λ (c : LinkedBlock). one_if (covers i c)) b bs

-- a node's words are covered, or it is the root
pub node-cover : (r : ℕ) (bs : List LinkedBlock) (x i : ℕ) → is_node r bs x ≡ true → i < 4
    → (x ≡ r) ⊎ (0 < cover (x + i) bs)
node-cover r [] x i n l = inl (eqb-true x r n)
node-cover r (b ∷ bs) x i n l = ⊎_elim
    (λ (h : has_node b x ≡ true). inr (omega (arith, cover-cons (x + i) b bs, ap one_if (has-covers b x i h l))))
    (λ (h : is_node r bs x ≡ true). ⊎_elim (λ (e : x ≡ r). inl e) (λ (p : 0 < cover (x + i) bs). inr (omega (
      arith,
      cover-cons (x + i) b bs,
    ))) (node-cover r bs x i h l))
    (or_cases (has_node b x) (is_node r bs x) n)

-- no word of a node of the others lies in the new block
pub node-apart : (r : ℕ) (b : LinkedBlock) (bs : List LinkedBlock) (x i : ℕ) → Follows r b bs
    → is_node r bs x ≡ true → i < 4 → covers (x + i) b ≡ false
node-apart r b bs x i f n l = false_from_ne_true (covers (x + i) b) (λ h. ⊎_elim
    (λ (e : x ≡ r). let t = covers_of (x + i) b h in let low = f.root in omega arith)
    (λ (p : 0 < cover (x + i) bs). let z = f.clear (x + i) h in omega arith)
    (node-cover r bs x i n l))

-- a node of the others is no node of the new block
pub apart : (r : ℕ) (b : LinkedBlock) (bs : List LinkedBlock) (x : ℕ) → Follows r b bs
    → is_node r bs x ≡ true → has_node b x ≡ false
apart r b bs x f n
    = false_from_ne_true (has_node b x)
    (λ h. no (covers (x + 0) b) (has-covers b x 0 h (omega arith)) (node-apart r b bs x 0 f n (omega arith)))
  where
    no : (t : Bool) → t ≡ true → t ≡ false → ⊥
    no t a b = cc

-- the word of a move
pub move-word : (b : LinkedBlock) (k : ℕ)
    → header_or_move b (4 + 4 * k) ≡ move_word k (get_or b.cells k 0)
move-word b k = at b (4 + 4 * k) k refl
  where
    at : (b : LinkedBlock) (i k : ℕ) → i ≡ 4 + 4 * k
        → header_or_move b i ≡ move_word k (get_or b.cells k 0)
    at b zero k e = absurd (omega arith)
    at b (suc zero) k e = absurd (omega arith)
    at b (suc (suc zero)) k e = absurd (omega arith)
    at b (suc (suc (suc zero))) k e = absurd (omega arith)
    at b (suc (suc (suc (suc i)))) k e = let q : i / 4 ≡ k = omega arith in
        ap (λ (j : ℕ). move_word j (get_or b.cells j 0)) q

pub move-stays : (k : ℕ) → is_header_or_move (4 + 4 * k) ≡ true
move-stays k = let m : (4 + 4 * k) % 4 ≡ 0 = omega arith in grind (arith, nat_tests)

-- the root is a node
pub root_node : (r : ℕ) (bs : List LinkedBlock) → is_node r bs r ≡ true
root_node r [] = eq-eqb r r refl
root_node r (b ∷ bs) = or_right (has_node b r) (is_node r bs r) (root_node r bs)
