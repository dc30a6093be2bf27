-- The word of a step that fits a view in order is one of the table's.
use Rattle.std.proofs.Common.{◌≡◌, ℕ, zero, suc, ◌+◌, ◌*◌, ◌≤◌, ◌<◌, Bool, true, false, cond, List}
use Rattle.std.proofs.Common.{[], ◌∷◌, ◌++◌, length, Option, Some, None, refl, sym, subst, ⊎_elim}
use Rattle.std.proofs.Common.{arith}
use Rattle.std.specs.Prelude.{slice_get}
use Rattle.std.proofs.lemmas.Bool.{cases_Bool, or_cases, eqb-true}
use Rattle.hex_cells.specs.Sets.{has as has_cell}
use Rattle.hex_board.specs.Positions.{stones_of}
use Rattle.hex_board.specs.Wins.{is_same}
use Rattle.play_out.specs.declared.playouts.Ending.{Ending}
use Rattle.tree_words.specs.Settings.{Setting}
use Rattle.tree_words.specs.Words.{root_at, end_of}
use Rattle.tree_words.specs.Blocks.{LinkedBlock, has_node, is_node, size}
use Rattle.tree_words.specs.Paths.{node_state}
use Rattle.tree_words.specs.Sequence.{outcome_of}
use Rattle.tree_words.specs.declared.steps.Op.{Op}
use Rattle.tree_words.specs.declared.steps.Op.TheVariants.{Draw, Look, Claim, Write, Publish, Add}
use Rattle.tree_words.specs.declared.steps.Op.TheVariants.{Note, Done}
use Rattle.tree_words.proofs.Blocks.BlockLaws.{has-covers, covers_of}
use Rattle.arena_rule.specs.Views.{SeatView, Flight}
use Rattle.arena_rule.specs.Adds.{CountAdd, Gathered, seen_adds, node_adds, adds_up, walk_adds}
use Rattle.arena_rule.specs.Fits.{FitsStep, IsNext}
use Rattle.arena_rule.specs.Afters.{word_of}
use Rattle.arena_rule.specs.IsView.{IsView, AreTold}
use Rattle.arena_rule.proofs.Options.{none-some, some-eq}
use Rattle.arena_rule.specs.Owing.{Debtor, OwesRightly, CanGive}
use Rattle.arena_rule.proofs.Owing.{given-seen}

-- each of the adds is at a word below the end
AreBelow : ℕ → List CountAdd → Type 0
AreBelow end adds = (n : ℕ) (a : CountAdd) → slice_get adds n ≡ Some a → a.word < end

module _ (end : ℕ) where
  below-cons : (x : CountAdd) (xs : List CountAdd) → x.word < end → AreBelow end xs
      → AreBelow end (x ∷ xs)
  unfolding AreBelow
  below-cons x xs l h zero a e = subst (λ (y : CountAdd). y.word < end) (some-eq e) l
  below-cons x xs l h (suc n) a e = h n a e

  below-none : AreBelow end []
  unfolding AreBelow
  below-none n a e = absurd (none-some e)

  below-append : (xs ys : List CountAdd) → AreBelow end xs → AreBelow end ys
      → AreBelow end (xs ++ ys)
  unfolding AreBelow
  below-append [] ys h k n a e = k n a e
  below-append (x ∷ xs) ys h k n a e
      = below-cons x (xs ++ ys) (h 0 x refl) (below-append xs ys (λ m. h (suc m)) k) n a e

  below-seen : (set : ℕ) (won : Bool) (y : ℕ) (cs : List ℕ) → y + 4 * length cs ≤ end
      → AreBelow end (seen_adds set won y cs)
  below-seen set won y [] l = below-none
  below-seen set won y (c ∷ cs) l
      = by (has_cell set c) (below-seen set won (y + 4) cs (omega (arith, l)))
    where
      by : (t : Bool) → AreBelow end (seen_adds set won (y + 4) cs)
          → AreBelow end
          (cond t (record { word = y + 3; won = won } ∷ seen_adds set won (y + 4) cs) (seen_adds set won (y + 4) cs))
      by true h = below-cons (record { word = y + 3; won = won }) (seen_adds set won (y + 4) cs)
          (omega (arith, l)) h
      by false h = h

-- a node of told blocks lies before the end
node-below : (s : Setting) (ks : List LinkedBlock) (x : ℕ) → AreTold s ks
    → is_node (root_at s) ks x ≡ true → x + 3 < end_of s
node-below s [] x t n = omega (arith, eqb-true x (root_at s) n)
node-below s (b ∷ ks) x t n = ⊎_elim
    (λ (h : has_node b x ≡ true). let q = (covers_of (x + 3) b (has-covers b x 3 h (omega arith))).1 in let high = t.0.inside.1 in omega arith)
    (λ (h : is_node (root_at s) ks x ≡ true). node-below s ks x t.1 h)
    (or_cases (has_node b x) (is_node (root_at s) ks x) n)

-- the adds of a walk over told blocks
adds-below : (s : Setting) (o : Ending) (ks : List LinkedBlock) (y : ℕ) → AreTold s ks
    → AreBelow (end_of s) (adds_up s o ks y).adds
adds-below s o [] y t = below-cons (end_of s) _ [] (omega arith) (below-none (end_of s))
adds-below s o (b ∷ ks) y t =
    let above : Gathered = adds_up s o ks b.parent in
    let won : Bool = is_same o.winner above.state.player in
    let set : ℕ = stones_of o.full above.state.player in
    let seen : List CountAdd = seen_adds set won (b.start + 4) b.cells in
    let high : b.start + size b ≤ end_of s = t.0.inside.1 in
    ⊎_elim
    (λ (h : has_node b y ≡ true).
    let last = (covers_of (y + 2) b (has-covers b y 2 h (omega arith))).1 in
    subst (λ (u : Bool). AreBelow (end_of s) (cond u (node_adds o b y above) (adds_up s o ks y)).adds) (sym h)
    (below-cons (end_of s) (record { word = y + 2; won = won }) (seen ++ above.adds) (omega arith)
    (below-append (end_of s) seen above.adds (below-seen (end_of s) set won (b.start + 4) b.cells (omega (arith, high))) (adds-below s o ks b.parent t.1))))
    (λ (h : has_node b y ≡ false). subst (λ (u : Bool). AreBelow (end_of s) (cond u (node_adds o b y
    above) (adds_up s o ks y)).adds) (sym h) (adds-below s o ks y t.1))
    (cases_Bool (has_node b y))

walk-below : (s : Setting) (ks : List LinkedBlock) (k leaf : ℕ) → AreTold s ks
    → AreBelow (end_of s) (walk_adds s ks k leaf)
unfolding walk_adds
walk-below s ks k leaf t = adds-below s (outcome_of s k (node_state s ks leaf)) ks leaf t

-- a word that may be given to lies before the end
pub give-within : (d : Debtor) (i n : ℕ) → IsView d.view → OwesRightly d → CanGive d i n
    → i < end_of d.view.shape
give-within d i n iv h can =
    let seen = given-seen d i n h can in
    omega (arith, seen.word, node-below d.view.shape d.view.known seen.node iv.known seen.known)

module _ (v : SeatView) (iv : IsView v) where
  next-below : (k : ℕ) (f : Option Flight) (a : CountAdd) → IsNext v k f a → a.word < end_of v.shape
  unfolding AreBelow
  next-below k None a n = walk-below v.shape v.known k n.0 iv.known 0 a n.3
  next-below k (Some f) a n = walk-below v.shape v.known k f.leaf iv.known f.made a n

  pub word-within : (op : Op) → FitsStep v op → word_of op < end_of v.shape
  word-within Draw fits = omega arith
  word-within (Look i) fits = fits
  word-within (Claim size) fits = omega arith
  word-within (Write i n) fits =
      let high = (iv.held fits.block fits.held).1 in
      let left = fits.left in
      omega (arith, fits.next)
  word-within (Publish l b) fits
      = omega (arith, fits.link, node-below v.shape v.known fits.node iv.known fits.may.known)
  word-within (Add i won) fits
      = next-below fits.number v.adds (record { word = i; won = won }) fits.next
  word-within (Note k n) fits = let low = iv.ticket k fits.ticket in omega arith
  word-within Done fits = omega arith
