-- A new block changes no amount, and the words of its nodes have none.
use Rattle.std.proofs.Common.{◌≡◌, ℕ, suc, ◌+◌, ◌<◌, ◌≤◌, Bool, true, false, cond, List, [], ◌∷◌}
use Rattle.std.proofs.Common.{take, Option, Some, None, refl, sym, ap, ◌∙◌, ⊎_elim, arith}
use Rattle.std.specs.Prelude.{slice_index, sum_by, Contains}
use Rattle.std.proofs.lemmas.List.Sums.{sum_by-cons}
use Rattle.std.proofs.lemmas.List.FromFn.{get_or-map-range_with_len}
use Rattle.tree_words.specs.Settings.{Setting}
use Rattle.tree_words.specs.Words.{root_at, leaf_in}
use Rattle.tree_words.specs.Blocks.{LinkedBlock, size, has_node, is_node, InOrder, Follows}
use Rattle.tree_words.specs.Blocks.{is_header_or_move, header_or_move}
use Rattle.arena_rule.specs.Views.{SeatView, Flight, Walked}
use Rattle.arena_rule.specs.Adds.{CountAdd, walk_adds, amount_at}
use Rattle.arena_rule.specs.Lookups.{adds_made}
use Rattle.arena_rule.specs.Fits.{block_words}
use Rattle.arena_rule.specs.Parts.{Each, Sums, amount_recorded, amount_counted}
use Rattle.arena_rule.proofs.Totals.{total_same, total_none}
use Rattle.arena_rule.proofs.Amounts.{amount-parts, wins-less, adds-take}
use Rattle.arena_rule.proofs.AddLaws.{amount-new, adds-linked}
use Rattle.std.proofs.lemmas.Bool.{or_cases}

-- sums over walks
pub walks-same : (f g : Walked → ℕ) (walks : List Walked)
    → ((q : Walked) → Contains walks q → f q ≡ g q) → sum_by f walks ≡ sum_by g walks
walks-same f g [] h = refl
walks-same f g (q ∷ walks) h =
    omega (
      arith,
      sum_by-cons f q walks,
      sum_by-cons g q walks,
      h q (0, omega arith, refl),
      walks-same f g walks (λ w c. h w (suc c.0, (let l = c.1 in omega arith), c.2)),
    )

pub walks-none : (f : Walked → ℕ) (walks : List Walked) → ((q : Walked) → f q ≡ 0)
    → sum_by f walks ≡ 0
walks-none f [] h = refl
walks-none f (q ∷ walks) h = omega (arith, sum_by-cons f q walks, h q, walks-none f walks h)

-- the adds made are the same over two lists of blocks if the walk's are
pub made-same : (s : Setting) (ks ls : List LinkedBlock) (ticket : Option ℕ) (adds : Option Flight)
    → ((k : ℕ) (f : Flight) → ticket ≡ Some k → adds ≡ Some f → walk_adds s ks k f.leaf ≡ walk_adds s ls k f.leaf) → adds_made s ks ticket adds
    ≡ adds_made s ls ticket adds
made-same s ks ls None adds h = refl
made-same s ks ls (Some k) None h = refl
made-same s ks ls (Some k) (Some f) h = ap (take f.made) (h k f refl refl)

-- each walk of the view, recorded or in flight, has a node of the tree as its leaf
pub record HasLeaves (s : Setting) (bs : List LinkedBlock) (u : SeatView) : Type 0 where
  pub walks : (q : Walked) → Contains u.walks q → is_node (root_at s) bs (leaf_in q.value) ≡ true
  pub flight : (k : ℕ) (f : Flight) → u.ticket ≡ Some k → u.adds ≡ Some f
      → is_node (root_at s) bs f.leaf ≡ true

module _ (s : Setting) (bs : List LinkedBlock) (order : InOrder (root_at s) bs) (c : LinkedBlock)
    (f : Follows (root_at s) c bs) where
  -- a new block changes no amount
  counted-linked : (w : ℕ) (u : SeatView) → HasLeaves s bs u
      → amount_counted s (c ∷ bs) w u ≡ amount_counted s bs w u
  counted-linked w u h =
      let walks : amount_recorded s (c ∷ bs) w u.walks ≡ amount_recorded s bs w u.walks
      = walks-same (λ q. amount_at w (walk_adds s (c ∷ bs) q.number (leaf_in q.value)))
      (λ q. amount_at w (walk_adds s bs q.number (leaf_in q.value))) u.walks
      (λ q d. ap (amount_at w) (adds-linked s bs order q.number (leaf_in q.value) c f (h.walks q d))) in
      let made : adds_made s (c ∷ bs) u.ticket u.adds ≡ adds_made s bs u.ticket u.adds
      = made-same s (c ∷ bs) bs u.ticket u.adds
      (λ k g t a. adds-linked s bs order k g.leaf c f (h.flight k g t a)) in
      λ i. walks i + amount_at w (made i)

  -- and the words of its nodes get nothing
  counted-new : (x i : ℕ) (u : SeatView) → has_node c x ≡ true → i < 4
      → amount_counted s bs (x + i) u ≡ 0
  counted-new x i u h l =
      omega (
        arith,
        walks-none (λ q. amount_at (x + i) (walk_adds s bs q.number (leaf_in q.value))) u.walks
            (λ q. amount-new s bs order q.number (leaf_in q.value) c x i f h l),
        made u.ticket u.adds,
      )
    where
      made : (ticket : Option ℕ) (adds : Option Flight)
          → amount_at (x + i) (adds_made s bs ticket adds) ≡ 0
      made None adds = refl
      made (Some k) None = refl
      made (Some k) (Some g) =
          let all : List CountAdd = walk_adds s bs k g.leaf in
          omega (
            arith,
            amount-parts (x + i) all,
            amount-new s bs order k g.leaf c x i f h l,
            adds-take (x + i) g.made all,
            amount-parts (x + i) (take g.made all),
            wins-less (x + i) (take g.made all),
          )

  -- the sums over the blocks with a new one, in whose nodes nothing is counted
  pub sums-linked : (words : List ℕ) (views : List SeatView) → Sums s bs words views
      → Each (HasLeaves s bs) views
      → ((x i : ℕ) → has_node c x ≡ true → 2 ≤ i → i < 4 → slice_index words (x + i) ≡ 0)
      → Sums s (c ∷ bs) words views
  sums-linked words views old leaves none =
      let same : (w : ℕ) → sum_by (amount_counted s (c ∷ bs) w) views ≡ sum_by
      (amount_counted s bs w) views
      = λ w. total_same (amount_counted s (c ∷ bs) w) (amount_counted s bs w) views
      (λ j u e. counted-linked w u (leaves j u e)) in
      let new : (x i : ℕ) → has_node c x ≡ true → i < 4
      → sum_by (amount_counted s bs (x + i)) views ≡ 0
      = λ x i h l. total_none (amount_counted s bs (x + i)) views
      (λ j u e. counted-new x i u h l) in
      record {
        tallies = λ x n. ⊎_elim
            (λ (h : has_node c x ≡ true). none x 2 h (omega arith) (omega arith) ∙ sym (same (x + 2) ∙ new x 2 h (omega arith)))
            (λ (m : is_node (root_at s) bs x ≡ true). old.tallies x m ∙ sym (same (x + 2)))
            (or_cases (has_node c x) (is_node (root_at s) bs x) n);
        seen = λ x n ne. ⊎_elim
            (λ (h : has_node c x ≡ true). none x 3 h (omega arith) (omega arith) ∙ sym (same (x + 3) ∙ new x 3 h (omega arith)))
            (λ (m : is_node (root_at s) bs x ≡ true). old.seen x m ne ∙ sym (same (x + 3)))
            (or_cases (has_node c x) (is_node (root_at s) bs x) n);
        root = old.root;
      }

-- a word of a block that is not linked yet, and neither header nor move, is 0
pub blank-word : (c : LinkedBlock) (j : ℕ) → j < size c → is_header_or_move j ≡ false
    → slice_index (block_words c) j ≡ 0
unfolding block_words
blank-word c j l e
    = get_or-map-range_with_len (λ i. cond (is_header_or_move i) (header_or_move c i) 0) 0
    (size c) j j 0 l (omega arith) ∙ ap (λ (t : Bool). cond t (header_or_move c j) 0) e
