-- The sums before any block has handed up its own, and after all have.
use Rattle.std.proofs.Common.{◌≡◌, ℕ, ◌+◌, ◌<◌, ◌≤◌, Bool, true, false, List, refl, sym, ap, ◌∙◌}
use Rattle.std.proofs.Common.{⊎_elim, arith}
use Rattle.std.specs.Prelude.{◌==◌, ◌&&◌}
use Rattle.std.specs.List.{list_any}
use Rattle.std.proofs.lemmas.Bool.{cases_lt, eqb-true, ne_eqb, false_from_ne_true}
use Rattle.hex_cells.specs.Sets.{has as has_cell}
use Rattle.hex_board.specs.Positions.{stones_of}
use Rattle.tree_words.specs.Settings.{Setting, IsSetting}
use Rattle.tree_words.specs.Words.{area_at, end_of, root_at, tally_in}
use Rattle.tree_words.specs.Blocks.{LinkedBlock, In, cell_at, has_node, is_node, place}
use Rattle.tree_words.specs.Complete.{Linked}
use Rattle.tree_words.specs.Paths.{mover_at, mover_of, path_of, root_state, state_after}
use Rattle.tree_words.specs.Counts.{is_seen, visits_at}
use Rattle.tree_words.specs.Records.{leaf_of, outcome_in}
use Rattle.tree_words.proofs.Blocks.BlockLaws.{has-at}
use Rattle.tree_words.proofs.Blocks.GameLaws.{up-in}
use Rattle.tree_words.proofs.Blocks.Members.{node-in}
use Rattle.tree_words.proofs.Walks.Countings.{has-one}
use Rattle.hex_cells.proofs.ColourLaws.{other_back}
use Rattle.trace_audit.specs.Sums.{AreHanded, AreOwn, AreSums, AreStanding, chooser, has_stone}
use Rattle.trace_audit.specs.Sums.{level, stand}
use Rattle.trace_audit.proofs.Downward.{parent_low, path_low}
use Rattle.trace_audit.proofs.Gained.{node_inside}
use Rattle.trace_audit.proofs.Placed.{lies}
use Rattle.trace_audit.proofs.Stands.{level_high, level_low, stand_low, stand_past, stand_tells}
use Rattle.trace_audit.proofs.Sums.{tally_same}

-- sums stay sums if playouts stand at the same nodes
pub standing_same : (s : Setting) (bs : List LinkedBlock) (words sums : List ℕ)
    (f g : ℕ → ℕ → ℕ) (n : ℕ)
    → ((k : ℕ) → k < n → is_node (root_at s) bs (leaf_of words k) ≡ true → g (root_at s) (leaf_of words k) ≡ f (root_at s) (leaf_of words k))
    → ((b : LinkedBlock) → In b bs → (k : ℕ) → k < n → is_node (root_at s) bs (leaf_of words k) ≡ true → g b.start
    (leaf_of words k) ≡ f b.start (leaf_of words k))
    → AreStanding s bs words sums f n → AreStanding s bs words sums g n
standing_same s bs words sums f g n root blocks a = record {
  counts = record {
    long = a.counts.long;
    root = a.counts.root
        ∙ tally_same s bs words n _ _ _ _
        (λ k l. ap (λ (z : ℕ). z == root_at s) (sym (root k l (a.nodes k l)))) refl;
    total = λ b i. a.counts.total b i
        ∙ tally_same s bs words n _ _ _ _
        (λ k l. ap (has_node b) (sym (blocks b i k l (a.nodes k l)))) refl;
    tally = λ b x i m. a.counts.tally b x i m
        ∙ tally_same s bs words n _ _ _ _
        (λ k l. ap (λ (z : ℕ). z == x) (sym (blocks b i k l (a.nodes k l)))) refl;
    seen = λ b y i m. a.counts.seen b y i m
        ∙ tally_same s bs words n _ _ _ _
        (λ k l. ap (λ (z : ℕ). has_node b z && has_stone s bs words b y k) (sym (blocks b i k l (a.nodes k l)))) refl;
  };
  leaves = a.leaves;
  nodes = a.nodes;
  filled = a.filled;
}

module _ (s : Setting) (words : List ℕ) (bs : List LinkedBlock) (h : IsSetting s)
    (lk : Linked s words bs) (sums : List ℕ) where
  abbrev r : ℕ
  r = root_at s

  -- no block has handed up its sums
  pub handed_none : AreOwn s bs words sums s.knobs.playouts → AreHanded s bs words sums (end_of s)
  handed_none a = standing_same s bs words sums _ _ s.knobs.playouts
      (λ k l n. ap (λ (e : ℕ). stand s bs e (leaf_of words k))
      (level_low s bs lk.order (end_of s) r (root_below r refl)) ∙ stand_low s bs lk.order (end_of s) (leaf_of words k) n (node_low (leaf_of words k) n))
      (λ b i k l n. ap (λ (e : ℕ). stand s bs e (leaf_of words k))
      (level_low s bs lk.order (end_of s) b.start (let at = lies s words bs h lk b i in omega (arith, at.1)))
      ∙ stand_low s bs lk.order (end_of s) (leaf_of words k) n (node_low (leaf_of words k) n))
      a
    where
      root_below : (z : ℕ) → z ≡ r → z < end_of s
      root_below z e = omega (arith, e)

      node_low : (z : ℕ) → is_node r bs z ≡ true → z < end_of s
      node_low z n = let l = node_inside s words bs h lk z 0 n (omega arith) in omega (arith, l)

  -- no block begins at the word
  pub handed_past : (e : ℕ) → ((b : LinkedBlock) → In b bs → b.start ≡ e → ⊥) → r < e
      → AreHanded s bs words sums (e + 1) → AreHanded s bs words sums e
  handed_past e none low a = standing_same s bs words sums _ _ s.knobs.playouts
      (λ k l n. (λ j. stand s bs (level_low s bs lk.order e r low j) (leaf_of words k)) ∙ stand_past s bs lk.order e none (leaf_of words k) n
      ∙ (λ j. stand s bs (sym (level_low s bs lk.order (e + 1) r (omega (arith, low))) j) (leaf_of words k)))
      (λ b i k l n. ⊎_elim
      (λ (q : b.start < e). (λ j. stand s bs (level_low s bs lk.order e b.start q j) (leaf_of words k)) ∙ stand_past s bs lk.order e none (leaf_of words k) n
      ∙ (λ j. stand s bs (sym (level_low s bs lk.order (e + 1) b.start (omega (arith, q))) j) (leaf_of words k)))
      (λ (q : e ≤ b.start). let d = none b i in
      ap (λ (z : ℕ). stand s bs z (leaf_of words k))
      (level_high s bs lk.order e b.start (omega (arith, q)) ∙ sym (level_high s bs lk.order (e + 1) b.start (omega (arith, q, d)))))
      (cases_lt b.start e))
      a

  -- all blocks have handed up their sums
  module _ (e : ℕ) (low : e ≤ area_at s) (top : r < e) (a : AreHanded s bs words sums e) where
    -- in a block it is told by its path whether a playout stands there
    told : (b : LinkedBlock) → In b bs → (test : ℕ → Bool)
        → ((z : ℕ) → test z ≡ true → has_node b z ≡ true) → (k : ℕ) → k < s.knobs.playouts
        → test (stand s bs (level e b.start) (leaf_of words k)) ≡ list_any test
        (path_of s bs (leaf_of words k))
    told b i test own k l =
        let at = lies s words bs h lk b i in
        let out : (z : ℕ) → (has_node b z ≡ true → ⊥) → test z ≡ false
        = λ z d. false_from_ne_true (test z) (λ q. d (own z q)) in
        ap (λ (z : ℕ). test (stand s bs z (leaf_of words k)))
        (level_high s bs lk.order e b.start (omega (arith, at.0, low)))
        ∙ stand_tells s bs lk.order (b.start + 1) test
        (λ c y j n q. out y (λ f. let one = has-one r bs c b y lk.order j i n f in omega (arith, q, ap (λ (d : LinkedBlock). d.start) one)))
        (λ c j q. path_low r bs test c.parent lk.order
        (out r (λ f. let g = has-at b r f in let p = parent_low r bs b lk.order i in omega (arith, g.2, p.1)))
        (λ z m. out z (λ f. let g = has-at b z f in let p = parent_low r bs c lk.order j in omega (arith, g.2, p.0, q, m))))
        (leaf_of words k) (a.nodes k l)

    root_told : (k : ℕ) → k < s.knobs.playouts
        → (stand s bs (level e r) (leaf_of words k) == r) ≡ list_any (λ z. z == r)
        (path_of s bs (leaf_of words k))
    root_told k l =
        ap (λ (z : ℕ). stand s bs z (leaf_of words k) == r) (level_low s bs lk.order e r top)
        ∙ stand_tells s bs lk.order e (λ z. z == r)
        (λ b y i n q. ne_eqb y r (λ f. let g = has-at b y n in let p = parent_low r bs b lk.order i in omega (arith, f, g.2, p.1)))
        (λ b i q. absurd (let at = lies s words bs h lk b i in omega (arith, at.0, low, q)))
        (leaf_of words k) (a.nodes k l)

    mover_is : (b : LinkedBlock) (y : ℕ) → In b bs → has_node b y ≡ true
        → chooser s bs b ≡ mover_of s bs y
    mover_is b y i n
        = sym (ap mover_at (up-in (root_state s) (λ c z above. state_after above (cell_at c (place c z))) r bs b y lk.order i n)
        ∙ other_back (chooser s bs b))

    pub all_handed : AreSums s bs words sums s.knobs.playouts
    all_handed = record {
      long = a.counts.long;
      tallies = λ x n. ⊎_elim
          (λ (q : x ≡ r). ap (tally_in sums) q ∙ a.counts.root ∙ tally_same s bs words s.knobs.playouts _
          (λ k. list_any (λ z. z == r) (path_of s bs (leaf_of words k))) _ (mover_of s bs r) root_told refl ∙ ap
          (visits_at s bs words s.knobs.playouts) (sym q))
          (λ (q : (b : LinkedBlock) × In b bs × (has_node b x ≡ true)).
          a.counts.tally q.0 x q.1 q.2
          ∙ tally_same s bs words s.knobs.playouts _
          (λ k. list_any (λ z. z == x) (path_of s bs (leaf_of words k))) _ (mover_of s bs x)
          (λ k l. told q.0 q.1 (λ z. z == x) (λ z t. ap (has_node q.0) (eqb-true z x t) ∙ q.2) k l)
          (mover_is q.0 x q.1 q.2))
          (node-in r bs x n);
      seen = λ b y i n.
          a.counts.seen b y i n
          ∙ tally_same s bs words s.knobs.playouts _ (is_seen s bs words b y) _ (mover_of s bs y)
          (λ k l j. told b i (has_node b) (λ z t. t) k l j && has_cell
          (stones_of (outcome_in s bs words k).full (mover_is b y i n j)) (cell_at b (place b y))) (mover_is b y i n);
      leaves = a.leaves;
    }
