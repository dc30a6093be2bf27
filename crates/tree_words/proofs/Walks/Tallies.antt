-- Counts over records: what a new block leaves, and what one more record adds.
use Rattle.std.proofs.Common.{◌≡◌, ℕ, zero, suc, ◌+◌, ◌<◌, ◌≤◌, Bool, true, false, cond, List, []}
use Rattle.std.proofs.Common.{◌∷◌, refl, sym, ap, ◌∙◌, ⊎_elim, arith}
use Rattle.std.specs.Prelude.{◌==◌, ◌&&◌, ◌||◌}
use Rattle.std.specs.List.{list_any}
use Rattle.hex_cells.specs.Colours.{is_same}
use Rattle.hex_cells.specs.declared.colours.Colour.{Colour}
use Rattle.hex_cells.specs.Sets.{has as has_cell}
use Rattle.hex_board.specs.Positions.{stones_of}
use Rattle.tree_words.specs.Settings.{Setting}
use Rattle.tree_words.specs.Words.{Count, root_at, record_in, leaf_in, winner_in}
use Rattle.tree_words.specs.Blocks.{LinkedBlock, one_if, has_node, place, cell_at, up, is_node, In}
use Rattle.tree_words.specs.Blocks.{InOrder, Follows}
use Rattle.tree_words.specs.Paths.{NodeState, root_state, state_after, mover_at, path_of, is_on}
use Rattle.tree_words.specs.Paths.{enters, node_state, mover_of}
use Rattle.tree_words.specs.Walks.{nothing, plus}
use Rattle.play_out.specs.declared.playouts.Ending.{Ending}
use Rattle.tree_words.specs.Sequence.{outcome_of, one, gain_of, glimpse_of}
use Rattle.tree_words.specs.Records.{leaf_of, outcome_in, IsRecord}
use Rattle.tree_words.specs.Counts.{count_below, visits_at, is_seen, sights_at}
use Rattle.tree_words.specs.Growth.{ends_at}
use Rattle.hex_cells.proofs.ColourLaws.{other_back}
use Rattle.tree_words.proofs.Blocks.BlockLaws.{apart, up_same, clash, root_node}
use Rattle.tree_words.proofs.Blocks.GameLaws.{up-in, spot-same}
use Rattle.tree_words.proofs.Walks.Climbs.{meets, path-meets}
use Rattle.std.proofs.lemmas.Bool.{and_left, eqb-true, eq-eqb, cases_Bool, or_cases}
use Rattle.std.proofs.lemmas.Bool.{false_from_ne_true, or_right, or_left, or_from}

pub count-same : (n : ℕ) (f h : ℕ → Bool) → ((k : ℕ) → k < n → f k ≡ h k)
    → count_below n f ≡ count_below n h
count-same zero f h e = refl
count-same (suc n) f h e = λ i. count-same n f h (λ k l. e k (omega arith)) i + one_if
    (e n (omega arith) i)

pub count-none : (n : ℕ) (f : ℕ → Bool) → ((k : ℕ) → k < n → f k ≡ false) → count_below n f ≡ 0
count-none zero f e = refl
count-none (suc n) f e
    = omega (arith, count-none n f (λ k l. e k (omega arith)), ap one_if (e n (omega arith)))

pub count-most : (n : ℕ) (f : ℕ → Bool) → count_below n f ≤ n
count-most zero f = omega arith
count-most (suc n) f = let r = count-most n f in one (f n) r
  where
    one : {a n : ℕ} (t : Bool) → a ≤ n → a + one_if t ≤ suc n
    one true l = omega (arith, l)
    one false l = omega (arith, l)

one_le : (a b : Bool) → (a ≡ true → b ≡ true) → one_if a ≤ one_if b
one_le true b h = omega (arith, ap one_if (h refl))
one_le false b h = omega arith

pub count-le : (n : ℕ) (f h : ℕ → Bool) → ((k : ℕ) → k < n → f k ≡ true → h k ≡ true)
    → count_below n f ≤ count_below n h
count-le zero f h e = omega arith
count-le (suc n) f h e
    = omega (arith, count-le n f h (λ k l. e k (omega arith)), one_le (f n) (h n) (e n (omega arith)))

-- the first k records are the same
abbrev pub SameRecords : ℕ → List ℕ → List ℕ → Type 0
SameRecords k before after = (j : ℕ) → j < k → record_in after j ≡ record_in before j

module _ (s : Setting) (bs : List LinkedBlock) (words after : List ℕ) (k : ℕ)
    (same : SameRecords k words after) where
  pub visits-words : (x : ℕ) → visits_at s bs after k x ≡ visits_at s bs words k x
  visits-words x = λ i. record {
    visits = count-same k (λ j. is_on s bs x (leaf_of after j))
        (λ j. is_on s bs x (leaf_of words j))
        (λ j l. ap (λ (n : ℕ). is_on s bs x (leaf_in n)) (same j l)) i;
    wins = count-same k
        (λ j. is_on s bs x (leaf_of after j) && is_same (outcome_in s bs after j).winner (mover_of s bs x)) (λ j. is_on s bs x (leaf_of words j)
        && is_same (outcome_in s bs words j).winner (mover_of s bs x))
        (λ j l. ap (λ (n : ℕ). is_on s bs x (leaf_in n) && is_same (outcome_of s j (node_state s bs (leaf_in n))).winner (mover_of s bs x)) (same j l)) i;
  }

  pub sights-words : (b : LinkedBlock) (y : ℕ)
      → sights_at s bs after k b y ≡ sights_at s bs words k b y
  sights-words b y = λ i. record {
    visits = count-same k (λ j. is_seen s bs after b y j) (λ j. is_seen s bs words b y j)
        (λ j l. ap (λ (n : ℕ). enters s bs b (leaf_in n) && has_cell (stones_of (outcome_of s j (node_state s bs (leaf_in n))).full (mover_of s bs y))
        (cell_at b (place b y))) (same j l)) i;
    wins = count-same k
        (λ j. is_seen s bs after b y j && is_same (outcome_in s bs after j).winner (mover_of s bs y)) (λ j. is_seen s bs words b y j
        && is_same (outcome_in s bs words j).winner (mover_of s bs y))
        (λ j l. ap (λ (n : ℕ). (enters s bs b (leaf_in n) && has_cell (stones_of (outcome_of s j (node_state s bs (leaf_in n))).full (mover_of s bs y))
        (cell_at b (place b y)))
        && is_same (outcome_of s j (node_state s bs (leaf_in n))).winner
        (mover_of s bs y)) (same j l)) i;
  }

  pub ends-words : (x : ℕ) → ends_at after k x ≡ ends_at words k x
  ends-words x = count-same k (λ j. leaf_of after j == x) (λ j. leaf_of words j == x)
      (λ j l. ap (λ (n : ℕ). leaf_in n == x) (same j l))

  pub record-words : (j : ℕ) → j < k → IsRecord s bs words j → IsRecord s bs after j
  record-words j l is =
      let e : record_in after j ≡ record_in words j = same j l in
      record {
        node = ap (λ (n : ℕ). is_node (root_at s) bs (leaf_in n)) e ∙ is.node;
        below = λ z. is.below (ap leaf_in (sym e) ∙ z);
        result = ap winner_in e ∙ is.result
            ∙ sym (ap (λ (n : ℕ). (outcome_of s j (node_state s bs (leaf_in n))).winner) e);
      }

meets-clear : (test : ℕ → Bool) (r : ℕ) (start : Bool) (bs : List LinkedBlock) (y : ℕ)
    → start ≡ false → ((z : ℕ) → is_node r bs z ≡ true → test z ≡ false)
    → up start (meets test) bs y ≡ false
meets-clear test r start [] y e h = e
meets-clear test r start (b ∷ bs) y e h =
    let older : (z : ℕ) → is_node r bs z ≡ true → test z ≡ false
    = λ z n. h z (or_right (has_node b z) (is_node r bs z) n) in
    let above : Bool = test y || up start (meets test) bs b.parent in
    ⊎_elim
    (λ (u : has_node b y ≡ true). ap (λ (t : Bool). cond t above (up start (meets test) bs y)) u
    ∙ or_from (test y) (up start (meets test) bs b.parent) (h y (or_left (has_node b y) (is_node r bs y) u))
    (meets-clear test r start bs b.parent e older))
    (λ (u : has_node b y ≡ false). ap (λ (t : Bool). cond t above (up start (meets test) bs y)) u ∙ meets-clear test r start bs y e older)
    (cases_Bool (has_node b y))

-- no node of a path passes a test that no node of the tree passes
pub path-clear : (s : Setting) (test : ℕ → Bool) (bs : List LinkedBlock) (y : ℕ)
    → ((z : ℕ) → is_node (root_at s) bs z ≡ true → test z ≡ false)
    → list_any test (path_of s bs y) ≡ false
path-clear s test bs y h =
    let r : ℕ = root_at s in
    path-meets test r bs y
    ∙ meets-clear test r (test r || false) bs y
    (or_from (test r) false (h r (root_node r bs)) refl) h

module _ (s : Setting) (n : LinkedBlock) (bs : List LinkedBlock)
    (f : Follows (root_at s) n bs) where
  -- a new block changes no path of an older node
  path-same : (y : ℕ) → is_node (root_at s) bs y ≡ true → path_of s (n ∷ bs) y ≡ path_of s bs y
  path-same y h = up_same (root_at s ∷ []) (λ b z rest. z ∷ rest) n bs y
      (apart (root_at s) n bs y f h)

  -- and is not met there
  enters-not : (y : ℕ) → is_node (root_at s) bs y ≡ true → enters s (n ∷ bs) n y ≡ false
  enters-not y h = ap (list_any (has_node n)) (path-same y h)
      ∙ path-clear s (has_node n) bs y (λ z u. apart (root_at s) n bs z f u)

  is_on-not : (x y : ℕ) → has_node n x ≡ true → is_node (root_at s) bs y ≡ true
      → is_on s (n ∷ bs) x y ≡ false
  is_on-not x y hx h = ap (list_any (λ (z : ℕ). z == x)) (path-same y h)
      ∙ path-clear s (λ (z : ℕ). z == x) bs y
      (λ z u. false_from_ne_true (z == x) (λ e. clash (has_node n x) hx (ap (has_node n) (sym (eqb-true z x e)) ∙ apart (root_at s) n bs z f u)))

  module _ (words : List ℕ) (k : ℕ)
      (leaves : (j : ℕ) → j < k → is_node (root_at s) bs (leaf_of words j) ≡ true) where
    outcome-same : (j : ℕ) → j < k → outcome_in s (n ∷ bs) words j ≡ outcome_in s bs words j
    outcome-same j l = ap (outcome_of s j) (spot-same s n bs (leaf_of words j) f (leaves j l))

    -- the counts of the older nodes stay
    pub visits-block : (x : ℕ) → is_node (root_at s) bs x ≡ true
        → visits_at s (n ∷ bs) words k x ≡ visits_at s bs words k x
    visits-block x h =
        let mover : mover_of s (n ∷ bs) x ≡ mover_of s bs x
        = ap mover_at (spot-same s n bs x f h) in
        let on : (j : ℕ) → j < k → is_on s (n ∷ bs) x (leaf_of words j) ≡ is_on s bs x
        (leaf_of words j)
        = λ j l. ap (list_any (λ (z : ℕ). z == x)) (path-same (leaf_of words j) (leaves j l)) in
        λ i. record {
          visits = count-same k (λ j. is_on s (n ∷ bs) x (leaf_of words j))
              (λ j. is_on s bs x (leaf_of words j)) on i;
          wins = count-same k
              (λ j. is_on s (n ∷ bs) x (leaf_of words j) && is_same (outcome_in s (n ∷ bs) words j).winner (mover_of s (n
              ∷ bs) x)) (λ j. is_on s bs x (leaf_of words j) && is_same (outcome_in s bs words j).winner (mover_of s bs x))
              (λ j l t. on j l t && is_same (outcome-same j l t).winner (mover t)) i;
        }

    pub sights-block : (b : LinkedBlock) (y : ℕ) → is_node (root_at s) bs y ≡ true
        → sights_at s (n ∷ bs) words k b y ≡ sights_at s bs words k b y
    sights-block b y h =
        let mover : mover_of s (n ∷ bs) y ≡ mover_of s bs y
        = ap mover_at (spot-same s n bs y f h) in
        let seen : (j : ℕ) → j < k → is_seen s (n ∷ bs) words b y j ≡ is_seen s bs words b y j
        = λ j l t. list_any (has_node b) (path-same (leaf_of words j) (leaves j l) t) && has_cell
        (stones_of (outcome-same j l t).full (mover t)) (cell_at b (place b y)) in
        λ i. record {
          visits = count-same k (λ j. is_seen s (n ∷ bs) words b y j)
              (λ j. is_seen s bs words b y j) seen i;
          wins = count-same k
              (λ j. is_seen s (n ∷ bs) words b y j && is_same (outcome_in s (n ∷ bs) words j).winner (mover_of s (n ∷ bs) y)) (λ j. is_seen s bs words b y j
              && is_same (outcome_in s bs words j).winner (mover_of s bs y))
              (λ j l t. seen j l t && is_same (outcome-same j l t).winner (mover t)) i;
        }

    -- a new node has none
    pub visits-new : (x : ℕ) → has_node n x ≡ true → visits_at s (n ∷ bs) words k x ≡ nothing
    visits-new x h =
        let on : (j : ℕ) → j < k → is_on s (n ∷ bs) x (leaf_of words j) ≡ false
        = λ j l. is_on-not x (leaf_of words j) h (leaves j l) in
        λ i. record {
          visits = count-none k (λ j. is_on s (n ∷ bs) x (leaf_of words j)) on i;
          wins = count-none k
              (λ j. is_on s (n ∷ bs) x (leaf_of words j) && is_same (outcome_in s (n ∷ bs) words j).winner (mover_of s (n ∷ bs) x))
              (λ j l. and_left (is_on s (n ∷ bs) x (leaf_of words j)) (is_same (outcome_in s (n ∷ bs) words j).winner (mover_of s (n ∷ bs) x)) (on j l)) i;
        }

    pub sights-new : (y : ℕ) → sights_at s (n ∷ bs) words k n y ≡ nothing
    sights-new y =
        let seen : (j : ℕ) → j < k → is_seen s (n ∷ bs) words n y j ≡ false
        = λ j l. and_left (enters s (n ∷ bs) n (leaf_of words j))
        (has_cell (stones_of (outcome_in s (n ∷ bs) words j).full (mover_of s (n ∷ bs) y)) (cell_at n (place n y)))
        (enters-not (leaf_of words j) (leaves j l)) in
        λ i. record {
          visits = count-none k (λ j. is_seen s (n ∷ bs) words n y j) seen i;
          wins = count-none k
              (λ j. is_seen s (n ∷ bs) words n y j && is_same (outcome_in s (n ∷ bs) words j).winner (mover_of s (n ∷ bs) y))
              (λ j l. and_left (is_seen s (n ∷ bs) words n y j) (is_same (outcome_in s (n ∷ bs) words j).winner (mover_of s (n ∷ bs) y)) (seen j l)) i;
        }

    -- a new node is no leaf
    pub ends-new : (x : ℕ) → has_node n x ≡ true → ends_at words k x ≡ 0
    ends-new x h
        = count-none k (λ j. leaf_of words j == x)
        (λ j l. false_from_ne_true (leaf_of words j == x) (λ e. clash (has_node n x) h (ap (has_node n) (sym (eqb-true (leaf_of words j) x e))
        ∙ apart (root_at s) n bs (leaf_of words j) f (leaves j l))))

  pub record-block : (words : List ℕ) (j : ℕ) → IsRecord s bs words j → IsRecord s (n ∷ bs) words j
  record-block words j is = record {
    node = or_right (has_node n (leaf_of words j))
        (is_node (root_at s) bs (leaf_of words j)) is.node;
    below = is.below;
    result = is.result
        ∙ sym (ap (λ (p : NodeState). (outcome_of s j p).winner) (spot-same s n bs (leaf_of words j) f is.node));
  }

-- one playout more
pub more_visits : (t u : Bool) (c : Count)
    → record { visits = c.visits + one_if t; wins = c.wins + one_if (t && u) } ≡ plus c
    (cond t (one u) nothing)
more_visits true u c = refl
more_visits false u c = refl

more_sights : (t v u : Bool) (c : Count)
    → record { visits = c.visits + one_if (t && v); wins = c.wins + one_if ((t && v) && u) } ≡ plus c (cond t (cond v (one u) nothing) nothing)
more_sights true true u c = refl
more_sights true false u c = refl
more_sights false v u c = refl

-- with one record more
module _ (s : Setting) (bs : List LinkedBlock) (words : List ℕ) (k : ℕ) where
  pub visits-more : (x : ℕ) → visits_at s bs words (suc k) x
      ≡ plus (visits_at s bs words k x)
      (cond (is_on s bs x (leaf_of words k)) (gain_of (outcome_in s bs words k) (node_state s bs x)) nothing)
  unfolding gain_of
  visits-more x
      = more_visits (is_on s bs x (leaf_of words k))
      (is_same (outcome_in s bs words k).winner (mover_of s bs x)) (visits_at s bs words k x)

  pub sights-more : (b : LinkedBlock) (y : ℕ) → InOrder (root_at s) bs → In b bs
      → has_node b y ≡ true → sights_at s bs words (suc k) b y
      ≡ plus (sights_at s bs words k b y)
      (cond (enters s bs b (leaf_of words k)) (glimpse_of (outcome_in s bs words k) (node_state s bs b.parent) (cell_at b (place b y))) nothing)
  unfolding glimpse_of
  sights-more b y g i h =
      let o : Ending = outcome_in s bs words k in
      let spot : node_state s bs y ≡ state_after (node_state s bs b.parent) (cell_at b (place b y))
      = up-in (root_state s) (λ c z above. state_after above (cell_at c (place c z)))
      (root_at s) bs b y g i h in
      let mover : mover_of s bs y ≡ (node_state s bs b.parent).player = ap mover_at spot
      ∙ other_back (node_state s bs b.parent).player in
      more_sights (enters s bs b (leaf_of words k))
      (has_cell (stones_of o.full (mover_of s bs y)) (cell_at b (place b y)))
      (is_same o.winner (mover_of s bs y)) (sights_at s bs words k b y)
      ∙ ap (λ (c : Colour). plus (sights_at s bs words k b y)
      (cond (enters s bs b (leaf_of words k)) (cond (has_cell (stones_of o.full c) (cell_at b (place b y))) (one (is_same o.winner c)) nothing) nothing))
      mover

-- a leaf is on its own path
pub on-itself : (s : Setting) (bs : List LinkedBlock) (x : ℕ) → is_node (root_at s) bs x ≡ true
    → is_on s bs x x ≡ true
on-itself s bs x h = path-meets (λ (z : ℕ). z == x) (root_at s) bs x ∙ here bs h
  where
    here : (cs : List LinkedBlock) → is_node (root_at s) cs x ≡ true
        → up ((root_at s == x) || false) (meets (λ (z : ℕ). z == x)) cs x ≡ true
    here [] n = or_left (root_at s == x) false
        (eq-eqb (root_at s) x (sym (eqb-true x (root_at s) n)))
    here (b ∷ cs) n = ⊎_elim
        (λ (u : has_node b x ≡ true). ap (λ (t : Bool). cond t ((x == x)
        || up ((root_at s == x) || false) (meets (λ (z : ℕ). z == x)) cs b.parent) (up ((root_at s == x) || false) (meets (λ (z : ℕ). z == x)) cs x)) u
        ∙ or_left (x == x) (up ((root_at s == x) || false) (meets (λ (z : ℕ). z == x)) cs b.parent)
        (eq-eqb x x refl))
        (λ (u : has_node b x ≡ false). ap (λ (t : Bool). cond t ((x == x)
        || up ((root_at s == x) || false) (meets (λ (z : ℕ). z == x)) cs b.parent) (up ((root_at s == x) || false) (meets (λ (z : ℕ). z == x)) cs x)) u
        ∙ here cs (⊎_elim (λ (v : has_node b x ≡ true). absurd (clash (has_node b x) v u)) (λ (v : is_node (root_at s) cs x
        ≡ true). v) (or_cases (has_node b x) (is_node (root_at s) cs x) n)))
        (cases_Bool (has_node b x))

-- a node is on the paths of at least the playouts whose leaf it is
pub ends-visits : (s : Setting) (bs : List LinkedBlock) (words : List ℕ) (k x : ℕ)
    → is_node (root_at s) bs x ≡ true → ends_at words k x ≤ (visits_at s bs words k x).visits
ends-visits s bs words k x h
    = count-le k (λ j. leaf_of words j == x) (λ j. is_on s bs x (leaf_of words j))
    (λ j l e. ap (is_on s bs x) (eqb-true (leaf_of words j) x e) ∙ on-itself s bs x h)
