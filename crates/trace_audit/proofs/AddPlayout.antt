-- A playout whose record is right, and one whose record is not.
use Rattle.std.proofs.Common.{◌≡◌, ℕ, ◌+◌, ◌<◌, Bool, true, false, List, refl, sym, ap, ◌∙◌, subst}
use Rattle.std.proofs.Common.{⊎_elim, arith}
use Rattle.std.specs.Prelude.{◌*◌, ◌&&◌, not, nat_lt}
use Rattle.std.proofs.lemmas.Bool.{lt-ltb}
use Rattle.hex_cells.specs.Colours.{is_same, other_of}
use Rattle.hex_cells.specs.Sets.{has as has_cell}
use Rattle.hex_cells.specs.declared.colours.Colour.{Colour}
use Rattle.hex_board.specs.Positions.{Apart, Position, is_empty_at, stones_of}
use Rattle.play_out.specs.declared.playouts.Ending.{Ending}
use Rattle.play_out.specs.Fills.{filled, playout_of}
use Rattle.tree_words.specs.Settings.{Setting, IsSetting}
use Rattle.tree_words.specs.Words.{root_at, record_in, winner_in}
use Rattle.tree_words.specs.Blocks.{LinkedBlock, In, cell_at, has_node, is_node, place}
use Rattle.tree_words.specs.Complete.{Linked}
use Rattle.tree_words.specs.Paths.{NodeState, node_state, root_state, state_after}
use Rattle.tree_words.specs.Records.{leaf_of, outcome_in, IsRecord}
use Rattle.tree_words.specs.Sequence.{amount_of, outcome_of}
use Rattle.tree_words.proofs.Blocks.BlockLaws.{has-at}
use Rattle.tree_words.proofs.Blocks.GameLaws.{in-node, up-in}
use Rattle.tree_words.proofs.Blocks.Members.{node-in}
use Rattle.tree_words.proofs.Walks.Asking.{spot-size}
use Rattle.hex_cells.proofs.ColourLaws.{other_back}
use Rattle.trace_audit.specs.declared.sites.Site.{Site}
use Rattle.trace_audit.specs.Tables.{site_state}
use Rattle.trace_audit.specs.Gains.{GainsLeaf}
use Rattle.trace_audit.specs.Sums.{AreOwn, IsFullBoard, chooser}
use Rattle.trace_audit.proofs.Downward.{parent_low}
use Rattle.trace_audit.proofs.OwnSums.{own_added}

-- no block has the leaf
pub no_record : (s : Setting) (bs : List LinkedBlock) (words : List ℕ) (k leaf : ℕ)
    → leaf_of words k ≡ leaf → ((b : LinkedBlock) → In b bs → has_node b leaf ≡ true → ⊥)
    → IsRecord s bs words k → ⊥
no_record s bs words k leaf same none is = ⊎_elim
    (λ (e : leaf_of words k ≡ root_at s). is.below e)
    (λ (e : (b : LinkedBlock) × In b bs × (has_node b (leaf_of words k) ≡ true)). none e.0 e.1 (ap (has_node e.0) (sym same) ∙ e.2))
    (node-in (root_at s) bs (leaf_of words k) is.node)

-- a board without empty cells whose stones lie apart
pub is_filled : (full : Position) (n : ℕ) → full.size ≡ n → ((c : ℕ) → is_empty_at full c ≡ false)
    → Apart full.black full.white → IsFullBoard n full
is_filled full n e none apart c l =
    one (has_cell full.black c) (has_cell full.white c) (nat_lt c (full.size * full.size))
    (lt-ltb c (full.size * full.size) (subst (λ (m : ℕ). c < m * m) (sym e) l))
    (none c) (apart c)
  where
    one : (b w t : Bool) → t ≡ true → ((t && not b) && not w) ≡ false
        → (b ≡ true → w ≡ true → ⊥) → w ≡ not b
    one true true t e f d = absurd (d refl refl)
    one true false t e f d = refl
    one false true t e f d = refl
    one false false t e f d = sym f ∙ (λ i. (e i && true) && true)

module _ (s : Setting) (bs : List LinkedBlock) (words : List ℕ) (k : ℕ) (h : IsSetting s)
    (lk : Linked s words bs) (leaf : ℕ) (is_leaf : leaf_of words k ≡ leaf)
    (b : LinkedBlock) (i : In b bs) (n : has_node b leaf ≡ true) (site : Site)
    (state : site_state site ≡ node_state s bs leaf) where
  node : is_node (root_at s) bs leaf ≡ true
  node = in-node (root_at s) bs b leaf i n

  below : leaf ≡ root_at s → ⊥
  below e = let low = parent_low (root_at s) bs b lk.order i in let at = has-at b leaf n in
      omega (arith, e, low.1, at.2)

  -- the player who chose the leaf
  pub chooser_is : (p : Colour) → p ≡ other_of site.player → p ≡ chooser s bs b
  chooser_is p e =
      let spot : node_state s bs leaf ≡ state_after (node_state s bs b.parent)
      (cell_at b (place b leaf))
      = up-in (root_state s) (λ c z above. state_after above (cell_at c (place c z)))
      (root_at s) bs b leaf lk.order i n in
      e ∙ ap (λ (q : NodeState). other_of q.player) (state ∙ spot) ∙ other_back (chooser s bs b)

  module _ (o : Ending) (seed j : ℕ) (seeds : seed ≡ s.knobs.seed) (numbers : j ≡ k)
      (full : o.full ≡ filled site.board site.player seed j)
      (winner : o.winner ≡ playout_of site.board site.player seed j) where
    same : o ≡ outcome_in s bs words k
    unfolding outcome_of
    same =
        let p : NodeState = site_state site in
        let all : o ≡ outcome_of s k p
        = λ q. record {
          full = (full ∙ (λ z. filled site.board site.player (seeds z) (numbers z))) q;
          winner
              = (winner ∙ (λ z. playout_of site.board site.player (seeds z) (numbers z))) q;
        } in
        all ∙ ap (outcome_of s k) (state ∙ ap (node_state s bs) (sym is_leaf))

    pub wrong_record : (o.winner ≡ winner_in (record_in words k) → ⊥) → IsRecord s bs words k → ⊥
    wrong_record d is = d (ap (λ (p : Ending). p.winner) same ∙ sym is.result)

    pub right_record : o.winner ≡ winner_in (record_in words k) → IsRecord s bs words k
    right_record e
        = record {
          node = ap (is_node (root_at s) bs) is_leaf ∙ node;
          below = λ z. below (sym is_leaf ∙ z);
          result = sym
              e ∙ ap (λ (p : Ending). p.winner) same;
        }

    pub playout_added : (sums after : List ℕ) (p : Colour) → AreOwn s bs words sums k
        → k < s.knobs.playouts → p ≡ other_of site.player → IsFullBoard site.board.size o.full
        → GainsLeaf words b.start leaf (amount_of (is_same o.winner p))
        (stones_of o.full p) sums after → AreOwn s bs words after (k + 1)
    playout_added sums after p a number turn filled-up g =
        let size : site.board.size ≡ s.board.size = ap (λ (q : NodeState). q.board.size) state
        ∙ spot-size s bs leaf in
        own_added s words bs h lk sums k a number b i leaf n is_leaf after
        (subst (λ (q : Ending). GainsLeaf words b.start leaf (amount_of (is_same q.winner (chooser s bs b)))
        (stones_of q.full (chooser s bs b)) sums after) same
        (subst (λ (q : Colour). GainsLeaf words b.start leaf (amount_of (is_same o.winner q)) (stones_of o.full q) sums after) (chooser_is p turn) g))
        (subst (λ (q : Ending). IsFullBoard s.board.size q.full) same (subst (λ (m : ℕ). IsFullBoard m o.full) size filled-up))
