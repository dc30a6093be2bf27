-- A split and a join keep a view in order.
use Rattle.std.proofs.Common.{◌≡◌, ℕ, Bool, true, false, cond, List, [], ◌∷◌, ◌++◌, refl, sym, ap}
use Rattle.std.proofs.Common.{◌∙◌, subst, ⊎_elim, inl, inr, arith}
use Rattle.std.specs.Prelude.{◌==◌}
use Rattle.tree_words.specs.Settings.{Setting}
use Rattle.tree_words.specs.Words.{root_at}
use Rattle.tree_words.specs.Blocks.{LinkedBlock, InOrder, has_node, up, is_node, place, cell_at}
use Rattle.tree_words.specs.Complete.{allowed_cells, set_of}
use Rattle.tree_words.specs.Paths.{NodeState, node_state, root_state, state_after}
use Rattle.play_out.specs.Fills.{empties_of}
use Rattle.tree_words.proofs.Blocks.BlockLaws.{has-at, clash}
use Rattle.arena_rule.specs.Views.{SeatView}
use Rattle.arena_rule.specs.Fits.{CanSplit, CanJoin}
use Rattle.arena_rule.specs.Afters.{kept_part, given_part, joined}
use Rattle.arena_rule.specs.IsView.{AreTold, IsJoined, IsView}
use Rattle.arena_rule.proofs.Options.{none-some, false-true}
use Rattle.tree_words.proofs.Blocks.Within.{node-first}
use Rattle.std.proofs.lemmas.Bool.{cases_Bool, eqb-true, false_from_ne_true, or_cases}

module _ (v : SeatView) (iv : IsView v) where
  -- a split keeps both views in order
  pub kept-stays : (part : ℕ) → CanSplit v part → IsView (kept_part v part)
  unfolding kept_part
  kept-stays part can = record {
    setting = iv.setting;
    width = omega (arith, can.kept);
    known = iv.known;
    order = ⊎_elim (λ (j : IsJoined v). absurd (let e = j.ended in let m = j.more in omega (
      arith,
      e,
      m,
      can.nothing.ended,
    ))) (λ (o : InOrder (root_at v.shape) v.known). inr o) iv.order;
    ticket = iv.ticket;
    held = iv.held;
    apart = iv.apart;
    leaf = iv.leaf;
  }

  pub given-stays : (part : ℕ) → CanSplit v part → IsView (given_part v part)
  given-stays part can = record {
    setting = iv.setting;
    width = can.given;
    known = iv.known;
    order = ⊎_elim (λ (j : IsJoined v). absurd (let e = j.ended in let m = j.more in omega (
      arith,
      e,
      m,
      can.nothing.ended,
    ))) (λ (o : InOrder (root_at v.shape) v.known). inr o) iv.order;
    ticket = λ k e. absurd (none-some e);
    held = λ h e. absurd (none-some e);
    apart = λ i h. absurd (false-true h);
    leaf = λ f e. absurd (none-some e);
  }

-- what is gathered at a node of some known blocks is gathered there over more blocks behind them
module _ (s : Setting) (ls : List LinkedBlock) (told : AreTold s ls) where
  -- no block of told ones has the root
  root-out : (ls : List LinkedBlock) → AreTold s ls
      → {A : Type 0} (root : A) (step : LinkedBlock → ℕ → A → A) → up root step ls (root_at s) ≡ root
  root-out [] t root step = refl
  root-out (b ∷ ls) t root step =
      let out : has_node b (root_at s) ≡ false
      = false_from_ne_true (has_node b (root_at s))
      (λ h. let q = has-at b (root_at s) h in let low = t.0.inside.0 in omega (arith, q.2, low)) in
      ap (λ (c : Bool). cond c (step b (root_at s) (up root step ls b.parent)) (up root step ls (root_at s))) out ∙ root-out ls t.1 root step

  behind-up : {A : Type 0} (root : A) (step : LinkedBlock → ℕ → A → A) (ks : List LinkedBlock)
      (x : ℕ) → AreTold s ks → is_node (root_at s) ks x ≡ true
      → up root step (ks ++ ls) x ≡ up root step ks x
  behind-up root step [] x t n = ap (up root step ls) (eqb-true x (root_at s) n)
      ∙ root-out ls told root step
  behind-up root step (b ∷ ks) x t n = ⊎_elim
      (λ (h : has_node b x ≡ true).
      ap (λ (c : Bool). cond c (step b x (up root step (ks ++ ls) b.parent)) (up root step (ks ++ ls) x)) h
      ∙ ap (step b x) (behind-up root step ks b.parent t.1 t.0.parent)
      ∙ sym (ap (λ (c : Bool). cond c (step b x (up root step ks b.parent)) (up root step ks x)) h))
      (λ (h : has_node b x ≡ false).
      ap (λ (c : Bool). cond c (step b x (up root step (ks ++ ls) b.parent)) (up root step (ks ++ ls) x)) h
      ∙ behind-up root step ks x t.1
      (⊎_elim (λ (u : has_node b x ≡ true). absurd (clash (has_node b x) u h)) (λ (u : is_node (root_at s) ks x
      ≡ true). u) (or_cases (has_node b x) (is_node (root_at s) ks x) n))
      ∙ sym (ap (λ (c : Bool). cond c (step b x (up root step ks b.parent)) (up root step ks x)) h))
      (cases_Bool (has_node b x))

  told-both : (ks : List LinkedBlock) → AreTold s ks → AreTold s (ks ++ ls)
  told-both [] t = told
  told-both (b ∷ ks) t =
      let same : node_state s ks b.parent ≡ node_state s (ks ++ ls) b.parent
      = sym (behind-up (root_state s) (λ c y above. state_after above (cell_at c (place c y))) ks b.parent t.1 t.0.parent) in (
        record {
          parent = node-first (root_at s) ks ls b.parent t.0.parent;
          told = t.0.told ∙ ap (λ (p : NodeState). block_at p b.parent b.start) same;
          inside = t.0.inside;
        },
        told-both ks t.1,
      )
    where
      block_at : NodeState → ℕ → ℕ → LinkedBlock
      block_at p x b
          = record { start = b; parent = x; empties = set_of (empties_of p.board); cells = cond (x == root_at s) (allowed_cells s) (empties_of p.board) }

-- a join keeps a view in order
pub join-stays : (v w : SeatView) → IsView v → IsView w → w.shape ≡ v.shape → CanJoin v w
    → IsView (joined v w)
unfolding joined
join-stays v w iv iw same can = record {
  setting = iv.setting;
  width = omega (arith, iv.width);
  known = told-both v.shape w.known
      (subst (λ (s : Setting). AreTold s w.known) same iw.known) v.known iv.known;
  order = inl (record { ended = omega (arith, can.left, can.right); more = omega (arith, iv.width, iw.width) });
  ticket = λ k e. absurd (none-some e);
  held = λ h e. absurd (none-some e);
  apart = λ i h. absurd (false-true h);
  leaf = λ f e. absurd (none-some e);
}
