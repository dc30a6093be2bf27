-- The link of a new block keeps Belongs.
use Rattle.std.proofs.Common.{◌≡◌, ◌≢◌, ℕ, Bool, cond, ◌∷◌, refl, sym, ap, ◌∙◌, subst, arith}
use Rattle.std.proofs.Common.{⊎_elim, inl}
use Rattle.std.specs.Prelude.{◌==◌}
use Rattle.std.proofs.lemmas.Bool.{cases_eq, eq-eqb, ne_eqb}
use Rattle.tree_words.specs.Words.{root_at}
use Rattle.tree_words.specs.Blocks.{LinkedBlock, In, InOrder}
use Rattle.tree_words.specs.declared.steps.Op.TheVariants.{Publish}
use Rattle.arena_rule.specs.Views.{SeatView}
use Rattle.arena_rule.specs.Lookups.{told_below}
use Rattle.arena_rule.specs.Answers.{MayAnswer}
use Rattle.arena_rule.specs.Afters.{after, published, with_word, known_after, node_of_link}
use Rattle.arena_rule.specs.IsView.{IsView}
use Rattle.arena_rule.proofs.KnownMore.{known-kept, known-more}
use Rattle.walker.specs.declared.machine.Walker.{Walker}
use Rattle.walker.specs.Machine.{state_in, linked_now}
use Rattle.walker.specs.Belongs.{Belongs, Down, AtPublish}
use Rattle.walker.proofs.KnownLaws.{one-order, known-cells}
use Rattle.walker.proofs.Going.{Goes, state-known}
use Rattle.walker.proofs.LeafLaws.{cells-is}
use Rattle.walker.proofs.KeepsBlock.{still-down}
use Rattle.arena_rule.proofs.Room.{told-known}

module _ (w : Walker) (v : SeatView) (b : Belongs w v) (x : ℕ) where
  module _ (a : AtPublish w v) (may : MayAnswer v (Publish w.at w.start) x)
      (iu : IsView (after v (Publish w.at w.start) x)) where
    -- the link that now holds
    link-some : cond (x == 0) w.start x ≢ 0
    link-some = ⊎_elim
        (λ (e : x ≡ 0). λ z. let q : cond (x == 0) w.start x ≡ w.start = ap (λ (t : Bool). cond t w.start x) (eq-eqb x 0 e) in omega (arith, q, z, a.above))
        (λ (ne : x ≢ 0). λ z. ne (sym (ap (λ (t : Bool). cond t w.start x) (ne_eqb x 0 ne)) ∙ z))
        (cases_eq x 0)

    back : node_of_link w.at ≡ w.node
    back = omega (arith, a.at)

    published-known : (after v (Publish w.at w.start) x).known ≡ told_below v w.node
        (cond (x == 0) w.start x) ∷ v.known
    unfolding with_word published
    published-known = ap (λ (z : ℕ). known_after v z (cond (x == 0) w.start x)) back
        ∙ told-known v w.node (cond (x == 0) w.start x) a.may.down.known a.may.vacant link-some

    publish-goes : Goes v (after v (Publish w.at w.start) x) 0
    unfolding with_word published
    publish-goes = record {
      shape = refl;
      known = known-kept v (Publish w.at w.start) x;
      node = known-more v (node_of_link w.at) (cond (x == 0) w.start x);
      state = λ y n. state-known v (node_of_link w.at) (cond (x == 0) w.start x) y
          (one-order (after v (Publish w.at w.start) x) iu b.width) n;
      loads = λ i ne. refl;
    }

    pub keeps-publish : Belongs (linked_now w x) (after v (Publish w.at w.start) x)
    unfolding with_word published
    keeps-publish =
        let u : SeatView = after v (Publish w.at w.start) x in
        let link : ℕ = cond (x == 0) w.start x in
        let down : Down w u
        = still-down v u w.number w.node w.visits
        (state_in w) w.way b.view b.width publish-goes a.may.down refl refl refl in
        let c : LinkedBlock = told_below v w.node link in
        let known : In c u.known = subst (In c) (sym published-known) (inl refl) in
        let order : InOrder (root_at u.shape) u.known = one-order u iu b.width in
        record {
          shape = b.shape;
          view = iu;
          width = b.width;
          full = b.full;
          stands = record {
            down = down;
            held = refl;
            block = c;
            below = record {
              known = known;
              start = refl;
              parent = refl;
              cells = known-cells u.shape u.known c order iu.known known
                  ∙ sym (cells-is w u b.shape order iu.known down);
            };
            at = (omega arith, omega arith);
          };
        }
