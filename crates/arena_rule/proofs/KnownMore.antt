-- What a view knows after a link was found: the told block too, or the same. It only grows.
use Rattle.std.proofs.Common.{◌≡◌, ◌≢◌, ◌⊎◌, ℕ, Bool, true, false, cond, List, ◌∷◌, refl, sym, ap}
use Rattle.std.proofs.Common.{subst, ⊎_elim, inl, inr}
use Rattle.std.specs.Prelude.{not, ◌==◌, ◌&&◌}
use Rattle.std.proofs.lemmas.Bool.{or_right, and_parts, eqb-true, eq-eqb}
use Rattle.tree_words.specs.Words.{root_at}
use Rattle.tree_words.specs.Blocks.{LinkedBlock, In, has_node, is_node}
use Rattle.tree_words.specs.declared.steps.Op.{Op}
use Rattle.tree_words.specs.declared.steps.Op.TheVariants.{Draw, Look, Claim, Write, Publish, Add}
use Rattle.tree_words.specs.declared.steps.Op.TheVariants.{Note, Done}
use Rattle.arena_rule.specs.Views.{SeatView}
use Rattle.arena_rule.specs.Lookups.{is_known, known_link, told_below}
use Rattle.arena_rule.specs.Afters.{known_after, node_of_link, looked, wrote, published, added_at}
use Rattle.arena_rule.specs.Afters.{noted, with_word, after}
use Rattle.arena_rule.proofs.Changes.{drew_same, claimed_same}
use Rattle.tree_words.proofs.Blocks.BlockLaws.{clash}

-- the told block is known too
pub record Grows (v : SeatView) (x b : ℕ) : Type 0 where
  pub known : is_known v x ≡ true
  pub vacant : known_link v x ≡ 0
  pub some : b ≢ 0
  pub is : known_after v x b ≡ told_below v x b ∷ v.known

pub known_cases : (v : SeatView) (x b : ℕ) → Grows v x b ⊎ (known_after v x b ≡ v.known)
unfolding known_after
known_cases v x b = by (is_known v x && (known_link v x == 0 && not (b == 0))) refl
  where
    not-true : (t : Bool) → not t ≡ true → t ≡ false
    not-true true e = sym e
    not-true false e = refl

    by : (t : Bool) → (is_known v x && (known_link v x == 0 && not (b == 0))) ≡ t
        → Grows v x b ⊎ (known_after v x b ≡ v.known)
    by true e =
        let p = and_parts (is_known v x) (known_link v x == 0 && not (b == 0)) e in
        let q = and_parts (known_link v x == 0) (not (b == 0)) p.1 in
        inl (record {
          known = p.0;
          vacant = eqb-true (known_link v x) 0 q.0;
          some = λ z. clash (b == 0) (eq-eqb b 0 z) (not-true (b == 0) q.1);
          is = ap (λ (t : Bool). cond t (told_below v x b ∷ v.known) v.known) e;
        })
    by false e = inr (ap (λ (t : Bool). cond t (told_below v x b ∷ v.known) v.known) e)

-- a known node stays known
pub known-more : (v : SeatView) (x b y : ℕ) → is_known v y ≡ true
    → is_node (root_at v.shape) (known_after v x b) y ≡ true
known-more v x b y n = ⊎_elim
    (λ (g : Grows v x b). subst (λ (ks : List LinkedBlock). is_node (root_at v.shape) ks y
    ≡ true) (sym g.is) (or_right (has_node (told_below v x b) y) (is_known v y) n))
    (λ (e : known_after v x b ≡ v.known). subst (λ (ks : List LinkedBlock). is_node (root_at v.shape) ks y ≡ true) (sym e) n)
    (known_cases v x b)

-- and so does a known block
known-stays : (v : SeatView) (x b : ℕ) (c : LinkedBlock) → In c v.known → In c (known_after v x b)
known-stays v x b c n = ⊎_elim
    (λ (g : Grows v x b). subst (λ (ks : List LinkedBlock). In c ks) (sym g.is) (inr n))
    (λ (e : known_after v x b ≡ v.known). subst (λ (ks : List LinkedBlock). In c ks) (sym e) n)
    (known_cases v x b)

pub known-kept : (v : SeatView) (op : Op) (x : ℕ) (c : LinkedBlock) → In c v.known
    → In c (after v op x).known
unfolding with_word looked wrote published added_at noted
known-kept v Draw x c n
    = subst (λ (ks : List LinkedBlock). In c ks) (sym (drew_same (λ u. u.known) v x refl refl)) n
known-kept v (Look i) x c n = known-stays v (node_of_link i) x c n
known-kept v (Claim size) x c n
    = subst (λ (ks : List LinkedBlock). In c ks)
    (sym (claimed_same (λ u. u.known) v size x refl refl)) n
known-kept v (Write i value) x c n = n
known-kept v (Publish l b) x c n = known-stays v (node_of_link l) (cond (x == 0) b x) c n
known-kept v (Add i won) x c n = n
known-kept v (Note k value) x c n = n
known-kept v Done x c n = n
