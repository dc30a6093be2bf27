-- The look at a child's seen word.
use Rattle.std.proofs.Common.{◌≡◌, ◌≢◌, ◌⊎◌, ℕ, ◌+◌, ◌<◌, ◌≤◌, [], ◌∷◌, ◌++◌, length, Option, refl}
use Rattle.std.proofs.Common.{sym, ap, ◌∙◌, subst, arith, ⊎_elim, inl, inr}
use Rattle.std.proofs.lemmas.Bool.{cases_lt}
use Rattle.uct_table.specs.Choice.{Child}
use Rattle.tree_words.specs.Words.{count_in}
use Rattle.tree_words.specs.Blocks.{LinkedBlock, child}
use Rattle.tree_words.specs.Sequence.{child_of}
use Rattle.tree_words.specs.declared.steps.Op.TheVariants.{Look}
use Rattle.arena_rule.specs.Views.{SeatView}
use Rattle.arena_rule.specs.Lookups.{IsLoaded, or_zero, tally_loaded, seen_loaded}
use Rattle.arena_rule.specs.Answers.{MayAnswer}
use Rattle.arena_rule.specs.Afters.{after, looked, with_word}
use Rattle.arena_rule.specs.IsView.{IsView}
use Rattle.walker.specs.declared.scans.Phase.{Phase}
use Rattle.walker.specs.declared.scans.Phase.TheVariants.{Move, Seen}
use Rattle.walker.specs.declared.machine.Walker.{Walker}
use Rattle.walker.specs.Scans.{ScanData, child_in, scan_on}
use Rattle.walker.specs.Belongs.{Belongs, Down, InChild, KeepsBest, children_loaded, AtChild}
use Rattle.walker.proofs.Going.{look-seen, loaded-goes, tally-goes, seen-goes}
use Rattle.walker.proofs.Keeping.{kept-same}
use Rattle.walker.proofs.KeepLaws.{keeps-more, kept-few}
use Rattle.walker.proofs.ChildLaws.{children-long, children-push, children-same}
use Rattle.walker.proofs.KeepsScan.{here, kid, count-down, goes}

-- What stands after the look at the seen word of the child in hand: d is the scan then, and the
-- children before its place were looked at.
pub record Looked (w : Walker) (u : SeatView) (c : LinkedBlock) (d : ScanData) : Type 0 where
  pub down : Down w u
  pub parent : d.parent ≡ w.visits
  pub weight : d.weight ≡ u.shape.knobs.weight
  pub count : d.count ≡ length c.cells
  pub place : (0 < d.place) × (d.place ≤ length c.cells)
  pub phase : d.phase ≡ Move
  pub at : d.at ≡ child c d.place
  pub tallies : (i : ℕ) → i < d.place → IsLoaded u (child c i + 2)
  pub seen : (i : ℕ) → i < d.place → IsLoaded u (child c i + 3)
  pub few : d.visits ≤ u.shape.knobs.playouts
  pub keeps : KeepsBest d (children_loaded u c d.place)

module _ (w : Walker) (v : SeatView) (b : Belongs w v) (x : ℕ) (a : AtChild w v)
    (phase : w.scan.phase ≡ Seen)
    (may : MayAnswer v (Look w.scan.at) x) (iu : IsView (after v (Look w.scan.at) x)) where
  stands : InChild Seen v w.scan (child a.block w.scan.place)
  stands = subst (λ (p : Phase). InChild p v w.scan (child a.block w.scan.place)) phase a.scan.stands

  -- the scan after the look
  abbrev then : ScanData
  then = scan_on Seen w.scan x

  one-less : (i n : ℕ) → i < n + 1 → (i < n) ⊎ (i ≡ n)
  one-less i n l = ⊎_elim (λ (m : i < n). inl m) (λ (m : n ≤ i). inr (omega arith)) (cases_lt i n)

  tally-kept : (k : ℕ) → k ≤ w.scan.place → w.scan.at ≢ child a.block k + 2
  tally-kept k l e = let s = stands.0 in omega (arith, s, e, l)

  loads-tally : (i : ℕ) → i < w.scan.place + 1
      → IsLoaded (after v (Look w.scan.at) x) (child a.block i + 2)
  loads-tally i l = ⊎_elim
      (λ (m : i < w.scan.place). loaded-goes v (after v (Look w.scan.at) x) w.scan.at (goes w v b x a iu) (child a.block i
      + 2) (tally-kept i (omega arith)) (a.scan.tallies i m))
      (λ (e : i ≡ w.scan.place). subst (λ (k : ℕ). IsLoaded (after v (Look w.scan.at) x) (child a.block k + 2)) (sym e)
      (loaded-goes v (after v (Look w.scan.at) x) w.scan.at (goes w v b x a iu) (child a.block w.scan.place
      + 2) (tally-kept w.scan.place (omega arith)) (w.scan.tally, stands.1)))
      (one-less i w.scan.place l)

  loads-seen : (i : ℕ) → i < w.scan.place + 1
      → IsLoaded (after v (Look w.scan.at) x) (child a.block i + 3)
  loads-seen i l = ⊎_elim
      (λ (m : i < w.scan.place). loaded-goes v (after v (Look w.scan.at) x) w.scan.at (goes w v b x a iu) (child a.block i
      + 3) (λ e. let s = stands.0 in omega (arith, s, e, m)) (a.scan.seen i m))
      (λ (e : i ≡ w.scan.place). subst (λ (k : ℕ). IsLoaded (after v (Look w.scan.at) x) (child a.block k + 3)) (sym e)
      (x, look-seen v w.scan.at x (child a.block w.scan.place) (kid w v b x a w.scan.place (here w v b x a)) stands.0))
      (one-less i w.scan.place l)

  -- the counts of the child in hand
  child-is : child_of
      (tally_loaded (after v (Look w.scan.at) x) (child a.block w.scan.place), seen_loaded (after v (Look w.scan.at) x) (child a.block w.scan.place))
      ≡ child_in w.scan x
  child-is =
      let y : ℕ = child a.block w.scan.place in
      let u : SeatView = after v (Look w.scan.at) x in
      let tally : tally_loaded u y ≡ count_in w.scan.tally
      = tally-goes v u w.scan.at (goes w v b x a iu) y (tally-kept w.scan.place (omega arith))
      ∙ ap (λ (o : Option ℕ). count_in (or_zero o)) stands.1 in
      let seen : seen_loaded u y ≡ count_in x
      = ap (λ (o : Option ℕ). count_in (or_zero o))
      (look-seen v w.scan.at x y (kid w v b x a w.scan.place (here w v b x a)) stands.0) in
      λ i. child_of (tally i, seen i)

  kept-now : KeepsBest then
      (children_loaded (after v (Look w.scan.at) x) a.block (w.scan.place + 1))
  kept-now =
      let u : SeatView = after v (Look w.scan.at) x in
      let few : w.scan.place ≤ length a.block.cells
      = (let h = here w v b x a in omega (arith, h)) in
      let same : children_loaded u a.block w.scan.place ≡ children_loaded v a.block w.scan.place
      = children-same v u a.block w.scan.place few
      (λ k l. tally-goes v u w.scan.at (goes w v b x a iu) (child a.block k) (tally-kept k (omega arith)))
      (λ k l. seen-goes v u w.scan.at (goes w v b x a iu) (child a.block k) (λ e. let s = stands.0 in omega (arith, s, e, l))) in
      let more : children_loaded u a.block
      (w.scan.place + 1) ≡ children_loaded v a.block w.scan.place ++ child_in w.scan x ∷ []
      = children-push u a.block w.scan.place (here w v b x a) ∙ (λ i. same i ++ child-is i ∷ []) in
      subst (KeepsBest then) (sym more)
      (keeps-more w.scan (child_in w.scan x) (w.scan.at + 1) Move (children_loaded v a.block w.scan.place) (children-long v a.block w.scan.place few)
      a.scan.keeps)

  pub seen-looked : Looked w (after v (Look w.scan.at) x) a.block then
  unfolding with_word looked
  seen-looked =
      let q : Child = child_in w.scan x in
      record {
        down = count-down w v b x a 3 (omega arith) (omega arith) stands.0 iu;
        parent = kept-same (λ z. z.parent) w.scan q (λ p y m t. refl) ∙ a.scan.parent;
        weight = kept-same (λ z. z.weight) w.scan q (λ p y m t. refl) ∙ a.scan.weight;
        count = kept-same (λ z. z.count) w.scan q (λ p y m t. refl) ∙ a.scan.count;
        place = (omega arith, let h = here w v b x a in omega (arith, h));
        phase = refl;
        at = let s = stands.0 in omega (arith, s);
        tallies = loads-tally;
        seen = loads-seen;
        few = kept-few w.scan q v.shape.knobs.playouts a.scan.few (stands.2.0);
        keeps = kept-now;
      }
