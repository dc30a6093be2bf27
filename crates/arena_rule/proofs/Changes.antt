-- What a step leaves of a view, part by part.
use Rattle.std.proofs.Common.{◌≡◌, ◌⊎◌, ℕ, ◌+◌, ◌<◌, ◌≤◌, Bool, true, false, cond, [], set, Some}
use Rattle.std.proofs.Common.{refl, ap, inl, inr}
use Rattle.std.specs.Prelude.{nat_lt, nat_le, option_map}
use Rattle.std.proofs.lemmas.Bool.{ltb-true, ltb-false, leb-true, leb-false}
use Rattle.tree_words.specs.Words.{end_of}
use Rattle.tree_words.specs.declared.steps.Op.{Op}
use Rattle.tree_words.specs.declared.steps.Op.TheVariants.{Draw, Look, Claim, Write, Publish, Add}
use Rattle.tree_words.specs.declared.steps.Op.TheVariants.{Note, Done}
use Rattle.arena_rule.specs.Views.{SeatView}
use Rattle.arena_rule.specs.Afters.{word_of, put, answer_of, drew, looked, claimed_at, wrote}
use Rattle.arena_rule.specs.Afters.{published, added_at, noted, with_word, after}

-- a Draw gives a number below N, or ends the worker
pub drew_cases : (v : SeatView) (x : ℕ)
    → ((x < v.shape.knobs.playouts) × (drew v x ≡ record v { ticket = Some x })) ⊎ ((v.shape.knobs.playouts ≤ x) × (drew v x ≡ record v { ended = 1 }))
unfolding drew
drew_cases v x = by (nat_lt x v.shape.knobs.playouts) refl
  where
    by : (t : Bool) → nat_lt x v.shape.knobs.playouts ≡ t
        → ((x < v.shape.knobs.playouts) × (cond t (record v { ticket = Some x }) (record v { ended = 1 }) ≡ record v { ticket = Some x }))
        ⊎ ((v.shape.knobs.playouts ≤ x) × (cond t (record v { ticket = Some x }) (record v { ended = 1 }) ≡ record v { ended = 1 }))
    by true e = inl (ltb-true x v.shape.knobs.playouts e, refl)
    by false e = inr (ltb-false x v.shape.knobs.playouts e, refl)

-- a Claim gives a block to hold, or goes past the area's end
pub claimed_cases : (v : SeatView) (size x : ℕ)
    → ((x + size ≤ end_of v.shape) × (claimed_at v size x ≡ record v {
      held = Some (record { start = x; size = size; written = [] });
      claimed = v.claimed
          + size;
    }))
    ⊎ ((end_of v.shape < x + size) × (claimed_at v size x ≡ record v { full = true }))
unfolding claimed_at
claimed_cases v size x = by (nat_le (x + size) (end_of v.shape)) refl
  where
    by : (t : Bool) → nat_le (x + size) (end_of v.shape) ≡ t
        → ((x + size ≤ end_of v.shape) × (cond t (record v {
          held = Some (record { start = x; size = size; written = [] });
          claimed = v.claimed
              + size;
        }) (record v { full = true })
        ≡ record v { held = Some (record { start = x; size = size; written = [] }); claimed = v.claimed + size }))
        ⊎ ((end_of v.shape < x + size) × (cond t (record v {
          held = Some (record { start = x; size = size; written = [] });
          claimed = v.claimed
              + size;
        }) (record v { full = true }) ≡ record v { full = true }))
    by true e = inl (leb-true (x + size) (end_of v.shape) e, refl)
    by false e = inr (leb-false (x + size) (end_of v.shape) e, refl)

-- a part that no Draw and no Claim reads
module _ {A : Type 0} (f : SeatView → A) where
  pub drew_same : (v : SeatView) (x : ℕ) → f (record v { ticket = Some x }) ≡ f v
      → f (record v { ended = 1 }) ≡ f v → f (drew v x) ≡ f v
  unfolding drew
  drew_same v x a c = by (nat_lt x v.shape.knobs.playouts)
    where
      by : (t : Bool) → f (cond t (record v { ticket = Some x }) (record v { ended = 1 })) ≡ f v
      by true = a
      by false = c

  pub claimed_same : (v : SeatView) (size x : ℕ)
      → f (record v { held = Some (record { start = x; size = size; written = [] }); claimed = v.claimed + size }) ≡ f v → f (record v { full = true }) ≡ f v
      → f (claimed_at v size x) ≡ f v
  unfolding claimed_at
  claimed_same v size x a c = by (nat_le (x + size) (end_of v.shape))
    where
      by : (t : Bool)
          → f (cond t (record v { held = Some (record { start = x; size = size; written = [] }); claimed = v.claimed + size }) (record v { full = true }))
          ≡ f v
      by true = a
      by false = c

pub shape-after : (v : SeatView) (op : Op) (x : ℕ) → (after v op x).shape ≡ v.shape
unfolding with_word looked wrote published added_at noted
shape-after v Draw x = drew_same (λ u. u.shape) v x refl refl
shape-after v (Look i) x = refl
shape-after v (Claim size) x = claimed_same (λ u. u.shape) v size x refl refl
shape-after v (Write i value) x = refl
shape-after v (Publish l b) x = refl
shape-after v (Add i won) x = refl
shape-after v (Note k value) x = refl
shape-after v Done x = refl

pub width-after : (v : SeatView) (op : Op) (x : ℕ) → (after v op x).width ≡ v.width
unfolding with_word looked wrote published added_at noted
width-after v Draw x = drew_same (λ u. u.width) v x refl refl
width-after v (Look i) x = refl
width-after v (Claim size) x = claimed_same (λ u. u.width) v size x refl refl
width-after v (Write i value) x = refl
width-after v (Publish l b) x = refl
width-after v (Add i won) x = refl
width-after v (Note k value) x = refl
width-after v Done x = refl

pub whole-after : (v : SeatView) (op : Op) (x : ℕ)
    → (after v op x).whole ≡ option_map (λ ws. set ws (word_of op) (put op x)) v.whole
unfolding with_word looked wrote published added_at noted
whole-after v Draw x = ap (option_map (λ ws. set ws (word_of Draw) (put Draw x)))
    (drew_same (λ u. u.whole) v x refl refl)
whole-after v (Look i) x = refl
whole-after v (Claim size) x
    = ap (option_map (λ ws. set ws (word_of (Claim size)) (put (Claim size) x)))
    (claimed_same (λ u. u.whole) v size x refl refl)
whole-after v (Write i value) x = refl
whole-after v (Publish l b) x = refl
whole-after v (Add i won) x = refl
whole-after v (Note k value) x = refl
whole-after v Done x = refl

-- the new value of a word is told by the answer as well
pub put-answered : (op : Op) (x : ℕ) → put op (answer_of op x) ≡ put op x
put-answered Draw x = refl
put-answered (Look i) x = refl
put-answered (Claim size) x = refl
put-answered (Write i value) x = refl
put-answered (Publish l b) x = refl
put-answered (Add i won) x = refl
put-answered (Note k value) x = refl
put-answered Done x = refl
