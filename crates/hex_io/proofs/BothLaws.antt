-- Facts of what is told before and after, over one step after another.
use Rattle.std.proofs.Common.{Option, Some, None}
use Rattle.hex_io.specs.Told.{Both, together}

-- one step and then another
pub Both-then : {X : Type 0} (a b c : Option X) (R S T : X → X → Type 0)
    → ((x y z : X) → R x y → S y z → T x z) → Both a b R → Both b c S → Both a c T
Both-then None b c R S T go r s = tt
Both-then (Some x) None c R S T go r s = absurd r
Both-then (Some x) (Some y) None R S T go r s = absurd s
Both-then (Some x) (Some y) (Some z) R S T go r s = go x y z r s

-- a fact of the first and the last, and one of the middle and the last
pub Both-last : {X : Type 0} (a b c : Option X) (R S T : X → X → Type 0)
    → ((x y z : X) → R x z → S y z → T x z) → Both a c R → Both b c S → Both a b (λ x y. Unit {0})
    → Both a c T
Both-last None b c R S T go r s m = tt
Both-last (Some x) None c R S T go r s m = absurd m
Both-last (Some x) (Some y) None R S T go r s m = absurd r
Both-last (Some x) (Some y) (Some z) R S T go r s m = go x y z r s

-- a weaker fact of the same two
pub Both-weaker : {X : Type 0} (a b : Option X) (R S : X → X → Type 0) → ((x y : X) → R x y → S x y)
    → Both a b R → Both a b S
Both-weaker None b R S go r = tt
Both-weaker (Some x) None R S go r = absurd r
Both-weaker (Some x) (Some y) R S go r = go x y r

-- a step that changed nothing
pub Both-refl : {X : Type 0} (a : Option X) (R : X → X → Type 0) → ((x : X) → R x x) → Both a a R
Both-refl None R go = tt
Both-refl (Some x) R go = go x

-- facts of two tellers are one fact of both together
pub Both-together : {X Y : Type 0} (a a' : Option X) (b b' : Option Y) (R : X → X → Type 0)
    (S : Y → Y → Type 0) → Both a a' R → Both b b' S
    → Both (together a b) (together a' b') (λ p q. R p.0 q.0 × S p.1 q.1)
Both-together None a' b b' R S r s = tt
Both-together (Some x) None b b' R S r s = absurd r
Both-together (Some x) (Some x') None b' R S r s = tt
Both-together (Some x) (Some x') (Some y) None R S r s = absurd s
Both-together (Some x) (Some x') (Some y) (Some y') R S r s = (r, s)
