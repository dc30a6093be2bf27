-- Both parts of a fresh seat are fresh, and two seats that are done are done together.
use Rattle.std.proofs.Common.{◌≡◌, ℕ, ◌+◌, ◌-◌, refl, sym, ap, ◌∙◌, subst, arith, [], None, rules}
use Rattle.arena_rule.specs.Views.{SeatView, HasDrawnNothing, HasEnded}
use Rattle.arena_rule.specs.Afters.{kept_part, given_part, joined}
use Rattle.arena_rule.specs.IsView.{IsView}
use Rattle.tree_rule.specs.Seats.{TreeData, SeatData, IsOf}
use Rattle.search_team.specs.Works.{IsFresh, IsDone}

-- what is kept, and what is given, of a view that has drawn nothing
record IsFreshPart (v : SeatView) (n : ℕ) : Type 0 where
  width : v.width ≡ n
  nothing : HasDrawnNothing v
  lone : v.whole ≡ None

kept-part : (v : SeatView) (part : ℕ) → HasDrawnNothing v
    → IsFreshPart (kept_part v part) (v.width - part)
unfolding kept_part
kept-part v part h = record { width = refl; nothing = assumption h; lone = refl }

given-part : (v : SeatView) (part : ℕ) → IsFreshPart (given_part v part) part
given-part v part = record { width = refl; nothing = search rules; lone = refl }

-- so a seat with such a view is fresh
part-fresh : (tree : TreeData) (seat : SeatData) (v : SeatView) (n m : ℕ) → IsFreshPart v n → n ≡ m
    → IsOf tree seat → seat.view ≡ v → IsView seat.view → seat.owed ≡ [] → IsFresh tree seat m
part-fresh tree seat v n m part same own is order owed = record {
  own = own;
  width = ap (λ (u : SeatView). u.width) is ∙ part.width ∙ same;
  nothing = subst HasDrawnNothing (sym is) part.nothing;
  order = order;
  owed = owed;
  lone = λ e. ap (λ (u : SeatView). u.whole) is ∙ part.lone;
}

pub kept-fresh : (tree : TreeData) (seat kept : SeatData) (n part : ℕ) → IsFresh tree seat n
    → IsOf tree kept → kept.view ≡ kept_part seat.view part → IsView kept.view → kept.owed ≡ []
    → IsFresh tree kept (n - part)
kept-fresh tree seat kept n part fresh = part-fresh tree kept (kept_part seat.view part)
    (seat.view.width - part) (n - part) (kept-part seat.view part fresh.nothing)
    (ap (λ (m : ℕ). m - part) fresh.width)

pub given-fresh : (tree : TreeData) (seat given : SeatData) (part : ℕ) → IsOf tree given
    → given.view ≡ given_part seat.view part → IsView given.view → given.owed ≡ []
    → IsFresh tree given part
given-fresh tree seat given part = part-fresh tree given (given_part seat.view part) part part
    (given-part seat.view part) refl

joined-width : (v w : SeatView) → (joined v w).width ≡ v.width + w.width
unfolding joined
joined-width v w = refl

joined-ended : (v w : SeatView) → HasEnded v → HasEnded w → HasEnded (joined v w)
unfolding joined
joined-ended v w a b = omega (arith, a, b)

pub joined-done : (tree : TreeData) (left right all : SeatData) (m k n : ℕ) → IsDone tree left m
    → IsDone tree right k
    → IsOf tree all → all.view ≡ joined left.view right.view → IsView all.view → all.owed ≡ []
    → m + k ≡ n → IsDone tree all n
joined-done tree left right all m k n a b own is order owed sum = record {
  own = own;
  width = (let w = ap (λ (u : SeatView). u.width) is ∙ joined-width left.view right.view in omega (arith, w, a.width, b.width, sum));
  ended = subst HasEnded (sym is) (joined-ended left.view right.view a.ended b.ended);
  order = order;
  owed = owed;
}
