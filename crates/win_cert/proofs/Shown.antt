-- What two lines show of a position: where the player is joined, by a stone of his, and by cases.
use Rattle.std.proofs.Common.{◌≡◌, ℕ, ◌+◌, ◌≤◌, true, List, [], ◌∷◌, length, bit_or, refl, sym, ◌∙◌}
use Rattle.std.proofs.Common.{subst, inl, inr, arith}
use Rattle.std.specs.List.{cons_option}
use Rattle.std.proofs.lemmas.Bool.{both_ways}
use Rattle.hex_cells.specs.Sets.{has, with_cell}
use Rattle.hex_cells.specs.declared.colours.Colour.TheVariants.{Black}
use Rattle.hex_cells.proofs.Bits.{has_none}
use Rattle.hex_cells.proofs.WithCell.{with_cell-cases, with_cell-here}
use Rattle.hex_board.specs.Joined.{is_joined}
use Rattle.hex_board.specs.Positions.{AllEmpty, Position, is_empty_at, placed, stones_of}
use Rattle.hex_board.proofs.Placed.{placed_empty}
use Rattle.conn_store.specs.declared.entries.Kind.TheVariants.{Full, Semi}
use Rattle.conn_store.proofs.Chains.{empty_both}
use Rattle.win_cert.specs.Entries.{Context, carriers_of, entries_at}
use Rattle.win_cert.specs.declared.lines.Line.TheVariants.{Put, Done, Move, Cases}
use Rattle.win_cert.proofs.CutDerivations.{longer}
use Rattle.win_cert.specs.Contexts.{AreClear, after_lines, context_after}
use Rattle.win_cert.specs.Showing.{GivesEdges, IsReached, Shows}
use Rattle.win_cert.proofs.Appending.{edges_stay}
use Rattle.win_cert.proofs.Reaching.{reached_joined}
use Rattle.win_cert.proofs.ScopeLines.{AreCases, no_cases, one_more, Leaves, here, later}
use Rattle.win_cert.proofs.ScopeLines.{cases_give, cases_right, done_gives, done_right, move_gives}
use Rattle.win_cert.proofs.ScopeLines.{move_right, put_right}

-- after `put` the scope is its cells
abbrev put_after : Context → ℕ → Context
put_after c s = context_after c (Put s)

next_number : (c : Context) (s : ℕ) → length (put_after c s).earlier ≡ length c.earlier + 1
next_number c s = longer c.earlier _

-- ---- joined

pub put_done : (c : Context) (p : Position) (s : ℕ) → IsReached c.base p s
    → is_joined p.size c.base.player (stones_of p c.base.player) ≡ true
    → AreClear c (Put s ∷ Done ∷ []) × Shows (after_lines c (Put s ∷ Done ∷ [])) p Full s
    (length c.earlier + 1)
put_done c p s r j = (
  (put_right c s r.fresh, (done_right (put_after c s) (sym (reached_joined c.base p s r) ∙ j), tt)),
  record {
    carrier = 0;
    gives = subst (λ i. GivesEdges (after_lines c (Put s ∷ Done ∷ [])) Full s 0 i) (next_number c s)
        (done_gives (put_after c s));
    empty = λ k h. absurd (both_ways (has 0 k) (has_none k) h);
    first = λ e. absurd (cc);
  },
)

-- ---- a stone of his

pub put_move : (c : Context) (p : Position) (s k i : ℕ) → IsReached c.base p s
    → is_empty_at p k ≡ true → Shows c (placed p c.base.player k) Full (with_cell s k) i
    → AreClear c (Put s ∷ Move k i ∷ []) × Shows (after_lines c (Put s ∷ Move k i ∷ [])) p Semi s
    (length c.earlier + 1)
put_move c p s k i r h w =
    let g : GivesEdges (put_after c s) Full (with_cell s k) w.carrier i
    = edges_stay c (Put s ∷ []) Full (with_cell s k) w.carrier i w.gives in (
      (put_right c s r.fresh, (move_right (put_after c s) k i w.carrier (r.fewer k h) g, tt)),
      record {
        carrier = with_cell w.carrier k;
        gives = subst (λ j. GivesEdges (after_lines c (Put s ∷ Move k i
            ∷ [])) Semi s (with_cell w.carrier k) j) (next_number c s) (move_gives (put_after c s) k i w.carrier g);
        empty = λ j m. elim (with_cell-cases w.carrier k j m) [
          | inl o ↦ (placed_empty p c.base.player k j (w.empty j o)).0
          | inr e ↦ subst (λ v. is_empty_at p v ≡ true) (sym e) h
        ];
        first = λ e. (k, with_cell-here w.carrier k);
      },
    )

-- ---- cases

-- each number shows that the player wins by placing first, in the scope, with a carrier of cells
-- that are empty on p
pub data AreWays (c : Context) (p : Position) (s : ℕ) : List ℕ → List ℕ → Type 0 where
  no_ways : AreWays c p s [] []
  one_way : (i d : ℕ) (numbers carriers : List ℕ) → GivesEdges c Semi s d i → AllEmpty p d
      → AreWays c p s numbers carriers → AreWays c p s (i ∷ numbers) (d ∷ carriers)

ways_stay : (c : Context) (p : Position) (s : ℕ) (numbers carriers : List ℕ)
    → AreWays c p s numbers carriers → AreCases (put_after c s) numbers carriers
ways_stay c p s numbers carriers no_ways = no_cases
ways_stay c p s numbers carriers (one_way i d ns ds g f w)
    = one_more i d ns ds (edges_stay c (Put s ∷ []) Semi s d i g) (ways_stay c p s ns ds w)

nothing : (p : Position) → AllEmpty p 0
nothing p k h = absurd (both_ways (has 0 k) (has_none k) h)

both_empty : (p : Position) (a b : ℕ) → AllEmpty p a → AllEmpty p b → AllEmpty p (bit_or a b)
both_empty p a b f g = empty_both (record { board = p; player = Black }) a b f g

union_empty : (c : Context) (p : Position) (s : ℕ) (numbers carriers : List ℕ)
    → AreWays c p s numbers carriers → AllEmpty p (carriers_of (entries_at (put_after c s) numbers))
union_empty c p s numbers carriers no_ways = nothing p
union_empty c p s numbers carriers (one_way i d ns ds g f w) =
    let n = put_after c s in
    let h = edges_stay c (Put s ∷ []) Semi s d i g in
    subst (λ o. AllEmpty p (carriers_of (cons_option o (entries_at n ns)))) (sym h.at)
    (both_empty p h.entry.carrier (carriers_of (entries_at n ns)) (subst (λ v. AllEmpty p v) (sym h.carrier_is) f) (union_empty c p s ns ds w))

pub put_cases : (c : Context) (p : Position) (s : ℕ) (numbers carriers : List ℕ)
    → IsReached c.base p s → AreWays c p s numbers carriers → ((k : ℕ) → Leaves k carriers)
    → AreClear c (Put s ∷ Cases numbers ∷ [])
    × Shows (after_lines c (Put s ∷ Cases numbers ∷ [])) p Full s (length c.earlier + 1)
put_cases c p s numbers carriers r w f = (
  (put_right c s r.fresh, (cases_right (put_after c s) numbers carriers (ways_stay c p s numbers carriers w) f, tt)),
  record {
    carrier = carriers_of (entries_at (put_after c s) numbers);
    gives = subst (λ j. GivesEdges (after_lines c (Put s ∷ Cases numbers
        ∷ [])) Full s (carriers_of (entries_at (put_after c s) numbers)) j) (next_number c s) (cases_give (put_after c s) numbers);
    empty = union_empty c p s numbers carriers w;
    first = λ e. absurd (cc);
  },
)

no_leaves : (k : ℕ) → Leaves k [] → ⊥
no_leaves k l = elim l [ ]

single : (d k : ℕ) → has d k ≡ true → Leaves k (d ∷ []) → ⊥
single d k t (here e es n) = both_ways (has d k) n t
single d k t (later e es n) = no_leaves k n

-- there are two numbers at least, where each carrier has a cell
pub two_at_least : (numbers carriers : List ℕ) (c : Context) (p : Position) (s : ℕ)
    → AreWays c p s numbers carriers → ((k : ℕ) → Leaves k carriers)
    → ((d : ℕ) (ds : List ℕ) → carriers ≡ d ∷ ds → (k : ℕ) × (has d k ≡ true)) → 2 ≤ length numbers
two_at_least numbers carriers c p s no_ways f g = absurd (no_leaves 0 (f 0))
two_at_least numbers carriers c p s (one_way i d ns ds h e no_ways) f g = let w = g d [] refl in
    absurd (single d w.0 w.1 (f w.0))
two_at_least numbers carriers c p s (one_way i d ns ds h e (one_way j b ms bs q r w)) f g
    = omega arith
