-- The stones from which a path leads to a set, as a flood finds them.
use Rattle.std.proofs.Common.{◌≡◌, Bool, ℕ, ◌<◌, ◌^◌, List, [], ◌∷◌, true, false, sym, ◌∙◌, ◌&&◌}
use Rattle.std.proofs.Common.{◌||◌, ◌↔◌, IsTrue, inl, inr}
use Rattle.std.proofs.lemmas.Bool.{and_parts, and_from, or_cases, or_left, or_right}
use Rattle.hex_cells.specs.Edges.{on_edge}
use Rattle.hex_cells.specs.declared.colours.Colour.{Colour}
use Rattle.hex_cells.specs.Sets.{has}
use Rattle.hex_cells.specs.Graph.{Adjacent, Neighbour, Bordered, east, west, south, north}
use Rattle.hex_cells.specs.Graph.{north_east, south_west}
use Rattle.hex_board.specs.Joined.{Path, last_of, Leads, Joined}

-- reach holds the stones of the goal, and from each of its cells a path leads there
pub record Reached (n s g reach : ℕ) : Type 0 where
  pub sound : (k : ℕ) → has reach k ≡ true → Leads n s g k
  pub holds : (k : ℕ) → has g k ≡ true → has s k ≡ true → has reach k ≡ true
  pub small : reach < 2 ^ 121

pub turned : (n a b : ℕ) → Adjacent n a b → Adjacent n b a
turned n a b (east e f) = west e (sym f)
turned n a b (west e f) = east e (sym f)
turned n a b (south e f) = north (sym e) f
turned n a b (north e f) = south (sym e) f
turned n a b (north_east e f) = south_west e f
turned n a b (south_west e f) = north_east e f

pub back : (n a b : ℕ) → Neighbour n a b → Neighbour n b a
back n a b h = record { from = h.to; to = h.from; step = turned n a b h.step }

pub leads_here : (n s g k : ℕ) → has s k ≡ true → has g k ≡ true → Leads n s g k
leads_here n s g k h e = ([], h, e)

pub leads_on : (n s g k c : ℕ) → has s k ≡ true → Neighbour n c k → Leads n s g c → Leads n s g k
leads_on n s g k c h b l = (c ∷ l.0, (h, back n c k b, l.1), l.2)

-- if no stone beside reach is left out, reach holds each cell from which a path leads to the
-- goal
pub all_reached : (n s g reach : ℕ)
    → ((k : ℕ) → has g k ≡ true → has s k ≡ true → has reach k ≡ true)
    → ((k : ℕ) → has s k ≡ true → Bordered n reach k → has reach k ≡ true)
    → (x : ℕ) (xs : List ℕ) → Path n s x xs → has g (last_of x xs) ≡ true → has reach x ≡ true
all_reached n s g reach b f x [] p e = b x e p
all_reached n s g reach b f x (y ∷ ys) p e
    = f x p.0 (y, all_reached n s g reach b f y ys p.2 e, back n x y p.1)

pub first_reached : (n s g r : ℕ) → ((k : ℕ) → has r k ≡ (has g k && has s k)) → r < 2 ^ 121
    → Reached n s g r
first_reached n s g r e b = record {
  sound = λ k h. let t = and_parts (has g k) (has s k) (sym (e k) ∙ h) in
      leads_here n s g k t.1 t.0;
  holds = λ k h i. e k ∙ and_from (has g k) (has s k) h i;
  small = b;
}

pub more_reached : (n s g r a next : ℕ) → Reached n s g r
    → ((k : ℕ) → IsTrue (has a k) ↔ Bordered n r k)
    → ((k : ℕ) → has next k ≡ (has r k || (has a k && has s k))) → next < 2 ^ 121
    → Reached n s g next
more_reached n s g r a next i f e b = record {
  sound = λ k h. elim (or_cases (has r k) (has a k && has s k) (sym (e k) ∙ h)) [
    | inl u ↦ i.sound k u
    | inr u ↦ let t = and_parts (has a k) (has s k) u in let w = (f k).0 t.0 in
        leads_on n s g k w.0 t.1 w.2 (i.sound w.0 w.1)
  ];
  holds = λ k h j. e k ∙ or_left (has r k) (has a k && has s k) (i.holds k h j);
  small = b;
}

pub no_more : (n s g r a next : ℕ) → Reached n s g r → ((k : ℕ) → IsTrue (has a k) ↔ Bordered n r k)
    → ((k : ℕ) → has next k ≡ (has r k || (has a k && has s k)))
    → ((k : ℕ) → has next k ≡ true → has r k ≡ true) → (d : ℕ) → IsTrue (has r d) ↔ Leads n s g d
no_more n s g r a next i f e q d = (
  i.sound d,
  λ l. all_reached n s g r i.holds
      (λ k h w. q k (e k ∙ or_right (has r k) (has a k && has s k) (and_from (has a k) (has s k) ((f k).1 w) h))) d l.0 l.1 l.2,
)

joined_from : (n : ℕ) (p : Colour) (s g e r x : ℕ) → ((k : ℕ) → has g k ≡ on_edge p true n k)
    → ((k : ℕ) → has e k ≡ on_edge p false n k) → ((d : ℕ) → IsTrue (has r d) ↔ Leads n s g d)
    → (has r x && has e x) ≡ true → Joined n p s
joined_from n p s g e r x hg he hr h =
    let t = and_parts (has r x) (has e x) h in
    let l = (hr x).0 t.0 in
    (x, l.0, l.1, sym (he x) ∙ t.1, sym (hg (last_of x l.0)) ∙ l.2)

joined_reaches : (n : ℕ) (p : Colour) (s g e r : ℕ) → ((k : ℕ) → has g k ≡ on_edge p true n k)
    → ((k : ℕ) → has e k ≡ on_edge p false n k) → ((d : ℕ) → IsTrue (has r d) ↔ Leads n s g d)
    → (j : Joined n p s) → (has r j.0 && has e j.0) ≡ true
joined_reaches n p s g e r hg he hr j =
    let l : has g (last_of j.0 j.1) ≡ true = hg (last_of j.0 j.1) ∙ j.4 in
    let f : has e j.0 ≡ true = he j.0 ∙ j.3 in
    and_from (has r j.0) (has e j.0) ((hr j.0).1 (j.1, j.2, l)) f

-- the player is joined if what leads to one edge meets the other
pub meets_joined : (n : ℕ) (p : Colour) (s g e r : ℕ) (m : Bool)
    → ((k : ℕ) → has g k ≡ on_edge p true n k)
    → ((k : ℕ) → has e k ≡ on_edge p false n k) → ((d : ℕ) → IsTrue (has r d) ↔ Leads n s g d)
    → IsTrue m ↔ ((k : ℕ) × (has r k ≡ true) × (has e k ≡ true)) → IsTrue m ↔ Joined n p s
meets_joined n p s g e r m hg he hr hm = (
  (λ h. let w = hm.0 h in joined_from n p s g e r w.0 hg he hr (and_from (has r w.0) (has e w.0) w.1 w.2)),
  (λ j. let t = and_parts (has r j.0) (has e j.0) (joined_reaches n p s g e r hg he hr j) in hm.1 (j.0, t.0, t.1)),
)
