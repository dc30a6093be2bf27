-- Stones off the board change no element: a board and the same one without them have the same ones.
use Rattle.std.proofs.Common.{◌≡◌, ℕ, ◌+◌, ◌*◌, ◌%◌, ◌^◌, ◌<◌, ◌≤◌, ◌==◌, ◌&&◌, ◌||◌, not, nat_lt}
use Rattle.std.proofs.Common.{true, false, Bool, List, [], ◌∷◌, Option, Some, None, if◌then◌else◌}
use Rattle.std.proofs.Common.{option_map, refl, sym, ◌∙◌, ap, zero, suc, inl, inr, arith}
use Rattle.std.specs.List.{count_by, find, list_any, range_with_len}
use Rattle.std.proofs.lemmas.Bool.{cases_lt, both_ways, false_from_ne_true, ltb-true}
use Rattle.std.proofs.lemmas.Nat.{mod_below}
use Rattle.std.proofs.Math.Pow.{pow_pos}
use Rattle.hex_cells.specs.Sets.{has, without_cell}
use Rattle.hex_cells.specs.Edges.{on_edge}
use Rattle.hex_cells.specs.Graph.{is_neighbour}
use Rattle.hex_cells.specs.declared.colours.Colour.{Colour}
use Rattle.hex_cells.specs.declared.colours.Colour.TheVariants.{Black, White}
use Rattle.hex_cells.proofs.Bits.{cell_below, has_mod, has_without}
use Rattle.hex_cells.proofs.Tables.{edge_on}
use Rattle.hex_board.specs.Elements.{PlayerBoard, are_joined, edge_element, edge_elements}
use Rattle.hex_board.specs.Elements.{element_of, head_element, is_head, is_linked, is_root, is_tied}
use Rattle.hex_board.specs.Joined.{Path, cells_of, is_joined, last_of, leads_in}
use Rattle.hex_board.specs.Positions.{Position, Within, is_empty_at, stones_of}
use Rattle.hex_board.proofs.Placed.{empty_on}
use Rattle.hex_board.proofs.Search.{leads_out}
use Rattle.conn_store.specs.Laws.{IsSubset}
use Rattle.win_cert.proofs.SameTests.{any_same, count_same, find_same, found_below}

-- ---- a set without the cells off the board

abbrev pub trim : ℕ → ℕ → ℕ
trim n s = s % 2 ^ (n * n)

pub trim_within : (n s : ℕ) → Within n (trim n s)
trim_within n s k h
    = cell_below (trim n s) (n * n) k (mod_below s (2 ^ (n * n)) (pow_pos (n * n))) h

pub trim_inside : (n s : ℕ) → IsSubset (trim n s) s
trim_inside n s k h = sym (has_mod s (n * n) k (trim_within n s k h)) ∙ h

-- the sets have the same cells of the board
abbrev Agree : ℕ → ℕ → ℕ → Type 0
Agree n s t = (k : ℕ) → k < n * n → has s k ≡ has t k

trim_agrees : (n s : ℕ) → Agree n s (trim n s)
trim_agrees n s k l = sym (has_mod s (n * n) k l)

agree_less : (n s t x : ℕ) → Agree n s t → Agree n (without_cell s x) (without_cell t x)
agree_less n s t x f k l = has_without s x k
    ∙ (ap (λ b. b && not (k == x)) (f k l) ∙ sym (has_without t x k))

-- ---- paths

leads_same : (fuel n s t : ℕ) (test : ℕ → Bool) (x : ℕ) → Agree n s t → x < n * n
    → leads_in fuel n s test x ≡ leads_in fuel n t test x
unfolding leads_in
leads_same zero n s t test x f l = refl
leads_same (suc fuel) n s t test x f l =
    let next : ℕ → Bool = λ y. is_neighbour n x y && leads_in fuel n (without_cell s x) test y in
    ap (λ b. b && (test x || list_any next (cells_of n))) (f x l)
    ∙ ap (λ b. has t x && (test x || b))
    (any_same next (λ y. is_neighbour n x y && leads_in fuel n (without_cell t x) test y) 0 (n * n)
    (λ y h. ap (λ b. is_neighbour n x y && b) (leads_same fuel n (without_cell s x) (without_cell t x) test y (agree_less n s t x f) (omega arith))))

leads_off : (fuel n s : ℕ) (test : ℕ → Bool) (x : ℕ) → n * n ≤ x → test x ≡ false
    → leads_in fuel n s test x ≡ false
leads_off fuel n s test x l f
    = false_from_ne_true (leads_in fuel n s test x)
    (λ h. let w = leads_out fuel n s test x h in off n s test x w.0 l f w.1 w.2)
  where
    off : (n s : ℕ) (test : ℕ → Bool) (x : ℕ) (xs : List ℕ) → n * n ≤ x → test x ≡ false
        → Path n s x xs → test (last_of x xs) ≡ true → ⊥
    off n s test x [] l f p h = both_ways (test x) f h
    off n s test x (y ∷ ys) l f p h = absurd (omega (arith, p.1.from))

-- ---- the board without stones off it

-- the position, with the stones on the board alone
abbrev pub trimmed_board : Position → Position
trimmed_board p = record { size = p.size; black = trim p.size p.black; white = trim p.size p.white }

abbrev pub on_board : PlayerBoard → PlayerBoard
on_board e = record { board = trimmed_board e.board; player = e.player }

own_agrees : (p : Position) (c : Colour)
    → Agree p.size (stones_of p c) (stones_of (trimmed_board p) c)
own_agrees p Black = trim_agrees p.size p.black
own_agrees p White = trim_agrees p.size p.white

pub own_inside : (p : Position) (c : Colour)
    → IsSubset (stones_of (trimmed_board p) c) (stones_of p c)
own_inside p Black = trim_inside p.size p.black
own_inside p White = trim_inside p.size p.white

pub own_within : (p : Position) (c : Colour) → Within p.size (stones_of (trimmed_board p) c)
own_within p Black = trim_within p.size p.black
own_within p White = trim_within p.size p.white

after_yes : (a b c d f : Bool) → (a ≡ true → b ≡ d) → (a ≡ true → c ≡ f)
    → ((a && not b) && not c) ≡ ((a && not d) && not f)
after_yes true b c d f p q = ap (λ v. not v && not c) (p refl) ∙ ap (λ v. not d && not v) (q refl)
after_yes false b c d f p q = refl

pub empty_same : (p : Position) (k : ℕ) → is_empty_at p k ≡ is_empty_at (trimmed_board p) k
empty_same p k = after_yes (nat_lt k (p.size * p.size)) (has p.black k) (has p.white k)
    (has (trim p.size p.black) k) (has (trim p.size p.white) k)
    (λ h. trim_agrees p.size p.black k (ltb-true k (p.size * p.size) h))
    (λ h. trim_agrees p.size p.white k (ltb-true k (p.size * p.size) h))

linked_same : (e : PlayerBoard) (j k : ℕ) → j < e.board.size * e.board.size
    → is_linked e j k ≡ is_linked (on_board e) j k
linked_same e j k l = leads_same (e.board.size * e.board.size) e.board.size
    (stones_of e.board e.player) (stones_of (trimmed_board e.board) e.player) (λ v. v == k) j
    (own_agrees e.board e.player) l

tied_same : (e : PlayerBoard) (second : Bool) (k : ℕ)
    → is_tied e second k ≡ is_tied (on_board e) second k
tied_same e second k =
    let n = e.board.size in
    let s = stones_of e.board e.player in
    let t = stones_of (trimmed_board e.board) e.player in
    let test = on_edge e.player second n in
    elim (cases_lt k (n * n)) [
      | inl l ↦ leads_same (n * n) n s t test k (own_agrees e.board e.player) l
      | inr l ↦ let f : test k ≡ false
          = false_from_ne_true (test k)
          (λ h. absurd (omega (arith, edge_on e.player second n k h, l))) in
          leads_off (n * n) n s test k l f ∙ sym (leads_off (n * n) n t test k l f)
    ]

pub joined_same : (e : PlayerBoard) → are_joined e ≡ are_joined (on_board e)
unfolding is_joined
joined_same e =
    let n = e.board.size in
    let s = stones_of e.board e.player in
    let t = stones_of (trimmed_board e.board) e.player in
    any_same (λ x. on_edge e.player false n x && leads_in (n * n) n s (on_edge e.player true n) x)
    (λ x. on_edge e.player false n x && leads_in (n * n) n t (on_edge e.player true n) x) 0 (n * n)
    (λ x l. ap (λ b. on_edge e.player false n x && b) (leads_same (n * n) n s t (on_edge e.player true n) x (own_agrees e.board e.player) (omega arith)))

pub edge_same : (e : PlayerBoard) (second : Bool)
    → edge_element e second ≡ edge_element (on_board e) second
edge_same e false = refl
edge_same e true = ap (λ (j : Bool). if j then 0 else 1) (joined_same e)

edges_same : (e : PlayerBoard) → edge_elements e ≡ edge_elements (on_board e)
edges_same e = ap (λ (j : Bool). if j then 1 else 2) (joined_same e)

root_same : (e : PlayerBoard) (k : ℕ) → k < e.board.size * e.board.size
    → is_root e k ≡ is_root (on_board e) k
root_same e k l = ap (λ b. b && not (list_any (λ j. is_linked e j k) (range_with_len 0 k)))
    (own_agrees e.board e.player k l)
    ∙ ap (λ b. has (stones_of (trimmed_board e.board) e.player) k && not b)
    (any_same (λ j. is_linked e j k) (λ j. is_linked (on_board e) j k) 0 k (λ j h. linked_same e j k (omega arith)))

head_same : (e : PlayerBoard) (k : ℕ) → k < e.board.size * e.board.size
    → is_head e k ≡ is_head (on_board e) k
head_same e k l = ap (λ b. b || (is_root e k && not (is_tied e false k) && not (is_tied e true k)))
    (empty_same e.board k)
    ∙ ap (λ b. is_empty_at (trimmed_board e.board) k || b)
    (ap (λ b. b && not (is_tied e false k) && not (is_tied e true k)) (root_same e k l)
    ∙ (ap (λ b. is_root (on_board e) k && not b && not (is_tied e true k)) (tied_same e false k)
    ∙ ap (λ b. is_root (on_board e) k && not (is_tied (on_board e) false k) && not b)
    (tied_same e true k)))

number_same : (e : PlayerBoard) (k : ℕ) → k < e.board.size * e.board.size
    → head_element e k ≡ head_element (on_board e) k
number_same e k l = ap (λ v. v + count_by (is_head e) (range_with_len 0 k)) (edges_same e)
    ∙ ap (λ v. edge_elements (on_board e) + v)
    (count_same (is_head e) (is_head (on_board e)) 0 k (λ j h. head_same e j (omega arith)))

-- ---- elements

map_same : (f g : ℕ → ℕ) (o : Option ℕ) → ((k : ℕ) → o ≡ Some k → f k ≡ g k)
    → option_map f o ≡ option_map g o
map_same f g None h = refl
map_same f g (Some k) h = ap Some (h k refl)

picked : (a b c : Bool) (x y z v w : Option ℕ) → (a ≡ true → x ≡ y) → v ≡ w
    → (if a then x else (if b then Some 0 else (if c then z else v))) ≡ (if a then y else (if b then Some 0 else (if c then z else w)))
picked true b c x y z v w p q = p refl
picked false b c x y z v w p q = ap (λ o. if b then Some 0 else (if c then z else o)) q

-- the same cells are in the same elements
pub element_same : (e : PlayerBoard) (k : ℕ) → element_of e k ≡ element_of (on_board e) k
element_same e k =
    let d = on_board e in
    let n = e.board.size in
    let v = find (λ j. is_linked e j k) (cells_of n) in
    let w = find (λ j. is_linked d j k) (cells_of n) in
    let same : v ≡ w = find_same (λ j. is_linked e j k) (λ j. is_linked d j k) 0 (n * n)
    (λ j l. linked_same e j k (omega arith)) in
    let rest : option_map (head_element e) v ≡ option_map (head_element d) w =
    map_same (head_element e) (head_element d) v
    (λ j h. number_same e j (omega (arith, found_below (λ i. is_linked e i k) 0 (n * n) j h)))
    ∙ ap (option_map (head_element d)) same in
    picked (is_empty_at e.board k) (is_tied e false k) (is_tied e true k) (Some (head_element e k))
    (Some (head_element d k)) (Some (edge_element e true))
    (option_map (head_element e) v) (option_map (head_element d) w)
    (λ h. ap Some (number_same e k (empty_on e.board k h))) rest
    ∙ (ap (λ (b : Bool). if b then Some (head_element d k) else (if is_tied e false k then Some 0
    else (if is_tied e true k then Some (edge_element e true) else option_map (head_element d) w))) (empty_same e.board k)
    ∙ (ap (λ (b : Bool). if is_empty_at d.board k then Some (head_element d k)
    else (if b then Some 0 else (if is_tied e true k then Some (edge_element e true) else option_map (head_element d) w))) (tied_same e false k)
    ∙ (ap (λ (b : Bool). if is_empty_at d.board k then Some (head_element d k)
    else (if is_tied d false k then Some 0 else (if b then Some (edge_element e true) else option_map (head_element d) w))) (tied_same e true k)
    ∙ ap (λ (x : ℕ). if is_empty_at d.board k then Some (head_element d k)
    else (if is_tied d false k then Some 0 else (if is_tied d true k then Some x else option_map (head_element d) w))) (edge_same e true))))
