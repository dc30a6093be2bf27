-- Sets of cells and the vertices that name them in rising order.
use Rattle.std.proofs.Common.{◌≡◌, ℕ, ◌+◌, ◌-◌, ◌*◌, ◌<◌, ◌≤◌, ◌⊎◌, inl, inr, zero, suc, leb, Bool}
use Rattle.std.proofs.Common.{true, false, cond, List, [], ◌∷◌, map, Some, None, refl, ap, sym, ◌∙◌}
use Rattle.std.proofs.Common.{subst, arith}
use Rattle.std.proofs.lemmas.Bool.{leb-true, le-leb}
use Rattle.std.specs.List.{filter, range_with_len}
use Rattle.std.specs.Option.{option_and_then}
use Rattle.std.proofs.lemmas.Bool.{cases_eq, false_from_ne_true}
use Rattle.std.specs.Cmp.{both_ways}
use Rattle.hex_cells.specs.Sets.{has, with_cell}
use Rattle.hex_cells.specs.Vertices.{vertex_of}
use Rattle.hex_cells.proofs.Filters.{none_pass}
use Rattle.hex_cells.proofs.Bits.{has_none, same_set}
use Rattle.hex_cells.proofs.WithCell.{with_cell-cases, with_cell-here, with_cell-keeps}
use Rattle.hex_board.specs.Positions.{Within}
use Rattle.win_cert.specs.Named.{cell_named, set_named}
use Rattle.win_cert.specs.Texts.{vertices_of}
use Rattle.win_cert.proofs.CellLists.{cells_within, none_within}
use Rattle.win_cert.proofs.CellWords.{cell_back, cell_means}
use Rattle.win_cert.proofs.Options.{some_of_test, some_of_then}

-- ---- from a set to its vertices, and back

-- the set s with those of m cells from l on that are in t
all_with : ℕ → ℕ → ℕ → ℕ → ℕ
all_with s t l zero = s
all_with s t l (suc m) = all_with (cond (has t l) (with_cell s l) s) t (l + 1) m

pick : (n s b l : ℕ) (c : Bool) (cells : List ℕ) (u : ℕ) → n ≤ 11 → b ≤ l → l < n * n
    → ((b : ℕ) → b ≤ l + 1 → set_named n (cond c (with_cell s l) s) b (map (vertex_of n) cells) ≡ Some u)
    → set_named n s b (map (vertex_of n) (cond c (l ∷ cells) cells)) ≡ Some u
pick n s b l true cells u size low on rest =
    let words = map (vertex_of n) cells in
    ap (option_and_then (λ k. cond (leb b k) (set_named n (with_cell s k) (suc k) words) None))
    (cell_back n l size on)
    ∙ ap (λ t. cond t (set_named n (with_cell s l) (suc l) words) None) (le-leb b l low)
    ∙ rest (suc l) (omega arith)
pick n s b l false cells u size low on rest = rest b (omega arith)

named_all : (n s t b l m : ℕ) → n ≤ 11 → b ≤ l → l + m ≤ n * n
    → set_named n s b (map (vertex_of n) (filter (has t) (range_with_len l m))) ≡ Some
    (all_with s t l m)
unfolding all_with
named_all n s t b l zero size low on = refl
named_all n s t b l (suc m) size low on =
    pick n s b l (has t l) (filter (has t) (range_with_len (l + 1) m))
    (all_with (cond (has t l) (with_cell s l) s) t (l + 1) m)
    size low (omega arith)
    (λ b low. named_all n (cond (has t l) (with_cell s l) s) t b (l + 1) m size low (omega arith))

kept_if : (s l k : ℕ) (c : Bool) → has s k ≡ true → has (cond c (with_cell s l) s) k ≡ true
kept_if s l k true h = with_cell-keeps s l k h
kept_if s l k false h = h

all_keeps : (s t l m k : ℕ) → has s k ≡ true → has (all_with s t l m) k ≡ true
unfolding all_with
all_keeps s t l zero k h = h
all_keeps s t l (suc m) k h = all_keeps (cond (has t l) (with_cell s l) s) t (l + 1) m k
    (kept_if s l k (has t l) h)

taken_if : (s l : ℕ) (c : Bool) → c ≡ true → has (cond c (with_cell s l) s) l ≡ true
taken_if s l true e = with_cell-here s l
taken_if s l false e = cc

all_takes : (s t l m k : ℕ) → has t k ≡ true → l ≤ k → k < l + m → has (all_with s t l m) k ≡ true
unfolding all_with
all_takes s t l zero k h low high = absurd (omega arith)
all_takes s t l (suc m) k h low high = elim (cases_eq l k) [
  | inl same ↦
      let here : has t l ≡ true = ap (has t) same ∙ h in
      subst (λ j. has (all_with s t l (suc m)) j ≡ true) same
      (all_keeps (cond (has t l) (with_cell s l) s) t (l + 1) m l (taken_if s l (has t l) here))
  | inr other ↦ all_takes (cond (has t l) (with_cell s l) s) t (l + 1) m k h (omega (arith, other))
      (omega arith)
]

only_if : (s t l k : ℕ) (c : Bool) → (c ≡ true → has t l ≡ true)
    → has (cond c (with_cell s l) s) k ≡ true → (has s k ≡ true) ⊎ (has t k ≡ true)
only_if s t l k true here h = elim (with_cell-cases s l k h) [
  | inl old ↦ inl old
  | inr new ↦ inr (ap (has t) new ∙ here refl)
]
only_if s t l k false here h = inl h

all_only : (s t l m k : ℕ) → has (all_with s t l m) k ≡ true → (has s k ≡ true) ⊎ (has t k ≡ true)
unfolding all_with
all_only s t l zero k h = inl h
all_only s t l (suc m) k h = elim (all_only (cond (has t l) (with_cell s l) s) t (l + 1) m k h) [
  | inl old ↦ only_if s t l k (has t l) (λ e. e) old
  | inr new ↦ inr new
]

all_same : (n s : ℕ) → Within n s → all_with 0 s 0 (n * n) ≡ s
all_same n s on
    = same_set (all_with 0 s 0 (n * n)) s (λ k. both_ways (has (all_with 0 s 0 (n * n)) k) (has s k)
    (λ h. elim (all_only 0 s 0 (n * n) k h) [ inl old ↦ let none = has_none k in absurd (cc) | inr new ↦ new ])
    (λ h. all_takes 0 s 0 (n * n) k h (omega arith) (let below = on k h in omega (arith, below))))

-- the vertices of a set's cells name it
pub cells_back : (n s : ℕ) → n ≤ 11 → Within n s → set_named n 0 0 (vertices_of n s) ≡ Some s
cells_back n s size on = named_all n 0 s 0 0 (n * n) size (omega arith) (omega arith)
    ∙ ap Some (all_same n s on)

-- ---- from words to the set that they name

filter_to : (p : ℕ → Bool) (b k m : ℕ) → b ≤ k → k < b + m → ((j : ℕ) → b ≤ j → j < k → p j ≡ false)
    → p k ≡ true
    → filter p (range_with_len b m) ≡ k ∷ filter p (range_with_len (suc k) (b + m - suc k))
filter_to p b k zero low high none passes = absurd (omega arith)
filter_to p b k (suc m) low high none passes = elim (cases_eq b k) [
  | inl same ↦
      let here : p b ≡ true = ap p same ∙ passes in
      let next : b + 1 ≡ suc k = omega (arith, same) in
      let left : m ≡ b + suc m - suc k = omega (arith, same) in
      ap (λ t. cond t (b ∷ filter p (range_with_len (b + 1) m)) (filter p (range_with_len (b + 1) m))) here
      ∙ ap (λ j. j ∷ filter p (range_with_len (b + 1) m)) same
      ∙ ap (λ j. k ∷ filter p (range_with_len j m)) next
      ∙ ap (λ j. k ∷ filter p (range_with_len (suc k) j)) left
  | inr other ↦
      let left : b + 1 + m - suc k ≡ b + suc m - suc k = omega arith in
      ap (λ t. cond t (b ∷ filter p (range_with_len (b + 1) m)) (filter p (range_with_len (b + 1) m))) (none b (omega arith) (omega (arith, other)))
      ∙ filter_to p (b + 1) k m (omega (arith, other)) (omega arith)
      (λ j l h. none j (omega arith) h) passes
      ∙ ap (λ j. k ∷ filter p (range_with_len (suc k) j)) left
]

record Names (n s b : ℕ) (words : List (List ℕ)) (u : ℕ) : Type 0 where
  keeps : (j : ℕ) → has s j ≡ true → has u j ≡ true
  new : (j : ℕ) → has u j ≡ true → (has s j ≡ true) ⊎ (b ≤ j)
  is : words ≡ map (vertex_of n) (filter (has u) (range_with_len b (n * n - b)))

names : (n s b : ℕ) (words : List (List ℕ)) (u : ℕ) → set_named n s b words ≡ Some u
    → ((j : ℕ) → has s j ≡ true → j < b) → b ≤ n * n → Names n s b words u
names n s b [] u e below high =
    let same : s ≡ u = cc in
    subst (Names n s b []) same (record {
      keeps = λ j h. h;
      new = λ j h. inl h;
      is = ap (map (vertex_of n))
          (sym (none_pass (has s) b (n * n - b) (λ j low. false_from_ne_true (has s j) (λ h. let l = below j h in absurd (omega (arith, l))))));
    })
names n s b (word ∷ words) u e below high =
    let found = some_of_then (λ k. cond (leb b k) (set_named n (with_cell s k) (suc k) words) None)
    (cell_named n word) u e in
    let k : ℕ = found.0 in
    let rest = some_of_test (leb b k) (set_named n (with_cell s k) (suc k) words) u found.2 in
    let low : b ≤ k = leb-true b k rest.0 in
    let means = cell_means n word k found.1 in
    let on : k < n * n = means.0 in
    let under : (j : ℕ) → has (with_cell s k) j ≡ true → j < suc k
    = λ j h. elim (with_cell-cases s k j h) [
      | inl old ↦ let l = below j old in omega (arith, l)
      | inr same ↦ omega (arith, same)
    ] in
    let others = names n (with_cell s k) (suc k) words u rest.1 under on in
    let new : (j : ℕ) → has u j ≡ true → (has s j ≡ true) ⊎ (b ≤ j) = λ j h. elim (others.new j h) [
      | inl with ↦ elim (with_cell-cases s k j with) [ inl old ↦ inl old | inr same ↦ inr (omega (arith, same)) ]
      | inr past ↦ inr (omega arith)
    ] in
    let none : (j : ℕ) → b ≤ j → j < k → has u j ≡ false
    = λ j l h. false_from_ne_true (has u j) (λ passes. elim (others.new j passes) [
      | inl with ↦ elim (with_cell-cases s k j with) [ inl old ↦ let m = below j old in absurd (omega (arith, m)) | inr same ↦ absurd (omega (arith, same)) ]
      | inr past ↦ absurd (omega (arith, past))
    ]) in
    let sum : b + (n * n - b) - suc k ≡ n * n - suc k = omega arith in
    record {
      keeps = λ j h. others.keeps j (with_cell-keeps s k j h);
      new = new;
      is = ap (λ w. w ∷ words) means.1 ∙ ap (λ ws. vertex_of n k ∷ ws) others.is
          ∙ ap (map (vertex_of n))
          (sym (filter_to (has u) b k (n * n - b) low (omega arith) none (others.keeps k (with_cell-here s k))
          ∙ ap (λ m. k ∷ filter (has u) (range_with_len (suc k) m)) sum));
    }

-- words that name a set are the vertices of its cells
pub cells_mean : (n : ℕ) (words : List (List ℕ)) (s : ℕ) → set_named n 0 0 words ≡ Some s
    → Within n s × (words ≡ vertices_of n s)
cells_mean n words s e =
    let means = names n 0 0 words s e (λ j h. let none = has_none j in absurd (cc)) (omega arith) in
    let all : n * n - 0 ≡ n * n = omega arith in
    (cells_within n 0 0 words s e (none_within n), means.is ∙ ap (λ m. map (vertex_of n) (filter (has s) (range_with_len 0 m))) all)
