-- Where a step writes, and which words it leaves alone.
use Rattle.std.proofs.Common.{◌≡◌, ◌≢◌, ◌⊎◌, ℕ, zero, suc, ◌+◌, ◌*◌, ◌<◌, ◌≤◌, Bool, true, false}
use Rattle.std.proofs.Common.{cond, List, [], ◌∷◌, ◌++◌, length, set, Option, Some, None, refl, sym}
use Rattle.std.proofs.Common.{ap, ◌∙◌, subst, ⊎_elim, inl, inr, arith, get_or-set_same}
use Rattle.std.proofs.Common.{get_or-set_other}
use Rattle.std.specs.Prelude.{slice_index, slice_get, nat_lt, nat_le, ◌&&◌, sum_by}
use Rattle.std.proofs.lemmas.List.{set-get_or}
use Rattle.std.proofs.lemmas.Option.{none-some, same_Some}
use Rattle.std.proofs.lemmas.Bool.Decides.{nat_tests}
use mathlib.Core.Option.{some}
use lib.ListN.{get_elem?}
use Rattle.hex_cells.specs.Sets.{has as has_cell}
use Rattle.hex_board.specs.Positions.{stones_of}
use Rattle.hex_board.specs.Wins.{is_same}
use Rattle.tree_words.specs.Settings.{Setting}
use Rattle.tree_words.specs.Words.{root_at, area_at, end_of, next_in}
use Rattle.tree_words.specs.Blocks.{LinkedBlock, In, InOrder, one_if, has_node, cover, is_node}
use Rattle.tree_words.specs.Blocks.{link_of, size, is_header_or_move}
use Rattle.tree_words.specs.Paths.{node_state}
use Rattle.tree_words.specs.Complete.{AreComplete}
use Rattle.play_out.specs.declared.playouts.Ending.{Ending}
use Rattle.tree_words.specs.Sequence.{outcome_of}
use Rattle.tree_words.specs.declared.steps.Op.{Op}
use Rattle.tree_words.specs.declared.steps.Op.TheVariants.{Draw, Look, Claim, Write, Publish, Add}
use Rattle.tree_words.specs.declared.steps.Op.TheVariants.{Note, Done}
use Rattle.tree_words.proofs.Blocks.BlockLaws.{covers_if, node-cover, root_node}
use Rattle.tree_words.proofs.Walks.Down.{child-has}
use Rattle.tree_words.proofs.Blocks.GameLaws.{in-node, whole-in}
use Rattle.tree_words.proofs.Boards.RootLaws.{find_root}
use Rattle.tree_words.proofs.Blocks.NodeLaws.{node-lies, nodes-apart, stays-clear}
use Rattle.arena_rule.specs.Views.{SeatView, Flight}
use Rattle.arena_rule.specs.Adds.{CountAdd, Gathered, seen_adds, node_adds, adds_up, walk_adds}
use Rattle.arena_rule.specs.Lookups.{is_held}
use Rattle.arena_rule.specs.Fits.{FitsStep, FitsWrite, FitsPublish, FitsAdd, FitsNote, IsNext}
use Rattle.arena_rule.specs.Afters.{word_of, put}
use Rattle.arena_rule.specs.Parts.{held_at}
use Rattle.arena_rule.specs.Rule.{words_after}
use Rattle.arena_rule.proofs.Before.{Before}
use Rattle.arena_rule.proofs.Totals.{total_at, total_two}
use Rattle.arena_rule.proofs.Within.{known-node, known-adds, node-more}
use Rattle.std.proofs.lemmas.Bool.{cases_Bool}
use Rattle.tree_words.proofs.Blocks.NodeLaws.{in-cover}

-- what holds of each add of a list
abbrev EachAdd : (ℕ → Type 0) → List CountAdd → Type 0
EachAdd P adds = (n : ℕ) (a : CountAdd) → slice_get adds n ≡ Some a → P a.word

each-cons : (P : ℕ → Type 0) (x : CountAdd) (xs : List CountAdd) → P x.word → EachAdd P xs
    → EachAdd P (x ∷ xs)
each-cons P x xs p h zero a e = subst (λ (y : CountAdd). P y.word) (same_Some x a e) p
each-cons P x xs p h (suc n) a e = h n a e

each-append : (P : ℕ → Type 0) (xs ys : List CountAdd) → EachAdd P xs → EachAdd P ys
    → EachAdd P (xs ++ ys)
each-append P [] ys h k n a e = k n a e
each-append P (x ∷ xs) ys h k n a e
    = each-cons P x (xs ++ ys) (h 0 x refl) (each-append P xs ys (λ m. h (suc m)) k) n a e

each-seen : (P : ℕ → Type 0) (set : ℕ) (won : Bool) (y : ℕ) (cs : List ℕ)
    → ((j z : ℕ) → j < length cs → z ≡ y + 4 * j + 3 → P z) → EachAdd P (seen_adds set won y cs)
each-seen P set won y [] h n a e = absurd (none-some a e)
each-seen P set won y (c ∷ cs) h n a e =
    by (has_cell set c)
    (each-seen P set won (y + 4) cs (λ j z l q. h (suc j) z (omega arith) (omega (arith, q)))) n a e
  where
    by : (t : Bool) → EachAdd P (seen_adds set won (y + 4) cs)
        → EachAdd P (cond t (record { word = y + 3; won = won } ∷ seen_adds set won (y + 4) cs) (seen_adds set won (y + 4) cs))
    by true k = each-cons P (record { word = y + 3; won = won }) (seen_adds set won (y + 4) cs)
        (h 0 (y + 3) (omega arith) (omega arith)) k
    by false k = k

-- the word is the tally of a node, or the seen word of one that is not the root
abbrev pub IsCount : ℕ → List LinkedBlock → ℕ → Type 0
IsCount r bs w = (x : ℕ) × (is_node r bs x ≡ true) × ((w ≡ x + 2) ⊎ ((w ≡ x + 3) × (x ≢ r)))

count-more : (r : ℕ) (d : LinkedBlock) (bs : List LinkedBlock) (w : ℕ) → IsCount r bs w
    → IsCount r (d ∷ bs) w
count-more r d bs w c = (c.0, node-more r d bs c.0 c.1, c.2)

-- so is each word that a walk adds to
adds-words : (s : Setting) (o : Ending) (bs : List LinkedBlock) (y : ℕ) → InOrder (root_at s) bs
    → EachAdd (IsCount (root_at s) bs) (adds_up s o bs y).adds
adds-words s o [] y g
    = each-cons (IsCount (root_at s) []) _ [] (root_at s, root_node (root_at s) [], inl refl)
    (λ n a e. absurd (none-some a e))
adds-words s o (b ∷ bs) y g =
    let r : ℕ = root_at s in
    let above : Gathered = adds_up s o bs b.parent in
    let P : ℕ → Type 0 = IsCount r (b ∷ bs) in
    let won : Bool = is_same o.winner above.state.player in
    let seen : List CountAdd = seen_adds (stones_of o.full above.state.player) won
    (b.start + 4) b.cells in
    ⊎_elim
    (λ (h : has_node b y ≡ true).
    let rest : EachAdd P above.adds
    = λ n a e. count-more r b bs a.word (adds-words s o bs b.parent g.1 n a e) in
    let mine : EachAdd P seen = each-seen P (stones_of o.full above.state.player) won
    (b.start + 4) b.cells
    (λ j z l q. let low = g.0.root in
    let here : has_node b (b.start + 4 + 4 * j) ≡ true = child-has b j l in
    (b.start + 4 + 4 * j, in-node r (b ∷ bs) b (b.start + 4 + 4 * j) (inl refl) here, inr (q, λ e. omega (arith, e)))) in
    subst (λ (t : Bool). EachAdd P (cond t (node_adds o b y above) (adds_up s o bs y)).adds) (sym h)
    (each-cons P (record { word = y + 2; won = won }) (seen ++ above.adds) (
      y,
      in-node r (b ∷ bs) b y (inl refl) h,
      inl refl,
    ) (each-append P seen above.adds mine rest)))
    (λ (h : has_node b y ≡ false).
    subst (λ (t : Bool). EachAdd P (cond t (node_adds o b y above) (adds_up s o bs y)).adds) (sym h)
    (λ n a e. count-more r b bs a.word (adds-words s o bs y g.1 n a e)))
    (cases_Bool (has_node b y))

pub walk-words : (s : Setting) (bs : List LinkedBlock) (k leaf n : ℕ) (a : CountAdd)
    → InOrder (root_at s) bs → slice_get (walk_adds s bs k leaf) n ≡ Some a
    → IsCount (root_at s) bs a.word
unfolding walk_adds
walk-words s bs k leaf n a g e
    = adds-words s (outcome_of s k (node_state s bs leaf)) bs leaf g n a e

-- a claimed word
pub claimed-low : (low next end i : ℕ)
    → 0 < one_if (nat_le low i && (nat_lt i next && nat_lt i end))
    → (low ≤ i) × (i < next) × (i < end)
claimed-low low next end i h = grind (arith, nat_tests)

pub claimed-one : (low next end i : ℕ)
    → one_if (nat_le low i && (nat_lt i next && nat_lt i end)) ≤ 1
claimed-one low next end i = grind (arith, nat_tests)

pub in-range : (a s i : ℕ) → a ≤ i → i < a + s → (nat_le a i && nat_lt i (a + s)) ≡ true
in-range a s i l h = grind (arith, nat_tests)

-- the step is no Publish
abbrev pub IsNoPublish : Op → Type 0
IsNoPublish (Publish l c) = ⊥
IsNoPublish op = Unit {0}

-- the step is no Add
abbrev pub IsNoAdd : Op → Type 0
IsNoAdd (Add i won) = ⊥
IsNoAdd op = Unit {0}

-- the step is no Claim
abbrev pub IsNoClaim : Op → Type 0
IsNoClaim (Claim many) = ⊥
IsNoClaim op = Unit {0}

module _ (bs : List LinkedBlock) (words : List ℕ) (views : List SeatView) (id : ℕ) (v : SeatView)
    (b : Before bs words views id v) where
  -- where a node lies
  pub node-range : (x i : ℕ) → is_node (root_at v.shape) bs x ≡ true → i < 4
      → (root_at v.shape ≤ x + i) × (x + i < end_of v.shape)
  node-range x i n l = ⊎_elim
      (λ (e : x ≡ root_at v.shape). (omega (arith, e), omega (arith, e, l)))
      (λ (t : (area_at v.shape ≤ x) × (x + 4 ≤ next_in words) × (x + 4 ≤ end_of v.shape)). let low = t.0 in let high = t.2 in (omega arith, omega arith))
      (node-lies v.shape (next_in words) bs x b.state.linked.blocks.complete n)

  -- a held word lies in the area, below NEXT and in no linked block, and no other view holds it
  pub held-claimed : (j : ℕ) (u : SeatView) (i : ℕ) → get_elem? views j ≡ some u
      → is_held u.held i ≡ true → (area_at v.shape ≤ i) × (i < next_in words) × (i < end_of v.shape)
  held-claimed j u i e h = claimed-low (area_at v.shape) (next_in words) (end_of v.shape) i
      (omega (arith, total_at (held_at i) views j u e, ap one_if h, b.state.apart i))

  pub held-clear : (j : ℕ) (u : SeatView) (i : ℕ) → get_elem? views j ≡ some u
      → is_held u.held i ≡ true → cover i bs ≡ 0
  held-clear j u i e h
      = omega (arith, total_at (held_at i) views j u e, ap one_if h, b.state.apart i, claimed-one (area_at v.shape) (next_in words) (end_of v.shape) i)

  pub held-one : (j k : ℕ) (u w : SeatView) (i : ℕ) → j ≢ k → get_elem? views j ≡ some u
      → get_elem? views k ≡ some w → is_held u.held i ≡ true → is_held w.held i ≡ true → ⊥
  held-one j k u w i ne e d h m =
      let two : held_at i u + held_at i w ≤ sum_by (held_at i) views
      = total_two (held_at i) views j k u w ne e d in
      absurd (omega (arith, two, ap one_if h, ap one_if m, b.state.apart i, claimed-one (area_at v.shape) (next_in words) (end_of v.shape) i))

  -- no word of a node is held
  pub held-node : (j : ℕ) (u : SeatView) (x i : ℕ) → get_elem? views j ≡ some u
      → is_node (root_at v.shape) bs x ≡ true → i < 4 → is_held u.held (x + i) ≡ true → ⊥
  held-node j u x i e n l h =
      let low = (held-claimed j u (x + i) e h).0 in
      let none = held-clear j u (x + i) e h in
      ⊎_elim
      (λ (q : x ≡ root_at v.shape). absurd (omega (arith, q)))
      (λ (q : 0 < cover (x + i) bs). absurd (omega arith))
      (node-cover (root_at v.shape) bs x i n l)

  -- a Write changes a word that the view holds
  pub write-word : (i : ℕ) → FitsWrite v i → (is_held v.held i ≡ true) × (area_at v.shape ≤ i)
      × (i < end_of v.shape)
  write-word i fits =
      let left = fits.left in
      let next = fits.next in
      let h : is_held v.held i ≡ true = ap (λ (o : Option _). is_held o i) fits.held
      ∙ in-range fits.block.start fits.block.size i (omega arith) (omega arith) in
      let t = held-claimed id v i b.at h in
      (h, t.0, t.2)

  -- a Publish changes the link of a node
  pub publish-word : (l c : ℕ) → FitsPublish v l c
      → (x : ℕ) × (is_node (root_at v.shape) bs x ≡ true) × (l ≡ x + 1)
  publish-word l c fits
      = (fits.node, known-node bs words views id v b id v fits.node b.at fits.may.known, fits.link)

  -- an Add changes a tally, or a seen word that is not the root's
  flight-word : (k : ℕ) (f : Option Flight) (a : CountAdd) → v.ticket ≡ Some k → v.adds ≡ f
      → IsNext v k f a → IsCount (root_at v.shape) bs a.word
  flight-word k None a t d n =
      let may = n.2 in
      walk-words v.shape bs k n.0 0 a b.state.linked.blocks.order
      (ap (λ (l : List CountAdd). slice_get l 0) (sym (known-adds bs words views id v b id v k n.0 b.at may.known)) ∙ n.3)
  flight-word k (Some f) a t d n =
      let fly = (b.state.in_hand id v b.at).flight k f t d in
      walk-words v.shape bs k f.leaf f.made a b.state.linked.blocks.order
      (ap (λ (l : List CountAdd). slice_get l f.made) (sym (known-adds bs words views id v b id v k f.leaf b.at fly.known)) ∙ n)

  pub add-word : (a : CountAdd) → FitsAdd v a → IsCount (root_at v.shape) bs a.word
  add-word a fits = flight-word fits.number v.adds a fits.ticket refl fits.next

  -- so they change no word before the root, and a Note no other
  pub write-high : (i : ℕ) → FitsWrite v i → root_at v.shape ≤ i
  write-high i fits = let t = write-word i fits in let low = t.1 in omega arith

  pub publish-high : (l c : ℕ) → FitsPublish v l c → root_at v.shape ≤ l
  publish-high l c fits = let t = publish-word l c fits in
      omega (arith, t.2, (node-range t.0 1 t.1 (omega arith)).0)

  pub add-high : (a : CountAdd) → FitsAdd v a → root_at v.shape ≤ a.word
  add-high a fits =
      let t = add-word a fits in
      ⊎_elim
      (λ (e : a.word ≡ t.0 + 2). omega (arith, e, (node-range t.0 2 t.1 (omega arith)).0))
      (λ (e : (a.word ≡ t.0 + 3) × (t.0 ≢ root_at v.shape)). let q = e.0 in omega (arith, q, (node-range t.0 3 t.1 (omega arith)).0))
      t.2

  pub note-low : (k n : ℕ) → FitsNote v k n → 2 + k < root_at v.shape
  note-low k n fits = let t = (b.state.in_hand id v b.at).ticket k fits.ticket in
      let l = t.1 in omega arith

  -- a word that the step does not write
  else-word : (op : Op) (i : ℕ) → word_of op ≢ i
      → slice_index (words_after words op) i ≡ slice_index words i
  else-word op i ne
      = get_or-set_other words (word_of op) i (put op (slice_index words (word_of op))) 0
      (λ e. ne (sym e))

  same-word : (w i : ℕ) → slice_index (set words w (slice_index words w)) i ≡ slice_index words i
  same-word w i = ap (λ (ws : List ℕ). slice_index ws i) (set-get_or words w 0)

  -- A word at or behind the root stays if it is no link, tally or seen word of a node and the view
  -- does not hold it.
  pub other-stays : (op : Op) (i : ℕ) → FitsStep v op → root_at v.shape ≤ i
      → ((x j : ℕ) → is_node (root_at v.shape) bs x ≡ true → 1 ≤ j → j < 4 → i ≢ x + j)
      → is_held v.held i ≢ true
      → slice_index (words_after words op) i ≡ slice_index words i
  other-stays Draw i fits low node held = else-word Draw i (λ e. omega arith)
  other-stays (Look w) i fits low node held = same-word w i
  other-stays (Claim many) i fits low node held = else-word (Claim many) i (λ e. omega arith)
  other-stays (Write w value) i fits low node held
      = else-word (Write w value) i
      (λ e. absurd (held (ap (is_held v.held) (sym e) ∙ (write-word w fits).0)))
  other-stays (Publish l c) i fits low node held =
      let t = publish-word l c fits in
      else-word (Publish l c) i
      (λ e. absurd (node t.0 1 t.1 (omega arith) (omega arith) (sym e ∙ t.2)))
  other-stays (Add w won) i fits low node held =
      let t = add-word (record { word = w; won = won }) fits in
      else-word (Add w won) i (λ e. ⊎_elim
      (λ (q : w ≡ t.0 + 2). absurd (node t.0 2 t.1 (omega arith) (omega arith) (sym e ∙ q)))
      (λ (q : (w ≡ t.0 + 3) × (t.0 ≢ root_at v.shape)). absurd (node t.0 3 t.1 (omega arith) (omega arith) (sym e ∙ q.0)))
      t.2)
  other-stays (Note k value) i fits low node held
      = else-word (Note k value) i (λ e. omega (arith, note-low k value fits))
  other-stays Done i fits low node held = same-word 0 i

  -- the headers and moves of the linked blocks stay
  pub block-stays : (op : Op) (c : LinkedBlock) (j : ℕ) → FitsStep v op → In c bs → j < size c
      → is_header_or_move j ≡ true
      → slice_index (words_after words op) (c.start + j) ≡ slice_index words (c.start + j)
  block-stays op c j fits n l st =
      let g = b.state.linked.blocks.order in
      other-stays op (c.start + j) fits (let low = block-low c n in omega arith)
      (λ x i m l1 l4 e. stays-clear (root_at v.shape) bs c j x i g n l st m l1 l4 e)
      (λ h. let none = held-clear id v (c.start + j) b.at h in absurd (omega (
        arith,
        none,
        in-cover bs c (c.start + j) n (covers_if (c.start + j) c (omega arith) (omega (arith, l))),
      )))
    where
      block-low : (c : LinkedBlock) → In c bs → area_at v.shape ≤ c.start
      block-low c n
          = (whole-in v.shape (next_in words) bs c b.state.linked.blocks.order b.state.linked.blocks.complete n).inside.0

  -- and the root's move word
  pub root-stays : (op : Op) → FitsStep v op
      → slice_index (words_after words op) (root_at v.shape) ≡ slice_index words (root_at v.shape)
  root-stays op fits = other-stays op (root_at v.shape) fits (omega arith)
      (λ x j n l1 l4 e. absurd (omega (arith, e, (node-range x 0 n (omega arith)).0)))
      (λ h. let low = (held-claimed id v (root_at v.shape) b.at h).0 in absurd (omega arith))

  -- a word of the area at or above NEXT
  pub fresh-stays : (op : Op) (i : ℕ) → FitsStep v op → area_at v.shape ≤ i → next_in words ≤ i
      → slice_index (words_after words op) i ≡ slice_index words i
  fresh-stays op i fits low past = other-stays op i fits (omega arith)
      (λ x j n l1 l4 e. ⊎_elim
      (λ (q : x ≡ root_at v.shape). absurd (omega (arith, q, e)))
      (λ (t : (area_at v.shape ≤ x) × (x + 4 ≤ next_in words) × (x + 4 ≤ end_of v.shape)). let high = t.1 in absurd (omega (arith, e)))
      (node-lies v.shape (next_in words) bs x b.state.linked.blocks.complete n))
      (λ h. let high = (held-claimed id v i b.at h).1 in absurd (omega arith))

  -- a word that another view holds
  pub held-stays : (op : Op) (j : ℕ) (u : SeatView) (i : ℕ) → FitsStep v op → j ≢ id
      → get_elem? views j ≡ some u → is_held u.held i ≡ true
      → slice_index (words_after words op) i ≡ slice_index words i
  held-stays op j u i fits ne e h
      = other-stays op i fits (let low = (held-claimed j u i e h).0 in omega arith)
      (λ x k n l1 l4 q. held-node j u x k e n l4 (ap (is_held u.held) (sym q) ∙ h))
      (λ m. held-one j id u v i ne e b.at h m)

  -- two words of nodes that are one are so as the same word of one node
  apart : (x y i j : ℕ) → is_node (root_at v.shape) bs x ≡ true
      → is_node (root_at v.shape) bs y ≡ true → i < 4 → j < 4 → i ≢ j → x + i ≡ y + j → ⊥
  apart x y i j n m li lj ne e
      = let q = nodes-apart (root_at v.shape) bs x y i j b.state.linked.blocks.order n m li lj e in
      ne (omega (arith, q, e))

  write-stays : (w value x i : ℕ) → FitsWrite v w → is_node (root_at v.shape) bs x ≡ true → i < 4
      → slice_index (words_after words (Write w value)) (x + i) ≡ slice_index words (x + i)
  write-stays w value x i fits n l
      = else-word (Write w value) (x + i)
      (λ e. held-node id v x i b.at n l (ap (is_held v.held) (sym e) ∙ (write-word w fits).0))

  -- no step but a Publish changes a link of a node
  pub link-stays : (op : Op) (x : ℕ) → FitsStep v op → IsNoPublish op
      → is_node (root_at v.shape) bs x ≡ true
      → slice_index (words_after words op) (x + 1) ≡ slice_index words (x + 1)
  link-stays Draw x fits kind n
      = else-word Draw (x + 1) (λ e. omega (arith, e, (node-range x 1 n (omega arith)).0))
  link-stays (Look w) x fits kind n = same-word w (x + 1)
  link-stays (Claim many) x fits kind n = else-word (Claim many) (x + 1) (λ e. omega (arith, e))
  link-stays (Write w value) x fits kind n = write-stays w value x 1 fits n (omega arith)
  link-stays (Publish l c) x fits kind n = absurd kind
  link-stays (Add w won) x fits kind n =
      let t = add-word (record { word = w; won = won }) fits in
      else-word (Add w won) (x + 1) (λ e. ⊎_elim
      (λ (q : w ≡ t.0 + 2). apart x t.0 1 2 n t.1 (omega arith) (omega arith) (λ z. omega arith) (sym e ∙ q))
      (λ (q : (w ≡ t.0 + 3) × (t.0 ≢ root_at v.shape)). apart x t.0 1 3 n t.1 (omega arith) (omega arith) (λ z. omega arith) (sym e ∙ q.0))
      t.2)
  link-stays (Note k value) x fits kind n
      = else-word (Note k value) (x + 1)
      (λ e. omega (arith, e, note-low k value fits, (node-range x 1 n (omega arith)).0))
  link-stays Done x fits kind n = same-word 0 (x + 1)

  -- no step but an Add changes a tally or a seen word of a node
  pub count-stays : (op : Op) (x i : ℕ) → FitsStep v op → IsNoAdd op
      → is_node (root_at v.shape) bs x ≡ true → 2 ≤ i → i < 4
      → slice_index (words_after words op) (x + i) ≡ slice_index words (x + i)
  count-stays Draw x i fits kind n l2 l4 = else-word Draw (x + i) (λ e. omega (arith, e))
  count-stays (Look w) x i fits kind n l2 l4 = same-word w (x + i)
  count-stays (Claim many) x i fits kind n l2 l4
      = else-word (Claim many) (x + i) (λ e. omega (arith, e))
  count-stays (Write w value) x i fits kind n l2 l4 = write-stays w value x i fits n l4
  count-stays (Publish l c) x i fits kind n l2 l4 =
      let t = publish-word l c fits in
      else-word (Publish l c) (x + i)
      (λ e. apart x t.0 i 1 n t.1 l4 (omega arith) (λ z. omega (arith, z)) (sym e ∙ t.2))
  count-stays (Add w won) x i fits kind n l2 l4 = absurd kind
  count-stays (Note k value) x i fits kind n l2 l4
      = else-word (Note k value) (x + i)
      (λ e. omega (arith, e, note-low k value fits, (node-range x i n l4).0))
  count-stays Done x i fits kind n l2 l4 = same-word 0 (x + i)

  -- no step but a Claim changes NEXT
  pub next-stays : (op : Op) → FitsStep v op → IsNoClaim op
      → next_in (words_after words op) ≡ next_in words
  next-stays Draw fits kind = else-word Draw 0 (λ e. omega (arith, e))
  next-stays (Look w) fits kind = same-word w 0
  next-stays (Claim many) fits kind = absurd kind
  next-stays (Write w value) fits kind
      = else-word (Write w value) 0 (λ e. omega (arith, e, write-high w fits))
  next-stays (Publish l c) fits kind
      = else-word (Publish l c) 0 (λ e. omega (arith, e, publish-high l c fits))
  next-stays (Add w won) fits kind
      = else-word (Add w won) 0
      (λ e. omega (arith, e, add-high (record { word = w; won = won }) fits))
  next-stays (Note k value) fits kind = else-word (Note k value) 0 (λ e. omega (arith, e))
  next-stays Done fits kind = same-word 0 0

  pub next-claimed : (many : ℕ) → next_in (words_after words (Claim many)) ≡ next_in words + many
  next-claimed many = get_or-set_same words 0 (next_in words + many) 0 (omega (arith, b.state.long))

  -- and so NEXT never falls
  pub next-grows : (op : Op) → FitsStep v op → next_in words ≤ next_in (words_after words op)
  next-grows Draw fits = omega (arith, next-stays Draw fits tt)
  next-grows (Look w) fits = omega (arith, next-stays (Look w) fits tt)
  next-grows (Claim many) fits = omega (arith, next-claimed many)
  next-grows (Write w value) fits = omega (arith, next-stays (Write w value) fits tt)
  next-grows (Publish l c) fits = omega (arith, next-stays (Publish l c) fits tt)
  next-grows (Add w won) fits = omega (arith, next-stays (Add w won) fits tt)
  next-grows (Note k value) fits = omega (arith, next-stays (Note k value) fits tt)
  next-grows Done fits = omega (arith, next-stays Done fits tt)

  -- the root's block begins the area, so NEXT lies behind its first word
  pub next-area : area_at v.shape ≤ next_in words
  next-area = by bs b.state.linked.blocks.order b.state.linked.blocks.complete
      (sym (b.state.linked.blocks.shows.links (root_at v.shape) (root_node (root_at v.shape) bs)) ∙ b.state.linked.link)
    where
      by : (ls : List LinkedBlock) → InOrder (root_at v.shape) ls
          → AreComplete v.shape (next_in words) ls → link_of ls (root_at v.shape) ≡ area_at v.shape
          → area_at v.shape ≤ next_in words
      by [] g c e = absurd (omega (arith, e))
      by (d ∷ ls) g c e =
          let t = find_root (root_at v.shape) d ls g in
          let w = whole-in v.shape (next_in words) (d ∷ ls) t.0 g c t.1 in
          omega (arith, w.claimed, t.3, e)
