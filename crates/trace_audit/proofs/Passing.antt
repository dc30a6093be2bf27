-- A block that is passed: it is put before those found so far.
use Rattle.std.proofs.Common.{◌≡◌, ℕ, ◌+◌, ◌-◌, ◌<◌, ◌≤◌, Bool, true, false, cond, List, ◌∷◌}
use Rattle.std.proofs.Common.{length, refl, sym, ap, ◌∙◌, subst, ⊎_elim, inl, inr, arith}
use Rattle.std.specs.Prelude.{slice_index, slice_index_or}
use Rattle.std.proofs.lemmas.Bool.{cases_eq, cases_lt, eq-eqb, ne_eqb, false_from_ne_true, or_cases}
use Rattle.std.proofs.lemmas.Bool.{or_right}
use Rattle.play_out.specs.Fills.{empties_of}
use Rattle.tree_words.specs.Settings.{Setting, IsSetting}
use Rattle.tree_words.specs.Words.{root_at, link_in}
use Rattle.tree_words.specs.Blocks.{LinkedBlock, size, has_node, is_node, In, link_of, Follows}
use Rattle.tree_words.specs.Paths.{node_board}
use Rattle.tree_words.specs.Complete.{HasEmpties, set_of}
use Rattle.tree_words.specs.Growth.{other_words}
use Rattle.tree_words.specs.Told.{told_block}
use Rattle.tree_words.proofs.Blocks.BlockLaws.{covers_of, has-at, clash}
use Rattle.tree_words.proofs.Blocks.GameLaws.{spot-same}
use Rattle.tree_words.proofs.Blocks.Members.{in-turned, names-in}
use Rattle.tree_words.proofs.Blocks.NodeLaws.{cover-none, complete-more, link-none}
use Rattle.tree_words.proofs.Blocks.Orders.{link-names}
use Rattle.tree_words.proofs.Boards.RootLaws.{complete_in}
use Rattle.tree_words.proofs.Boards.SetNumbers.{set-has_empties}
use Rattle.tree_words.proofs.Walks.Asking.{spot-size}
use Rattle.trace_audit.specs.declared.sites.Site.{Site}
use Rattle.trace_audit.specs.declared.sites.Table.{Table}
use Rattle.trace_audit.specs.Tables.{ShowBlock, StandsInArea, IsSite, IsSiteTable, IsFollowed}
use Rattle.trace_audit.specs.Tables.{Scanned}
use Rattle.trace_audit.proofs.LinkedBlocks.{node_below}
use Rattle.trace_audit.proofs.MustStand.{block_real}

-- a block that begins at p
module _ (s : Setting) (words : List ℕ) (h : IsSetting s) (t : Table) (p : ℕ)
    (bs : List LinkedBlock) (sc : Scanned s words t p p bs) (x : ℕ)
    (n : is_node (root_at s) bs x ≡ true)
    (parent : slice_index words p ≡ x) (link : link_in words x ≡ p) where
  abbrev block : LinkedBlock
  block = told_block s bs x p

  above_it : x + 4 ≤ p
  above_it = node_below s words h p bs x sc.area sc.ended n

  some : 0 < p
  some = let area = sc.area in omega (arith, area)

  -- no block was below its parent
  was_vacant : link_of bs x ≡ 0
  was_vacant = ⊎_elim
      (λ (e : link_in words x ≡ link_of bs x).
      let named = link-names (root_at s) bs x sc.order (omega (arith, sym link ∙ e, some)) in
      let at = names-in _ x named.0 named.1 in
      let c = complete_in s p bs named.0 sc.ended (in-turned named.0 bs at.0) in
      let ends = c.1.claimed in
      absurd (omega (arith, ends, named.2, sym e ∙ link)))
      (λ (e : (link_of bs x ≡ 0) × (p ≤ link_in words x) × (0 < slice_index t.index (link_in words x)) × (slice_index words (link_in words x) ≡ x)). e.0)
      (sc.links x n (omega (arith, above_it)))

  follows : Follows (root_at s) block bs
  follows = record {
    parent = n;
    vacant = was_vacant;
    above = omega (arith, above_it);
    clear = λ i c. cover-none s p bs i sc.ended (covers_of i block c).0;
    root = let area = sc.area in omega (arith, area);
  }

  -- the older nodes, and its own
  not_own : (y : ℕ) → y < p + 4 → has_node block y ≡ false
  not_own y l = false_from_ne_true (has_node block y)
      (λ e. let at = has-at block y e in omega (arith, at.2, l))

  older : (y : ℕ) → is_node (root_at s) (block ∷ bs) y ≡ true → y < p + 4
      → is_node (root_at s) bs y ≡ true
  older y m l = ⊎_elim
      (λ (e : has_node block y ≡ true). absurd (clash (has_node block y) e (not_own y l)))
      (λ (e : is_node (root_at s) bs y ≡ true). e)
      (or_cases (has_node block y) (is_node (root_at s) bs y) m)

  other_link : (y : ℕ) → (y ≡ x → ⊥) → link_of (block ∷ bs) y ≡ link_of bs y
  other_link y d = ap (λ (u : Bool). cond u p (link_of bs y)) (ne_eqb x y (λ e. d (sym e)))

  own_link : link_of (block ∷ bs) x ≡ p
  own_link = ap (λ (u : Bool). cond u p (link_of bs x)) (eq-eqb x x refl)

  module _ (u : Table) (index : u.index ≡ t.index) (sites : u.sites.items ≡ t.sites.items)
      (others : u.others ≡ other_words s (block ∷ bs)) (few : u.others ≤ p + size block)
      (mark : 0 < slice_index t.index p)
      (st : StandsInArea s words block)
      (free : (i : ℕ) → p + 1 ≤ i → i < p + size block → slice_index t.index i ≡ 0) where
    same_index : (b : ℕ) → slice_index u.index b ≡ slice_index t.index b
    same_index b = ap (λ l. slice_index l b) index

    put_table : IsSiteTable s words (block ∷ bs) u
    put_table = record {
      long = ap length index ∙ sc.table.long;
      sites = λ k d l.
          let same : slice_index_or u.sites.items k d ≡ slice_index_or t.sites.items k d
          = ap (λ z. slice_index_or z k d) sites in
          let old = sc.table.sites k d (omega (arith, l, ap length sites)) in
          let site : Site = slice_index_or t.sites.items k d in
          let now : IsSite s words (block ∷ bs) site = record {
            node = or_right (has_node block (slice_index words site.start))
                (is_node (root_at s) bs (slice_index words site.start)) old.node;
            link = old.link;
            inside = old.inside;
            state = old.state
                ∙ sym (spot-same s block bs (slice_index words site.start) follows old.node);
          } in
          subst (IsSite s words (block ∷ bs)) (sym same) now;
      index = λ b d l.
          let old = sc.table.index b d (omega (arith, same_index b, l)) in
          let at : slice_index_or u.sites.items
          (slice_index u.index b - 1) d ≡ slice_index_or t.sites.items
          (slice_index t.index b - 1) d
          = λ i. slice_index_or (sites i) (same_index b i - 1) d in
          (omega (arith, same_index b, old.0, ap length sites), ap (λ z. z.start) at ∙ old.1);
    }

    put_links : (y : ℕ) → is_node (root_at s) (block ∷ bs) y ≡ true → y < p + 4
        → IsFollowed words u (p + size block) (block ∷ bs) y
    put_links y m l =
        let old : is_node (root_at s) bs y ≡ true = older y m l in
        let below = node_below s words h p bs y sc.area sc.ended old in
        ⊎_elim
        (λ (e : y ≡ x). inl (ap (link_in words) e ∙ link ∙ sym (ap (link_of (block ∷ bs)) e ∙ own_link)))
        (λ (d : y ≡ x → ⊥). ⊎_elim
        (λ (e : link_in words y ≡ link_of bs y). inl (e ∙ sym (other_link y d)))
        (λ (e : (link_of bs y ≡ 0) × (p ≤ link_in words y) × (0 < slice_index t.index (link_in words y)) × (slice_index words (link_in words y) ≡ y)).
        let not-here : link_in words y ≡ p → ⊥
        = λ z. d (sym e.3 ∙ ap (slice_index words) z ∙ parent) in
        let behind : p + size block ≤ link_in words y = ⊎_elim
        (λ (v : link_in words y < p + size block). absurd (omega (arith, free (link_in words y) (omega (arith, e.1, not-here)) v, e.2)))
        (λ (v : p + size block ≤ link_in words y). v)
        (cases_lt (link_in words y) (p + size block)) in
        inr (other_link y d ∙ e.0, behind, omega (arith, same_index (link_in words y), e.2), e.3))
        (sc.links y old (omega (arith, below))))
        (cases_eq y x)

    put_vacant : (y : ℕ) → is_node (root_at s) (block ∷ bs) y ≡ true → p + 4 ≤ y
        → link_of (block ∷ bs) y ≡ 0
    put_vacant y m l =
        let not-old : is_node (root_at s) bs y ≡ false
        = false_from_ne_true (is_node (root_at s) bs y)
        (λ e. let below = node_below s words h p bs y sc.area sc.ended e in omega (arith, below, l)) in
        other_link y (λ e. omega (arith, e, above_it, l))
        ∙ link-none (root_at s) bs y sc.order not-old

    -- the block is passed
    pub put : Scanned s words u (p + 4) (p + size block) (block ∷ bs)
    put =
        let small : (node_board s bs x).size ≤ 11 = let most = h.position.most in
        omega (arith, spot-size s bs x, most) in
        let empties : HasEmpties (set_of (empties_of (node_board s bs x))) (node_board s bs x)
        = set-has_empties (node_board s bs x) small in
        let area = sc.area in
        record {
          order = (follows, sc.order);
          shown = λ b i. ⊎_elim
              (λ (e : b ≡ block). subst (ShowBlock words) (sym e) st.shown)
              (λ (e : In b bs). sc.shown b e) i;
          complete = (record { claimed = st.claimed; inside = (sc.area, st.inside); empties = empties; cells = refl }, sc.complete);
          ended = (
            record { claimed = omega arith; inside = (sc.area, st.inside); empties = empties; cells = refl },
            complete-more s p (p + size block) bs (omega arith) sc.ended,
          );
          area = omega (arith, area);
          table = put_table;
          links = put_links;
          vacant = put_vacant;
          entered = λ b i. ⊎_elim
              (λ (e : b ≡ block). omega (arith, ap (λ z. slice_index u.index z.start) e, same_index p, mark))
              (λ (e : In b bs). omega (arith, same_index b.start, sc.entered b e)) i;
          others = others;
          few = few;
          known = λ cs lk. (block_real s words h t p bs sc x n parent link cs lk, n, sc.known cs lk);
        }
