-- A block that is entered in the table.
use Rattle.std.proofs.Common.{◌≡◌, ℕ, ◌+◌, ◌-◌, ◌<◌, ◌≤◌, ◌^◌, true, List, [], ◌∷◌, ◌++◌, length}
use Rattle.std.proofs.Common.{set, sym, ap, ◌∙◌, subst, ⊎_elim, inl, inr, arith, length-append}
use Rattle.std.proofs.Common.{get_or-set_same, get_or-set_other}
use Rattle.std.specs.Prelude.{slice_index, slice_index_or}
use Rattle.std.proofs.lemmas.Bool.{cases_eq, cases_lt}
use Rattle.std.proofs.Math.ListN.{length-set, get_or-append}
use Rattle.std.proofs.Math.Seq.{get_or-append_seam}
use Rattle.tree_words.specs.Settings.{Setting, IsSetting}
use Rattle.tree_words.specs.Words.{root_at, area_at, end_of, link_in}
use Rattle.tree_words.specs.Blocks.{LinkedBlock, is_node, link_of}
use Rattle.tree_words.specs.Paths.{node_state}
use Rattle.tree_words.proofs.Blocks.NodeLaws.{node-lies}
use Rattle.trace_audit.specs.declared.sites.Site.{Site}
use Rattle.trace_audit.specs.declared.sites.Table.{Table}
use Rattle.trace_audit.specs.Tables.{site_state, IsSite, IsSiteTable, IsFollowed, Scanned}

-- where a node lies among all words
pub node_inside : (s : Setting) (words : List ℕ) (t : Table) (done p : ℕ) (bs : List LinkedBlock)
    (x : ℕ) → IsSetting s → Scanned s words t done p bs → is_node (root_at s) bs x ≡ true
    → (x + 4 ≤ end_of s) × (end_of s < 2 ^ 32)
node_inside s words t done p bs x h sc n = (
  ⊎_elim
      (λ (e : x ≡ root_at s). omega (arith, e))
      (λ (e : (area_at s ≤ x) × (x + 4 ≤ p) × (x + 4 ≤ end_of s)). e.2)
      (node-lies s p bs x sc.ended n),
  omega (arith, h.ranges.playouts, h.ranges.words),
)

module _ (s : Setting) (words : List ℕ) (t u : Table) (x p : ℕ) (bs : List LinkedBlock)
    (sc : Scanned s words t x p bs) (n : is_node (root_at s) bs x ≡ true) (site : Site) (start : ℕ)
    (first : site.start ≡ start) (state : site_state site ≡ node_state s bs x)
    (link : link_in words x ≡ start) (free : p ≤ start) (inside : start < end_of s)
    (parent : slice_index words start ≡ x)
    (index : u.index ≡ set t.index start (length t.sites.items + 1))
    (sites : u.sites.items ≡ t.sites.items ++ site ∷ []) (others : u.others ≡ t.others) where
  new_index : slice_index u.index start ≡ length t.sites.items + 1
  new_index = let long = sc.table.long in ap (λ l. slice_index l start) index
      ∙ get_or-set_same t.index start (length t.sites.items + 1) 0 (omega (arith, inside, long))

  old_index : (b : ℕ) → (b ≡ start → ⊥) → slice_index u.index b ≡ slice_index t.index b
  old_index b d = ap (λ l. slice_index l b) index
      ∙ get_or-set_other t.index start b (length t.sites.items + 1) 0 d

  more_index : (b : ℕ) → 0 < slice_index t.index b → 0 < slice_index u.index b
  more_index b l = ⊎_elim
      (λ (e : b ≡ start). omega (arith, ap (slice_index u.index) e, new_index))
      (λ (e : b ≡ start → ⊥). omega (arith, old_index b e, l))
      (cases_eq b start)

  old_site : (k : ℕ) (d : Site) → k < length t.sites.items
      → slice_index_or u.sites.items k d ≡ slice_index_or t.sites.items k d
  old_site k d l = ap (λ z. slice_index_or z k d) sites
      ∙ get_or-append t.sites.items (site ∷ []) d k l

  new_site : (k : ℕ) (d : Site) → k ≡ length t.sites.items → slice_index_or u.sites.items k d ≡ site
  new_site k d e = (λ i. slice_index_or (sites i) (e i) d)
      ∙ get_or-append_seam t.sites.items site [] d

  sites_long : length u.sites.items ≡ length t.sites.items + 1
  sites_long = ap length sites ∙ length-append t.sites.items (site ∷ [])

  is_site : IsSite s words bs site
  is_site =
      let named : slice_index words site.start ≡ x = ap (slice_index words) first ∙ parent in
      let area = sc.area in
      record {
        node = ap (is_node (root_at s) bs) named ∙ n;
        link = ap (link_in words) named ∙ link ∙ sym first;
        inside = (omega (arith, first, area, free), omega (arith, first, inside));
        state = state ∙ ap (node_state s bs) (sym named);
      }

  table_more : IsSiteTable s words bs u
  table_more = record {
    long = ap length index ∙ length-set t.index start (length t.sites.items + 1) ∙ sc.table.long;
    sites = λ k d l. ⊎_elim
        (λ (m : k < length t.sites.items). subst (IsSite s words bs) (sym (old_site k d m)) (sc.table.sites k d m))
        (λ (m : length t.sites.items ≤ k). subst (IsSite s words bs) (sym (new_site k d (omega (arith, m, l, sites_long)))) is_site)
        (cases_lt k (length t.sites.items));
    index = λ b d l. ⊎_elim
        (λ (e : b ≡ start).
        let k : slice_index u.index b ≡ length t.sites.items + 1 = ap (slice_index u.index) e
        ∙ new_index in
        (omega (arith, k, sites_long), ap (λ z. z.start) (new_site (slice_index u.index b - 1) d (omega (arith, k))) ∙ first ∙ sym e))
        (λ (e : b ≡ start → ⊥).
        let k : slice_index u.index b ≡ slice_index t.index b = old_index b e in
        let old = sc.table.index b d (omega (arith, k, l)) in
        let at : slice_index_or u.sites.items
        (slice_index u.index b - 1) d ≡ slice_index_or t.sites.items
        (slice_index t.index b - 1) d
        = ap (λ j. slice_index_or u.sites.items (j - 1) d) k
        ∙ old_site (slice_index t.index b - 1) d (omega (arith, old.0, k, l)) in
        (omega (arith, k, old.0, sites_long), ap (λ z. z.start) at ∙ old.1))
        (cases_eq b start);
  }

  -- the node's link is followed
  pub enter_some : Scanned s words u (x + 1) p bs
  enter_some = record {
    order = sc.order;
    shown = sc.shown;
    complete = sc.complete;
    ended = sc.ended;
    area = sc.area;
    table = table_more;
    links = λ y m l. ⊎_elim
        (λ (k : y < x). ⊎_elim
        (λ (e : link_in words y ≡ link_of bs y). inl e)
        (λ (e : (link_of bs y ≡ 0) × (p ≤ link_in words y) × (0 < slice_index t.index (link_in words y)) × (slice_index words (link_in words y) ≡ y)).
        inr (e.0, e.1, more_index (link_in words y) e.2, e.3))
        (sc.links y m k))
        (λ (k : x ≤ y).
        let at : x ≡ y = omega (arith, k, l) in
        let here : IsFollowed words u p bs x
        = inr (
          sc.vacant x n (omega arith),
          omega (arith, link, free),
          omega
              (arith, ap (slice_index u.index) link, new_index),
          ap (slice_index words) link ∙ parent,
        ) in
        subst (IsFollowed words u p bs) at here)
        (cases_lt y x);
    vacant = λ y m l. sc.vacant y m (omega (arith, l));
    entered = λ b i. more_index b.start (sc.entered b i);
    others = others ∙ sc.others;
    few = let few = sc.few in omega (arith, few, others);
    known = sc.known;
  }
