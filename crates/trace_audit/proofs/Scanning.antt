-- The blocks that are found one by one: what stands at first, and with one more.
use Rattle.std.proofs.Common.{◌≡◌, ℕ, ◌+◌, ◌-◌, ◌<◌, ◌≤◌, true, List, [], length, refl, sym, ap}
use Rattle.std.proofs.Common.{◌∙◌, subst, ⊎_elim, inl, arith}
use Rattle.std.specs.Prelude.{slice_index}
use Rattle.std.proofs.lemmas.List.{get_or_past}
use Rattle.std.proofs.lemmas.Bool.{cases_lt, eqb-true}
use Rattle.tree_words.specs.Settings.{Setting, IsSetting}
use Rattle.tree_words.specs.Words.{root_at, area_at, end_of, link_in}
use Rattle.tree_words.specs.Blocks.{LinkedBlock, size, has_node, is_node, In, link_of}
use Rattle.tree_words.specs.Told.{told_block}
use Rattle.tree_words.proofs.Blocks.BlockLaws.{covers_if, has-at}
use Rattle.tree_words.proofs.Blocks.NodeLaws.{nodes-apart}
use Rattle.tree_words.proofs.Blocks.OneTree.{knows-in}
use Rattle.trace_audit.specs.declared.sites.Table.{Table}
use Rattle.trace_audit.specs.Tables.{AreUnlinked, IsFollowed, IsInLastBlock, Scanned, IsLinked}
use Rattle.trace_audit.proofs.LinkedBlocks.{link_real, link_whole, first_word}
use Rattle.tree_words.proofs.Blocks.NodeLaws.{covers-one}
use Rattle.trace_audit.proofs.LinkedBlocks.{node_below}

module _ (s : Setting) (words : List ℕ) (h : IsSetting s) where
  -- a node without link is followed
  pub enter_zero : (t : Table) (x p : ℕ) (bs : List LinkedBlock) → Scanned s words t x p bs
      → is_node (root_at s) bs x ≡ true → link_in words x ≡ 0 → Scanned s words t (x + 1) p bs
  enter_zero t x p bs sc n e = record {
    order = sc.order;
    shown = sc.shown;
    complete = sc.complete;
    ended = sc.ended;
    area = sc.area;
    table = sc.table;
    links = λ y m l. ⊎_elim
        (λ (k : y < x). sc.links y m k)
        (λ (k : x ≤ y).
        let at : x ≡ y = omega (arith, k, l) in
        let here : IsFollowed words t p bs x = inl (e ∙ sym (sc.vacant x n (omega arith))) in
        subst (IsFollowed words t p bs) at here)
        (cases_lt y x);
    vacant = λ y m l. sc.vacant y m (omega (arith, l));
    entered = sc.entered;
    others = sc.others;
    few = sc.few;
    known = sc.known;
  }

  -- a node whose link names no block that may stand there
  pub enter_none : (t : Table) (x p : ℕ) (bs : List LinkedBlock) → Scanned s words t x p bs
      → is_node (root_at s) bs x ≡ true → IsInLastBlock s p bs x → length words ≡ end_of s
      → 0 < link_in words x
      → ((p ≤ link_in words x) × (link_in words x < length words) × (slice_index words (link_in words x) ≡ x) → ⊥) → AreUnlinked s words
  enter_none t x p bs sc n last long l not-so cs lk =
      let b : ℕ = link_in words x in
      let c : LinkedBlock = told_block s bs x b in
      let k = sc.known cs lk in
      let i : In c cs = link_real s words h bs cs x lk k n l in
      let w = link_whole s words h bs cs x lk k n l in
      let inside = w.inside in
      let above = w.above in
      let free : p ≤ b = ⊎_elim
      (λ (e : (x ≡ root_at s) × (p ≡ area_at s)). omega (arith, e.1, inside.0))
      (λ (e : (d : LinkedBlock) × In d bs × (has_node d x ≡ true) × (p ≡ d.start + size d)).
      let d : LinkedBlock = e.0 in
      let at = has-at d x e.2 in
      ⊎_elim
      (λ (f : b < p).
      let both : d ≡ c
      = covers-one (root_at s) cs d c b lk.order (knows-in (root_at s) cs bs d k e.1) i
      (covers_if b d (omega (arith, at.2, above)) (omega (arith, e.3, f)))
      (covers_if b c (omega arith) (omega arith)) in
      let start : d.start ≡ b = ap (λ (z : LinkedBlock). z.start) both in
      absurd (omega (arith, start, at.2, above)))
      (λ (f : p ≤ b). f)
      (cases_lt b p))
      last in
      not-so (free, omega (arith, inside.1, long), first_word s words h cs c lk i)

  -- between the words of a node no other node begins
  pub advance : (t : Table) (x p : ℕ) (bs : List LinkedBlock) → Scanned s words t (x + 1) p bs
      → is_node (root_at s) bs x ≡ true → Scanned s words t (x + 4) p bs
  advance t x p bs sc n = record {
    order = sc.order;
    shown = sc.shown;
    complete = sc.complete;
    ended = sc.ended;
    area = sc.area;
    table = sc.table;
    links = λ y m l. ⊎_elim
        (λ (k : y < x + 1). sc.links y m k)
        (λ (k : x + 1 ≤ y).
        let same : y ≡ x = nodes-apart (root_at s) bs y x 0 (y - x) sc.order m n (omega arith)
        (omega (arith, l, k)) (omega (arith, k)) in
        absurd (omega (arith, same, k)))
        (cases_lt y (x + 1));
    vacant = λ y m l. sc.vacant y m (omega (arith, l));
    entered = sc.entered;
    others = sc.others;
    few = sc.few;
    known = sc.known;
  }

  -- before any block is found
  pub scan_none : (t : Table) → length t.index ≡ end_of s → ((i : ℕ) → slice_index t.index i ≡ 0)
      → t.sites.items ≡ [] → t.others ≡ 0 → Scanned s words t (root_at s) (area_at s) []
  scan_none t long none sites others = record {
    order = tt;
    shown = λ b i. absurd i;
    complete = tt;
    ended = tt;
    area = omega arith;
    table = record {
      long = long;
      sites = λ k d l. absurd (omega (arith, l, ap length sites));
      index = λ b d l. absurd (omega (arith, l, none b));
    };
    links = λ y n l. absurd (omega (arith, eqb-true y (root_at s) n, l));
    vacant = λ y n l. refl;
    entered = λ b i. absurd i;
    others = others;
    few = omega (arith, others);
    known = λ cs lk. tt;
  }

  -- all words are passed
  pub all_passed : (t : Table) (p : ℕ) (bs : List LinkedBlock) → Scanned s words t p p bs
      → end_of s ≤ p → p ≤ end_of s → IsLinked s words t bs
  all_passed t p bs sc l m = record {
    linked = record {
      order = sc.order;
      shows = record {
        blocks = λ b i k. sc.shown b k i;
        links = λ y n.
            let below = node_below s words h p bs y sc.area sc.ended n in
            ⊎_elim
            (λ (e : link_in words y ≡ link_of bs y). e)
            (λ (e : (link_of bs y ≡ 0) × (p ≤ link_in words y) × (0 < slice_index t.index (link_in words y)) × (slice_index words (link_in words y) ≡ y)).
            absurd (omega (arith, sc.table.long, e.1, l, e.2, get_or_past t.index (link_in words y) 0 (omega (arith, sc.table.long, e.1, l)))))
            (sc.links y n (omega (arith, below)));
      };
      complete = sc.complete;
    };
    table = sc.table;
    entered = sc.entered;
    others = sc.others;
    few = let few = sc.few in omega (arith, few, m);
  }
