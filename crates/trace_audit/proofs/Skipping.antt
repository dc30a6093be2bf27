-- A word where no block begins is passed.
use Rattle.std.proofs.Common.{◌≡◌, ℕ, ◌+◌, ◌<◌, ◌≤◌, List, ap, ⊎_elim, inl, inr, arith}
use Rattle.std.specs.Prelude.{slice_index}
use Rattle.std.proofs.lemmas.Bool.{cases_eq}
use Rattle.tree_words.specs.Settings.{Setting, IsSetting}
use Rattle.tree_words.specs.Words.{link_in}
use Rattle.tree_words.specs.Blocks.{LinkedBlock, link_of}
use Rattle.tree_words.proofs.Blocks.NodeLaws.{complete-more}
use Rattle.trace_audit.specs.declared.sites.Table.{Table}
use Rattle.trace_audit.specs.Tables.{Scanned}
use Rattle.trace_audit.proofs.LinkedBlocks.{node_below}

-- where no block begins
pub skip : (s : Setting) (words : List ℕ) (h : IsSetting s) (t : Table) (p : ℕ)
    (bs : List LinkedBlock) → Scanned s words t p p bs → slice_index t.index p ≡ 0
    → Scanned s words t (p + 1) (p + 1) bs
skip s words h t p bs sc none = record {
  order = sc.order;
  shown = sc.shown;
  complete = sc.complete;
  ended = complete-more s p (p + 1) bs (omega arith) sc.ended;
  area = let area = sc.area in omega (arith, area);
  table = sc.table;
  links = λ y n l.
      let below = node_below s words h p bs y sc.area sc.ended n in
      ⊎_elim
      (λ (e : link_in words y ≡ link_of bs y). inl e)
      (λ (e : (link_of bs y ≡ 0) × (p ≤ link_in words y) × (0 < slice_index t.index (link_in words y)) × (slice_index words (link_in words y) ≡ y)).
      ⊎_elim
      (λ (at : link_in words y ≡ p). absurd (omega (arith, ap (slice_index t.index) at, none, e.2)))
      (λ (at : link_in words y ≡ p → ⊥). inr (e.0, omega (arith, e.1, at), e.2, e.3))
      (cases_eq (link_in words y) p))
      (sc.links y n (omega (arith, below)));
  vacant = λ y n l. sc.vacant y n (omega (arith, l));
  entered = sc.entered;
  others = sc.others;
  few = let few = sc.few in omega (arith, few);
  known = sc.known;
}
