-- The table of the root's link alone, and the words that are passed one by one.
use Rattle.std.proofs.Common.{◌≡◌, ℕ, ◌+◌, true, List, [], length, replicate, sym, ap, ◌∙◌, subst}
use Rattle.std.proofs.Common.{inl, arith}
use Rattle.std.proofs.lemmas.List.{length-replicate}
use Rattle.std.specs.Prelude.{slice_index}
use Rattle.tree_words.specs.Settings.{Setting, IsSetting}
use Rattle.tree_words.specs.Words.{root_at, area_at, end_of}
use Rattle.tree_words.specs.Blocks.{is_node}
use Rattle.tree_words.proofs.Blocks.BlockLaws.{root_node}
use Rattle.trace_audit.specs.declared.sites.Table.{Table}
use Rattle.trace_audit.specs.Tables.{IsInLastBlock, Scanned}
use Rattle.trace_audit.proofs.Scanning.{advance, scan_none}
use Rattle.tree_words.proofs.Areas.CutAreas.{none_left}

module _ (s : Setting) (words : List ℕ) (h : IsSetting s) (root : ℕ) (at : root ≡ root_at s) where
  pub first_scan : (t : Table) (n : ℕ) → n ≡ end_of s → t.index ≡ replicate n 0 → t.sites.items ≡ []
      → t.others ≡ 0 → Scanned s words t root (root + 4) []
  first_scan t n e none sites others =
      let area : area_at s ≡ root + 4 = omega (arith, at) in
      let long : length t.index ≡ end_of s = ap length none ∙ length-replicate {A = ℕ} n 0 ∙ e in
      let first = scan_none s words h t long
      (λ i. ap (λ z. slice_index z i) none ∙ none_left n i) sites others in
      subst (λ (p : ℕ). Scanned s words t root p []) area
      (subst (λ (d : ℕ). Scanned s words t d (area_at s) []) (sym at) first)

  pub first_node : is_node (root_at s) [] root ≡ true
  first_node = ap (is_node (root_at s) []) at ∙ root_node (root_at s) []

  pub first_last : IsInLastBlock s (root + 4) [] root
  first_last = inl (at, omega (arith, at))

  pub first_done : (t : Table) → Scanned s words t (root + 1) (root + 4) []
      → Scanned s words t (area_at s) (area_at s) []
  first_done t sc =
      let area : root + 4 ≡ area_at s = omega (arith, at) in
      subst (λ (p : ℕ). Scanned s words t p p []) area
      (advance s words h t root (root + 4) [] sc first_node)
