use Rattle.std.proofs.Common.{◌≡◌, ℕ, List, refl, sym, ◌∙◌, arith}
use Rattle.std.specs.Prelude.{min}
use Rattle.tree_words.specs.Words.{end_of, next_in}
use Rattle.trace_audit.proofs.CutTexts.{cut_none, cut_text}
use Rattle.trace_audit.proofs.HeldTexts.{held_long, text_long, text_range, text_rest, text_stand}
use Rattle.trace_audit.proofs.parsing.read_text.Goals as goal

pub of-words-requires-clause-whole : goal.of-words-requires-clause-whole
of-words-requires-clause-whole c
    = omega (
      arith,
      held_long c.args.bytes.now (λ k. (c.type_inv.bytes k).fits) c.in-Some.header.shape
          c.cut_at-cut.result c.in-Some.header.count c.total.result _ c.in-Some.ensures refl c.total.ensures c.cut_at-cut.ensures.enough,
    )

pub at-requires : goal.at-requires
at-requires c
    = omega (
      arith,
      text_long c.args.bytes.now (λ k. (c.type_inv.bytes k).fits) c.in-Some.header.shape
          c.cut_at-cut.result c.in-Some.header.count c.total.result _ c.in-Some.ensures refl c.total.ensures
          c.cut_at-cut.ensures.enough c.of-words.result c.of-words.ensures,
    )

pub returns-then-min-header : goal.returns-then-min-header
returns-then-min-header c =
    let bytes : List ℕ = c.args.bytes.now in
    let s = c.in-Some.header.shape in
    let cut = c.cut_at-cut.result in
    let q : ℕ = c.in-Some.header.count in
    let n : ℕ = c.total.result in
    let header = c.in-Some.ensures in
    let enough = c.cut_at-cut.ensures.enough in
    let words : List ℕ = c.of-words.result in
    let written : c.min.result ≡ min (next_in words) (end_of s) = c.min.ensures
    ∙ (λ i. min (c.at.ensures i) ((c.from.ensures ∙ c.total-2.ensures) i)) in
    cut_none bytes words s cut q header c.cut_at-cut.ensures.less enough
    (text_long bytes (λ k. (c.type_inv.bytes k).fits) s cut q n _ header refl c.total.ensures enough words c.of-words.ensures)
    (text_range bytes (λ k. (c.type_inv.bytes k).fits) s cut q n _ header refl c.total.ensures enough words c.of-words.ensures)
    (text_stand bytes (λ k. (c.type_inv.bytes k).fits) s cut q n _ header refl c.total.ensures enough words c.of-words.ensures)
    (λ z. c.if-min-header.true (written ∙ z))

pub returns : goal.returns
returns c =
    let bytes : List ℕ = c.args.bytes.now in
    let s = c.in-Some.header.shape in
    let cut = c.cut_at-cut.result in
    let q : ℕ = c.in-Some.header.count in
    let n : ℕ = c.total.result in
    let header = c.in-Some.ensures in
    let enough = c.cut_at-cut.ensures.enough in
    let words : List ℕ = c.of-words.result in
    let written : c.min.result ≡ min (next_in words) (end_of s) = c.min.ensures
    ∙ (λ i. min (c.at.ensures i) ((c.from.ensures ∙ c.total-2.ensures) i)) in
    let t = cut_text bytes words s cut q header c.cut_at-cut.ensures.less enough
    (text_long bytes (λ k. (c.type_inv.bytes k).fits) s cut q n _ header refl c.total.ensures enough words c.of-words.ensures)
    (text_range bytes (λ k. (c.type_inv.bytes k).fits) s cut q n _ header refl c.total.ensures enough words c.of-words.ensures)
    (text_stand bytes (λ k. (c.type_inv.bytes k).fits) s cut q n _ header refl c.total.ensures enough words c.of-words.ensures)
    words refl c.cut_at-cut.ensures.area
    (text_rest bytes (λ k. (c.type_inv.bytes k).fits) s cut q n _ header refl c.total.ensures enough words c.of-words.ensures)
    (sym written ∙ c.if-min-header.false) in
    record {
      read = t.0;
      cut = t.2;
      most = omega (arith, header.long);
      least = omega arith;
      begins = t.1;
    }
