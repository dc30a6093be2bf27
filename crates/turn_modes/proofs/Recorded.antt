-- No record word of a closed tree is 0.
use Rattle.std.proofs.Common.{◌≡◌, ℕ, zero, suc, ◌+◌, ◌-◌, ◌/◌, ◌<◌, ◌≤◌, ◌==◌, not, Bool, true}
use Rattle.std.proofs.Common.{List, length, take, drop, replicate, get_or, refl, sym, ap, ◌∙◌}
use Rattle.std.proofs.Common.{⊎_elim, arith}
use Rattle.std.specs.Prelude.{slice_range}
use Rattle.std.specs.List.{count_by}
use Rattle.std.proofs.Math.Seq.{take-length}
use Rattle.std.proofs.lemmas.Bool.{ne_eqb}
use Rattle.std.proofs.lemmas.List.{length-take-le, length-drop, take-append-le, drop-append-le}
use Rattle.std.proofs.lemmas.List.{get_or-take, get_or-drop}
use Rattle.std.proofs.lemmas.List.Sums.{count_by_more_yes}
use Rattle.tree_words.specs.Settings.{Setting}
use Rattle.tree_words.specs.Words.{root_at, area_at, end_of, record_in, next_in}
use Rattle.tree_words.specs.Areas.{all_words}
use Rattle.tree_words.specs.Closing.{IsClosed}
use Rattle.tree_words.specs.Records.{leaf_of}
use Rattle.tree_words.proofs.Blocks.NodeLaws.{node-lies}

record_some : (s : Setting) (words : List ℕ) (k : ℕ) → IsClosed s words → k < s.knobs.playouts
    → record_in words k ≡ 0 → ⊥
record_some s words k closed l e =
    let leaf : leaf_of words k ≡ 0 = ap (λ v. v / 2) e in
    ⊎_elim (λ (h : leaf_of words k ≡ root_at s). omega arith)
    (λ (h : (area_at s ≤ leaf_of words k) × (leaf_of words k + 4 ≤ next_in words)
    × (leaf_of words k + 4 ≤ s.knobs.playouts + s.knobs.words + 6)). let above = h.0 in omega arith)
    (node-lies s (next_in words) closed.blocks (leaf_of words k) closed.linked.complete
    (closed.recorded k l).node)

all_pass : (p : ℕ → Bool) (xs : List ℕ) (i : ℕ) → i ≤ length xs
    → ((k : ℕ) → k < length xs → p (get_or xs k 0) ≡ true) → count_by p (take i xs) ≡ i
all_pass p xs zero l h = refl
all_pass p xs (suc i) l h =
    let next : suc i ≡ i + 1 = omega arith in
    ap (λ n. count_by p (take n xs)) next
    ∙ count_by_more_yes p xs i 0 (omega arith) (h i (omega arith))
    ∙ ap (λ n. n + 1) (all_pass p xs i (omega arith) h) ∙ sym next

-- so the record words that are not 0 are as many as the playouts
pub all_recorded : (s : Setting) (words : List ℕ) → IsClosed s words
    → count_by (λ word. not (word == 0))
    (slice_range words 2 (2 + s.knobs.playouts)) ≡ s.knobs.playouts
all_recorded s words closed =
    let n : ℕ = s.knobs.playouts in
    let front : List ℕ = take n (drop 2 words) in
    let rest : length (drop 2 words) ≡ length words - 2 = length-drop 2 words in
    let long = closed.long in
    let many : length front ≡ n = length-take-le n (drop 2 words) (omega arith) in
    let each : (k : ℕ) → k < length front → not (get_or front k 0 == 0) ≡ true = λ k l.
    let at : get_or front k 0 ≡ record_in words k = get_or-take n (drop 2 words) k 0 (omega arith)
    ∙ get_or-drop 2 words k 0 in
    ap (λ v. not (v == 0)) at
    ∙ ap not (ne_eqb (record_in words k) 0 (record_some s words k closed (omega arith))) in
    let width : 2 + n - 2 ≡ n = omega arith in
    ap (λ m. count_by (λ word. not (word == 0)) (take m (drop 2 words))) width
    ∙ ap (count_by (λ word. not (word == 0))) (sym (take-length front))
    ∙ all_pass (λ word. not (word == 0)) front (length front) (omega arith) each ∙ many

-- a range of the first words is one of all words
pub first_range : (s : Setting) (words : List ℕ) (i j : ℕ) → i ≤ j → j ≤ length words
    → slice_range (all_words s words) i j ≡ slice_range words i j
first_range s words i j l h =
    let zeros : List ℕ = replicate (end_of s - length words) 0 in
    ap (take (j - i)) (drop-append-le i words zeros (omega (arith, l, h)))
    ∙ take-append-le (j - i) (drop i words) zeros (omega (arith, length-drop i words, h))
