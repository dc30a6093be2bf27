-- The tree that is read from the text of a closed tree is closed.
use Rattle.std.proofs.Common.{◌≡◌, ℕ, ◌-◌, ◌<◌, ◌≤◌, List, ◌++◌, length, take, replicate, refl, sym}
use Rattle.std.proofs.Common.{ap, ◌∙◌, ⊎_elim, arith, length-append}
use Rattle.std.specs.Prelude.{slice_index, min, codes}
use Rattle.std.proofs.lemmas.Bool.{cases_lt}
use Rattle.std.proofs.lemmas.Grind.{common_steps}
use Rattle.std.proofs.lemmas.List.{length-take-le, get_or-take, get_or-append_right, get_or_past}
use Rattle.std.proofs.lemmas.List.{take-append-le}
use Rattle.std.proofs.Math.ListN.{get_or-append}
use Rattle.std.proofs.Math.Seq.{take-length}
use Rattle.tree_words.specs.Closing.{ClosedTree, IsClosed}
use Rattle.tree_words.specs.Settings.{IsSetting}
use Rattle.tree_words.specs.Words.{next_in, area_at}
use Rattle.trace_audit.specs.Traces.{bytes_of, fields_of, trace_text, written_count}
use Rattle.trace_audit.specs.Told.{AreWords, TellsClosed}
use Rattle.trace_audit.proofs.SameWords.{closed_same, front_below}
use Rattle.tree_words.proofs.Areas.CutAreas.{none_left}

-- the first q words, and 0 in place of the others
abbrev read_back : List ℕ → ℕ → List ℕ
read_back words q = take q words ++ replicate (length words - q) 0

read_long : (words : List ℕ) (q : ℕ) → q ≤ length words → length (read_back words q) ≡ length words
read_long words q l =
    let front : length (take q words) ≡ q = length-take-le q words l in
    let zeros_behind : List ℕ = replicate (length words - q) 0 in
    let rest : length zeros_behind ≡ length words - q = grind (arith, common_steps) in
    omega (arith, length-append (take q words) zeros_behind, front, rest, l)

read_below : (words : List ℕ) (q i : ℕ) → q ≤ length words → i < q
    → slice_index (read_back words q) i ≡ slice_index words i
read_below words q i l m =
    let front : length (take q words) ≡ q = length-take-le q words l in
    get_or-append (take q words) (replicate (length words - q) 0) 0 i (omega (arith, front, m))
    ∙ get_or-take q words i 0 m

read_rest : (words : List ℕ) (q i : ℕ) → q ≤ length words → q ≤ i
    → slice_index (read_back words q) i ≡ 0
read_rest words q i l m = get_or-append_right (take q words) (replicate (length words - q) 0) q i 0
    (length-take-le q words l) m ∙ none_left (length words - q) (i - q)

read_front : (words : List ℕ) (q : ℕ) → q ≤ length words → take q (read_back words q) ≡ take q words
read_front words q l =
    let front : length (take q words) ≡ q = length-take-le q words l in
    take-append-le q (take q words) (replicate (length words - q) 0) (omega (arith, front))
    ∙ ap (λ k. take k (take q words)) (sym front) ∙ take-length (take q words)

-- a word below NEXT is read as it was: where it was not written, there is none
read_same : (words : List ℕ) (i : ℕ) → i < next_in words
    → slice_index (read_back words (written_count words)) i ≡ slice_index words i
read_same words i m = ⊎_elim
    (λ (h : i < written_count words). read_below words (written_count words) i (omega arith) h)
    (λ (h : written_count words ≤ i). read_rest words (written_count words) i (omega arith) h ∙ sym (get_or_past words i 0 (omega (arith, h, m))))
    (cases_lt i (written_count words))

-- each word that is read is a 64-bit number
read_words : (words : List ℕ) (q : ℕ) → q ≤ length words → AreWords words
    → AreWords (read_back words q)
read_words words q l h i = ⊎_elim
    (λ (m : i < q). omega (arith, read_below words q i l m, h i))
    (λ (m : q ≤ i). omega (arith, read_rest words q i l m))
    (cases_lt i q)

-- the text of a closed tree tells a closed tree
pub tells_closed : (t : ClosedTree) → IsSetting t.shape → IsClosed t.shape t.words
    → AreWords t.words → TellsClosed t (trace_text t)
tells_closed t h c range =
    let words : List ℕ = t.words in
    let q : ℕ = written_count words in
    let read : List ℕ = read_back words q in
    let within : q ≤ length words = omega arith in
    let front : area_at t.shape ≤ next_in words = front_below t.shape words h c in
    let area : area_at t.shape ≤ q = omega (arith, front, c.long) in
    let long : length read ≡ length words = read_long words q within in
    let next : next_in read ≡ next_in words = read_below words q 0 within (omega (arith, area)) in
    let count : written_count read ≡ q = λ i. min (next i) (long i) in
    let part : take (written_count read) read ≡ take q words = ap (λ k. take k read) count
    ∙ read_front words q within in
    record {
      tree = record { shape = t.shape; words = read };
      told = record {
        shape = h;
        words = read_words words q within range;
        long = long ∙ c.long;
        area = omega (arith, count, area);
        rest = λ i l. read_rest words q i within (omega (arith, count, l));
      };
      shape = refl;
      words = λ i l. read_below words q i within l;
      closed = closed_same t.shape words read h c long (read_same words);
      text = λ i. codes "HEXTREE1" ++ (bytes_of (fields_of t.shape (sym count i)) ++ bytes_of (sym part i));
    }
