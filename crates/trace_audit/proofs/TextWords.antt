-- The words of a text: the tree that is read, and that there is no other.
use Rattle.std.proofs.Common.{◌≡◌, ℕ, ◌+◌, ◌-◌, ◌*◌, ◌<◌, ◌≤◌, ◌^◌, List, ◌++◌, length, take, drop}
use Rattle.std.proofs.Common.{refl, sym, ap, ◌∙◌, subst, arith, append_assoc, length-append}
use Rattle.std.proofs.Common.{length-take}
use Rattle.std.specs.Prelude.{slice_index, codes, min}
use Rattle.std.proofs.lemmas.Bool.{cases_lt}
use Rattle.std.proofs.Common.{⊎_elim}
use Rattle.std.proofs.lemmas.List.{take-append-drop, drop-drop, drop_at, length-take-le}
use Rattle.std.proofs.lemmas.List.{get_or-take, get_or_past}
use Rattle.tree_words.specs.Settings.{Setting, IsSetting}
use Rattle.tree_words.specs.Words.{area_at, end_of, next_in}
use Rattle.tree_words.specs.Closing.{ClosedTree}
use Rattle.trace_audit.specs.Traces.{bytes_of, fields_of, trace_text, written_count}
use Rattle.trace_audit.specs.Told.{AreWords, IsReadTree}
use Rattle.trace_audit.specs.Fields.{TellShape}
use Rattle.trace_audit.specs.Texts.{BeginWith, StandAt, AreFields, IsHeader}
use Rattle.trace_audit.specs.Verdicts.{BeginsWithTree}
use Rattle.trace_audit.proofs.WordBytes.{bytes_long, words_same}
use Rattle.trace_audit.proofs.TextTree.{begins_front, front_one, fields_words, fields_tell}
use Rattle.trace_audit.proofs.TextTree.{shape_one, told_fields}

end_small : (s : Setting) → IsSetting s → end_of s < 2 ^ 64
end_small s h = omega (arith, h.ranges.playouts, h.ranges.words)

pub written_most : (t : ClosedTree) → IsReadTree t → written_count t.words ≤ end_of t.shape
written_most t r = omega (arith, r.long)

-- the fields that a text begins with are those of its tree
pub tree_fields : (bytes fields : List ℕ) (t : ClosedTree) → AreFields bytes fields
    → BeginsWithTree t bytes → fields ≡ fields_of t.shape (written_count t.words)
tree_fields bytes fields t f b =
    let q : ℕ = written_count t.words in
    front_one bytes fields (fields_of t.shape q) f.words
    (fields_words t.shape q b.read.shape (omega (arith, written_most t b.read, end_small t.shape b.read.shape))) f.count f.header (begins_front t bytes b)

pub tree_told : (bytes fields : List ℕ) (t : ClosedTree) → AreFields bytes fields
    → BeginsWithTree t bytes → TellShape fields t.shape
tree_told bytes fields t f b
    = subst (λ l. TellShape l t.shape) (sym (tree_fields bytes fields t f b))
    (fields_tell t.shape (written_count t.words))

-- how many bytes a text has at least
pub begins_long : (t : ClosedTree) (bytes : List ℕ) → IsReadTree t → BeginsWithTree t bytes
    → 128 + 8 * written_count t.words ≤ length bytes
begins_long t bytes r b =
    let q : ℕ = written_count t.words in
    let fs : List ℕ = bytes_of (fields_of t.shape q) in
    let ws : List ℕ = bytes_of (take q t.words) in
    let front : length (take q t.words) ≡ q = length-take-le q t.words (omega arith) in
    let all : length bytes ≡ length (trace_text t) + length b.rest = ap length b.text
    ∙ length-append (trace_text t) b.rest in
    let name : length (trace_text t) ≡ 8 + length (fs ++ ws)
    = length-append (codes "HEXTREE1") (fs ++ ws) in
    omega (arith, all, name, length-append fs ws, bytes_long (fields_of t.shape q), bytes_long (take q t.words), front)

-- the count of a text is in its range
pub count_fits : (bytes fields : List ℕ) (s : Setting) (t : ClosedTree) → AreFields bytes fields
    → TellShape fields s → BeginsWithTree t bytes
    → (area_at s ≤ slice_index fields 14) × (slice_index fields 14 ≤ end_of s)
    × (8 * slice_index fields 14 ≤ length bytes - 128)
count_fits bytes fields s t f h b =
    let same : t.shape ≡ s = shape_one fields t.shape s (tree_told bytes fields t f b) h in
    let count : slice_index fields 14 ≡ written_count t.words
    = ap (λ l. slice_index l 14) (tree_fields bytes fields t f b) in
    let area : area_at t.shape ≡ area_at s = ap area_at same in
    let end : end_of t.shape ≡ end_of s = ap end_of same in
    (omega (arith, count, area, b.read.area), omega (arith, count, end, written_most t b.read), omega (arith, count, begins_long t bytes b.read b))

-- the header that was read
pub front_read : (bytes fields : List ℕ) (s : Setting) (count : ℕ) → IsSetting s
    → AreFields bytes fields → TellShape fields s → count ≡ slice_index fields 14
    → (area_at s ≤ count) × (count ≤ end_of s) × (8 * count ≤ length bytes - 128)
    → IsHeader bytes s count
front_read bytes fields s count k f h e r = record {
  setting = k;
  header = subst (BeginWith bytes)
      (told_fields fields s f.count h ∙ ap (fields_of s) (sym e)) f.header;
  least = r.0;
  most = r.1;
  long = omega (arith, r.2, f.long);
}

take_words : (ws : List ℕ) (n : ℕ) → AreWords ws → AreWords (take n ws)
take_words ws n a i = ⊎_elim
    (λ (l : i < n). omega (arith, get_or-take n ws i 0 l, a i))
    (λ (l : n ≤ i). omega (arith, get_or_past (take n ws) i 0 (omega (arith, length-take n ws, l))))
    (cases_lt i n)

-- what stands behind the header
pub behind : (bytes : List ℕ) (s : Setting) (q : ℕ) (f : BeginWith bytes (fields_of s q))
    → drop 128 bytes ≡ f.0
behind bytes s q f =
    let front : List ℕ = codes "HEXTREE1" ++ bytes_of (fields_of s q) in
    let long : length front ≡ 128
    = omega (arith, length-append (codes "HEXTREE1") (bytes_of (fields_of s q)), bytes_long (fields_of s q)) in
    ap (drop 128) (f.1 ∙ sym (append_assoc (codes "HEXTREE1") (bytes_of (fields_of s q)) f.0))
    ∙ drop_at front f.0 128 long

-- the words behind the header, and what follows them
pub stand_split : (bytes ws : List ℕ) → StandAt bytes 128 ws
    → drop 128 bytes ≡ bytes_of ws ++ drop (128 + 8 * length ws) bytes
stand_split bytes ws h =
    let rest : List ℕ = drop 128 bytes in
    sym (take-append-drop (8 * length ws) rest) ∙ (λ i. sym h i ++ drop (8 * length ws) rest)
    ∙ ap (λ l. bytes_of ws ++ l) (drop-drop (8 * length ws) 128 bytes)

-- the tree of the words that were read
pub text_begins : (bytes words : List ℕ) (s : Setting) (q : ℕ) → IsHeader bytes s q
    → length words ≡ end_of s → StandAt bytes 128 (take q words) → written_count words ≡ q
    → bytes ≡ trace_text (record { shape = s; words = words }) ++ drop (128 + 8 * q) bytes
text_begins bytes words s q f l h e =
    let front : length (take q words) ≡ q = length-take-le q words (omega (arith, l, f.most)) in
    let fs : List ℕ = bytes_of (fields_of s q) in
    let ws : List ℕ = bytes_of (take q words) in
    let rest : List ℕ = drop (128 + 8 * q) bytes in
    let split : f.header.0 ≡ ws ++ rest = sym (behind bytes s q f.header)
    ∙ stand_split bytes (take q words) h ∙ ap (λ n. ws ++ drop (128 + 8 * n) bytes) front in
    let whole : bytes ≡ codes "HEXTREE1" ++ (fs ++ (ws ++ rest)) = f.header.1
    ∙ ap (λ z. codes "HEXTREE1" ++ (fs ++ z)) split in
    whole ∙ ap (λ z. codes "HEXTREE1" ++ z) (sym (append_assoc fs ws rest))
    ∙ sym (append_assoc (codes "HEXTREE1") (fs ++ ws) rest)
    ∙ ap (λ n. (codes "HEXTREE1" ++ (bytes_of (fields_of s n) ++ bytes_of (take n words))) ++ rest) (sym e)

pub text_tree : (bytes words : List ℕ) (s : Setting) (q : ℕ) → IsHeader bytes s q
    → length words ≡ end_of s → AreWords words → ((i : ℕ) → q ≤ i → slice_index words i ≡ 0)
    → written_count words ≡ q
    → IsReadTree (record { shape = s; words = words })
text_tree bytes words s q f l a z e = record {
  shape = f.setting;
  words = a;
  long = l;
  area = omega (arith, e, f.least);
  rest = λ i m. z i (omega (arith, e, m));
}

-- a text that the bytes begin with has the words that were read
pub text_words : (bytes words : List ℕ) (s : Setting) (q : ℕ) (t : ClosedTree) → IsHeader bytes s q
    → length words ≡ end_of s → AreWords words → StandAt bytes 128 (take q words)
    → BeginsWithTree t bytes
    → (s ≡ t.shape) × (q ≡ written_count t.words) × (take q words ≡ take q t.words)
text_words bytes words s q t f l a h b =
    let p : ℕ = written_count t.words in
    let mine : BeginWith bytes (fields_of t.shape p) = begins_front t bytes b in
    let same : fields_of s q ≡ fields_of t.shape p
    = front_one bytes (fields_of s q) (fields_of t.shape p)
    (fields_words s q f.setting (omega (arith, f.most, end_small s f.setting)))
    (fields_words t.shape p b.read.shape (omega (arith, written_most t b.read, end_small t.shape b.read.shape))) refl f.header mine in
    let shape : s ≡ t.shape = shape_one (fields_of s q) s t.shape (fields_tell s q)
    (subst (λ z. TellShape z t.shape) (sym same) (fields_tell t.shape p)) in
    let count : q ≡ p = ap (λ z. slice_index z 14) same in
    let long : length (take q words) ≡ q = length-take-le q words (omega (arith, l, f.most)) in
    let long' : length (take q t.words) ≡ q = length-take-le q t.words (omega (arith, count)) in
    let split : bytes_of (take q words) ++ drop (128 + 8 * length (take q words)) bytes ≡ bytes_of
    (take q t.words) ++ b.rest
    = sym (stand_split bytes (take q words) h) ∙ behind bytes t.shape p mine
    ∙ ap (λ n. bytes_of (take n t.words) ++ b.rest) (sym count) in
    (shape, count, words_same (take q words) (take q t.words) _ _ (take_words words q a) (take_words t.words q b.read.words) (long ∙ sym long') split)

-- so none begins them if the count is another one
pub text_none : (bytes words : List ℕ) (s : Setting) (q : ℕ) → IsHeader bytes s q
    → length words ≡ end_of s → AreWords words → StandAt bytes 128 (take q words)
    → (written_count words ≡ q → ⊥)
    → (t : ClosedTree) → BeginsWithTree t bytes → ⊥
text_none bytes words s q f l a h n t b =
    let w = text_words bytes words s q t f l a h b in
    let least = f.least in
    let some : 0 < q = omega (arith, least) in
    let next : next_in words ≡ next_in t.words = sym (get_or-take q words 0 0 some)
    ∙ ap (λ z. slice_index z 0) w.2 ∙ get_or-take q t.words 0 0 some in
    let long : length words ≡ length t.words = l ∙ ap end_of w.0 ∙ sym b.read.long in
    n ((λ i. min (next i) (long i)) ∙ sym w.1)

-- all that was read, if the words stand in a vector
pub text_is : (bytes items words : List ℕ) (s : Setting) (q : ℕ) → items ≡ words → IsHeader bytes s q
    → length words ≡ end_of s → AreWords words → StandAt bytes 128 (take q words)
    → ((i : ℕ) → q ≤ i → slice_index words i ≡ 0) → written_count words ≡ q
    → IsReadTree (record { shape = s; words = items })
    × (bytes ≡ trace_text (record { shape = s; words = items }) ++ drop (128 + 8 * q) bytes)
text_is bytes items words s q same f l a h z e
    = subst (λ (ws : List ℕ). IsReadTree (record { shape = s; words = ws })
    × (bytes ≡ trace_text (record { shape = s; words = ws }) ++ drop (128 + 8 * q) bytes)) (sym same)
    (text_tree bytes words s q f l a z e, text_begins bytes words s q f l h e)
