-- What the header of a text says, and that it tells one shape.
use Rattle.std.proofs.Common.{◌≡◌, ℕ, zero, suc, ◌<◌, ◌^◌, List, [], ◌∷◌, ◌++◌, length, take, refl}
use Rattle.std.proofs.Common.{sym, ap, ◌∙◌, arith, append_assoc, get_or}
use Rattle.std.specs.Prelude.{slice_index, codes}
use Rattle.std.proofs.lemmas.List.{append_cancel_left}
use Rattle.hex_cells.specs.declared.colours.Colour.{Colour}
use Rattle.hex_cells.specs.declared.colours.Colour.TheVariants.{Black, White}
use Rattle.tree_words.specs.Settings.{Setting, IsSetting}
use Rattle.tree_words.specs.Closing.{ClosedTree}
use Rattle.trace_audit.specs.Traces.{bytes_of, fields_of, written_count, low_word, high_word}
use Rattle.trace_audit.specs.Traces.{colour_number}
use Rattle.trace_audit.specs.Told.{AreWords}
use Rattle.trace_audit.specs.Fields.{AreOfSet, TellShape}
use Rattle.trace_audit.specs.Texts.{BeginWith}
use Rattle.trace_audit.specs.Verdicts.{BeginsWithTree}
use Rattle.trace_audit.proofs.WordBytes.{words_same}
use Rattle.trace_audit.proofs.FieldLaws.{on_small, allowed_small}

-- the header of a text
abbrev pub begins_front : (t : ClosedTree) (bytes : List ℕ) → BeginsWithTree t bytes
    → BeginWith bytes (fields_of t.shape (written_count t.words))
begins_front t bytes b =
    let q : ℕ = written_count t.words in
    let fs : List ℕ = bytes_of (fields_of t.shape q) in
    let ws : List ℕ = bytes_of (take q t.words) in
    (ws ++ b.rest, b.text ∙ append_assoc (codes "HEXTREE1") (fs ++ ws) b.rest ∙ ap (λ l. codes "HEXTREE1" ++ l) (append_assoc fs ws b.rest))

-- bytes begin with one list of fields
pub front_one : (bytes f g : List ℕ) → AreWords f → AreWords g → length f ≡ length g
    → BeginWith bytes f → BeginWith bytes g → f ≡ g
front_one bytes f g a b l x y
    = words_same f g x.0 y.0 a b l
    (append_cancel_left (codes "HEXTREE1") (bytes_of f ++ x.0) (bytes_of g ++ y.0) (sym x.1 ∙ y.1))

low_fits : (set : ℕ) → low_word set < 2 ^ 64
low_fits set = omega arith

high_fits : (set : ℕ) → set < 2 ^ 121 → high_word set < 2 ^ 64
high_fits set l = omega (arith, l)

colour_fits : (c : Colour) → colour_number c < 2 ^ 64
colour_fits Black = omega arith
colour_fits White = omega arith

-- the fields are 64-bit numbers
pub fields_words : (s : Setting) (q : ℕ) → IsSetting s → q < 2 ^ 64 → AreWords (fields_of s q)
fields_words s q h l zero = omega (arith, h.position.most)
fields_words s q h l (suc zero) = low_fits s.board.black
fields_words s q h l (suc (suc zero))
    = high_fits s.board.black
    (on_small s.board.size s.board.black h.position.most h.position.black_on)
fields_words s q h l (suc (suc (suc zero))) = low_fits s.board.white
fields_words s q h l (suc (suc (suc (suc zero))))
    = high_fits s.board.white
    (on_small s.board.size s.board.white h.position.most h.position.white_on)
fields_words s q h l (suc (suc (suc (suc (suc zero))))) = colour_fits s.player
fields_words s q h l (suc (suc (suc (suc (suc (suc zero)))))) = low_fits s.allowed
fields_words s q h l (suc (suc (suc (suc (suc (suc (suc zero)))))))
    = high_fits s.allowed (allowed_small s h)
fields_words s q h l (suc (suc (suc (suc (suc (suc (suc (suc zero))))))))
    = omega (arith, h.ranges.workers)
fields_words s q h l (suc (suc (suc (suc (suc (suc (suc (suc (suc zero)))))))))
    = omega (arith, h.ranges.playouts)
fields_words s q h l (suc (suc (suc (suc (suc (suc (suc (suc (suc (suc zero))))))))))
    = h.ranges.seed
fields_words s q h l (suc (suc (suc (suc (suc (suc (suc (suc (suc (suc (suc zero)))))))))))
    = omega (arith, h.ranges.words)
fields_words s q h l (suc (suc (suc (suc (suc (suc (suc (suc (suc (suc (suc (suc zero))))))))))))
    = omega (arith, h.ranges.expand)
fields_words s q h l
    (suc (suc (suc (suc (suc (suc (suc (suc (suc (suc (suc (suc (suc zero)))))))))))))
    = omega (arith, h.ranges.weight)
fields_words s q h l
    (suc (suc (suc (suc (suc (suc (suc (suc (suc (suc (suc (suc (suc (suc zero)))))))))))))) = l
fields_words s q h l
    (suc (suc (suc (suc (suc (suc (suc (suc (suc (suc (suc (suc (suc (suc (suc i)))))))))))))))
    = omega arith

-- fields tell their shape
pub fields_tell : (s : Setting) (q : ℕ) → TellShape (fields_of s q) s
fields_tell s q = record {
  board = record { size = refl; black = (refl, refl); white = (refl, refl) };
  player = refl;
  allowed = (refl, refl);
  knobs = record { workers = refl; playouts = refl; seed = refl; words = refl; expand = refl; weight = refl };
}

set_same : (a b low high : ℕ) → AreOfSet low high a → AreOfSet low high b → a ≡ b
set_same a b low high x y = omega (arith, x.0, x.1, y.0, y.1)

colour_same : (a b : Colour) (n : ℕ) → n ≡ colour_number a → n ≡ colour_number b → a ≡ b
colour_same Black Black n e f = refl
colour_same Black White n e f = absurd (omega (arith, e, f))
colour_same White Black n e f = absurd (omega (arith, e, f))
colour_same White White n e f = refl

-- fields tell one shape
pub shape_one : (fields : List ℕ) (s u : Setting) → TellShape fields s → TellShape fields u → s ≡ u
shape_one fields s u a b =
    let size : s.board.size ≡ u.board.size = sym a.board.size ∙ b.board.size in
    let black : s.board.black ≡ u.board.black
    = set_same s.board.black u.board.black _ _ a.board.black b.board.black in
    let white : s.board.white ≡ u.board.white
    = set_same s.board.white u.board.white _ _ a.board.white b.board.white in
    let player : s.player ≡ u.player = colour_same s.player u.player _ a.player b.player in
    let allowed : s.allowed ≡ u.allowed = set_same s.allowed u.allowed _ _ a.allowed b.allowed in
    let workers : s.knobs.workers ≡ u.knobs.workers = sym a.knobs.workers ∙ b.knobs.workers in
    let playouts : s.knobs.playouts ≡ u.knobs.playouts = sym a.knobs.playouts ∙ b.knobs.playouts in
    let seed : s.knobs.seed ≡ u.knobs.seed = sym a.knobs.seed ∙ b.knobs.seed in
    let words : s.knobs.words ≡ u.knobs.words = sym a.knobs.words ∙ b.knobs.words in
    let expand : s.knobs.expand ≡ u.knobs.expand = sym a.knobs.expand ∙ b.knobs.expand in
    let weight : s.knobs.weight ≡ u.knobs.weight = sym a.knobs.weight ∙ b.knobs.weight in
    λ i. record {
      board = record { size = size i; black = black i; white = white i };
      player = player i;
      allowed = allowed i;
      knobs = record { workers = workers i; playouts = playouts i; seed = seed i; words = words i; expand = expand i; weight = weight i };
    }

-- the list of so many numbers
nth_list : ℕ → ℕ → List ℕ → List ℕ
nth_list zero i xs = []
nth_list (suc n) i xs = get_or xs i 0 ∷ nth_list n (suc i) xs

nth_cons : (n i x : ℕ) (xs : List ℕ) → nth_list n (suc i) (x ∷ xs) ≡ nth_list n i xs
unfolding nth_list
nth_cons zero i x xs = refl
nth_cons (suc n) i x xs = ap (λ l. get_or xs i 0 ∷ l) (nth_cons n (suc i) x xs)

nth_all : (xs : List ℕ) → nth_list (length xs) 0 xs ≡ xs
unfolding nth_list
nth_all [] = refl
nth_all (x ∷ xs) = ap (λ l. x ∷ l) (nth_cons (length xs) 0 x xs ∙ nth_all xs)

-- fields that tell a shape are its fields
pub told_fields : (fields : List ℕ) (s : Setting) → length fields ≡ 15 → TellShape fields s
    → fields ≡ fields_of s (slice_index fields 14)
unfolding nth_list
told_fields fields s l t =
    let all : nth_list 15 0 fields ≡ fields = ap (λ n. nth_list n 0 fields) (sym l)
    ∙ nth_all fields in
    sym all ∙ (λ i.
    t.board.size i ∷ t.board.black.0 i ∷ t.board.black.1 i ∷ t.board.white.0 i ∷ t.board.white.1 i
    ∷ t.player i ∷ t.allowed.0 i ∷ t.allowed.1 i
    ∷ t.knobs.workers i ∷ t.knobs.playouts i ∷ t.knobs.seed i ∷ t.knobs.words i ∷ t.knobs.expand i ∷ t.knobs.weight i
    ∷ slice_index fields 14 ∷ [])
