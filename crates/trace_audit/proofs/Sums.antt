-- Counts of playouts: sums of them, and words that hold them.
use Rattle.std.proofs.Common.{◌≡◌, ℕ, zero, suc, ◌+◌, ◌*◌, ◌/◌, ◌%◌, ◌<◌, ◌^◌, Bool, true, false}
use Rattle.std.proofs.Common.{cond, List, refl, sym, ap, ◌∙◌, arith}
use Rattle.std.specs.Prelude.{◌&&◌}
use Rattle.hex_cells.specs.Colours.{is_same, other_of}
use Rattle.hex_cells.specs.declared.colours.Colour.{Colour}
use Rattle.hex_cells.specs.declared.colours.Colour.TheVariants.{Black, White}
use Rattle.tree_words.specs.Settings.{Setting}
use Rattle.tree_words.specs.Words.{Count, count_in}
use Rattle.tree_words.specs.Blocks.{LinkedBlock, one_if}
use Rattle.tree_words.specs.Records.{outcome_in}
use Rattle.tree_words.specs.Walks.{nothing, plus}
use Rattle.tree_words.specs.Sequence.{one, amount_of}
use Rattle.tree_words.specs.Counts.{count_below}
use Rattle.tree_words.proofs.Walks.Tallies.{count-same, count-most, more_visits}
use Rattle.trace_audit.specs.Gains.{turned_word}
use Rattle.trace_audit.specs.Sums.{tally_of}

-- a test that passes if just one of two passes
pub count_sum : (n : ℕ) (f g h : ℕ → Bool)
    → ((k : ℕ) → k < n → one_if (h k) ≡ one_if (f k) + one_if (g k))
    → count_below n h ≡ count_below n f + count_below n g
count_sum zero f g h e = omega arith
count_sum (suc n) f g h e
    = omega (arith, count_sum n f g h (λ k l. e k (omega (arith, l))), e n (omega arith))

pub and_sum : (h f g w : Bool) → one_if h ≡ one_if f + one_if g
    → one_if (h && w) ≡ one_if (f && w) + one_if (g && w)
and_sum true true true w e = omega (arith, e)
and_sum true true false true e = omega arith
and_sum true true false false e = omega arith
and_sum true false true true e = omega arith
and_sum true false true false e = omega arith
and_sum true false false w e = omega (arith, e)
and_sum false true true w e = omega (arith, e)
and_sum false true false w e = omega (arith, e)
and_sum false false true w e = omega (arith, e)
and_sum false false false w e = omega arith

-- the word of a count
abbrev pub word_of : Count → ℕ
word_of c = 2 ^ 32 * c.visits + c.wins

-- few enough for a word
pub record IsSmall (c : Count) : Type 0 where
  pub visits : c.visits < 2 ^ 31
  pub wins : c.wins < 2 ^ 31

pub count_plus : (w : ℕ) (c a d : Count) → count_in w ≡ c → d ≡ plus c a → IsSmall d
    → count_in (w + word_of a) ≡ d
count_plus w c a d e f small =
    let v : w / 2 ^ 32 ≡ c.visits = ap (λ (x : Count). x.visits) e in
    let n : w % 2 ^ 32 ≡ c.wins = ap (λ (x : Count). x.wins) e in
    let fv : d.visits ≡ c.visits + a.visits = ap (λ (x : Count). x.visits) f in
    let fn : d.wins ≡ c.wins + a.wins = ap (λ (x : Count). x.wins) f in
    let sw = small.wins in
    let visits : (w + (2 ^ 32 * a.visits + a.wins)) / 2 ^ 32 ≡ d.visits
    = omega (arith, v, n, fv, fn, sw) in
    let wins : (w + (2 ^ 32 * a.visits + a.wins)) % 2 ^ 32 ≡ d.wins
    = omega (arith, v, n, fv, fn, sw) in
    λ i. record { visits = visits i; wins = wins i }

pub word_fits : (w : ℕ) (c a d : Count) → count_in w ≡ c → d ≡ plus c a → IsSmall d
    → w + word_of a < 2 ^ 63
word_fits w c a d e f small =
    let v : w / 2 ^ 32 ≡ c.visits = ap (λ (x : Count). x.visits) e in
    let n : w % 2 ^ 32 ≡ c.wins = ap (λ (x : Count). x.wins) e in
    let fv : d.visits ≡ c.visits + a.visits = ap (λ (x : Count). x.visits) f in
    let fn : d.wins ≡ c.wins + a.wins = ap (λ (x : Count). x.wins) f in
    let sv = small.visits in
    let sw = small.wins in
    omega (arith, v, n, fv, fn, sv, sw)

pub word_small : (w : ℕ) (c : Count) → count_in w ≡ c → IsSmall c → w < 2 ^ 63
word_small w c e small =
    let v : w / 2 ^ 32 ≡ c.visits = ap (λ (x : Count). x.visits) e in
    let n : w % 2 ^ 32 ≡ c.wins = ap (λ (x : Count). x.wins) e in
    let sv = small.visits in
    let sw = small.wins in
    omega (arith, v, n, sv, sw)

pub one_word : (t : Bool) → amount_of t ≡ word_of (one t)
one_word true = refl
one_word false = refl

-- the wins of the other player
pub turned_count : (w : ℕ) (c d : Count) → count_in w ≡ c → d.visits ≡ c.visits
    → c.visits ≡ c.wins + d.wins → turned_word w ≡ word_of d
turned_count w c d e f h =
    let v : w / 2 ^ 32 ≡ c.visits = ap (λ (x : Count). x.visits) e in
    let n : w % 2 ^ 32 ≡ c.wins = ap (λ (x : Count). x.wins) e in
    omega (arith, v, n, f, h)

pub won_once : (t : Bool) (w c : Colour)
    → one_if t ≡ one_if (t && is_same w c) + one_if (t && is_same w (other_of c))
won_once true Black Black = refl
won_once true Black White = refl
won_once true White Black = refl
won_once true White White = refl
won_once false w c = refl

module _ (s : Setting) (bs : List LinkedBlock) (words : List ℕ) (n : ℕ) where
  pub tally_small : (f : ℕ → Bool) (c : Colour) → n < 2 ^ 31 → IsSmall (tally_of s bs words n f c)
  tally_small f c l = record {
    visits = omega (arith, count-most n f, l);
    wins = omega (arith, count-most n (λ k. f k && is_same (outcome_in s bs words k).winner c), l);
  }

  pub tally_same : (f g : ℕ → Bool) (c d : Colour) → ((k : ℕ) → k < n → f k ≡ g k) → c ≡ d
      → tally_of s bs words n f c ≡ tally_of s bs words n g d
  tally_same f g c d e same = λ i. record {
    visits = count-same n f g e i;
    wins = count-same n (λ k. f k && is_same (outcome_in s bs words k).winner c)
        (λ k. g k && is_same (outcome_in s bs words k).winner d)
        (λ k l j. e k l j && is_same (outcome_in s bs words k).winner (same j)) i;
  }

  pub tally_sum : (f g h : ℕ → Bool) (c : Colour)
      → ((k : ℕ) → k < n → one_if (h k) ≡ one_if (f k) + one_if (g k))
      → tally_of s bs words n h c ≡ plus (tally_of s bs words n f c) (tally_of s bs words n g c)
  tally_sum f g h c e = λ i. record {
    visits = count_sum n f g h e i;
    wins = count_sum n (λ k. f k && is_same (outcome_in s bs words k).winner c)
        (λ k. g k && is_same (outcome_in s bs words k).winner c)
        (λ k. h k && is_same (outcome_in s bs words k).winner c)
        (λ k l. and_sum (h k) (f k) (g k) (is_same (outcome_in s bs words k).winner c) (e k l)) i;
  }

  -- the other player has won the others
  pub tally_turned : (w : ℕ) (f : ℕ → Bool) (c d : Colour) → d ≡ other_of c
      → count_in w ≡ tally_of s bs words n f c → turned_word w ≡ word_of (tally_of s bs words n f d)
  tally_turned w f c d o e
      = turned_count w (tally_of s bs words n f c) (tally_of s bs words n f d) e refl
      (count_sum n (λ k. f k && is_same (outcome_in s bs words k).winner c) (λ k. f k && is_same (outcome_in s bs words k).winner d) f
      (λ k l. won_once (f k) (outcome_in s bs words k).winner c
      ∙ (λ j. one_if (f k && is_same (outcome_in s bs words k).winner c) + one_if (f k && is_same (outcome_in s bs words k).winner (sym o j)))))

-- one playout more
pub tally_next : (s : Setting) (bs : List LinkedBlock) (words : List ℕ) (n : ℕ) (f : ℕ → Bool)
    (c : Colour) → tally_of s bs words (suc n) f c ≡ plus (tally_of s bs words n f c)
    (cond (f n) (one (is_same (outcome_in s bs words n).winner c)) nothing)
tally_next s bs words n f c = more_visits (f n) (is_same (outcome_in s bs words n).winner c)
    (tally_of s bs words n f c)
