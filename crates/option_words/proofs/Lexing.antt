-- What a word looks like to a parse.
use Rattle.std.proofs.lemmas.Bool.{eqb-true, or_parts}
use Rattle.std.proofs.Common.{◌≡◌, ◌≢◌, ◌∙◌, ◌||◌, ◌==◌, ◌+◌, ℕ, Bool, true, false, refl, sym, ap}
use Rattle.std.proofs.Common.{ap₂, subst, [], ◌∷◌, ◌++◌, drop, take, suc, Some, None, true≢false}
use Rattle.std.proofs.Common.{arith}
use Rattle.std.specs.Prelude.{slice_get}
use Rattle.std.specs.List.{after_first, before_first, position_or_len}
use Rattle.std.specs.Str.{IsUtf8, bytes_eq, chars}
use Rattle.std.proofs.lemmas.Str.{IsUtf8-drop, IsCharBoundary-after_ascii, chars-encodes}
use Rattle.clap.specs.Lexer.{has_byte, long_of, name_and_value, short_of}
use Rattle.clap.specs.Walk.{Text as TextBytes}
use Rattle.option_words.specs.Grammar.{begins_with_hyphen}
use Rattle.option_words.proofs.Steps.{dashes}

-- what a word can be, if it is text and no hyphen alone
pub data Class (w : TextBytes) : Type 0 where
  is_dashes : w ≡ dashes → bytes_eq w dashes ≡ true → Class w
  is_joined : (name v : TextBytes) → w ≡ dashes ++ (name ++ (61 ∷ v)) → bytes_eq w dashes ≡ false
      → long_of w ≡ Some (name, Some v) → Class w
  is_named : (name : TextBytes) → w ≡ dashes ++ name → bytes_eq w dashes ≡ false
      → long_of w ≡ Some (name, None) → Class w
  is_short : (y x : ℕ) (ys : TextBytes) → bytes_eq w dashes ≡ false → long_of w ≡ None
      → short_of w ≡ Some (y ∷ ys) → slice_get (chars (y ∷ ys)) 0 ≡ Some x → Class w
  is_plain : begins_with_hyphen w ≡ false → Class w

-- ---- cutting at `=`

take_one_more : (n x : ℕ) (xs : TextBytes) → take (1 + n) (x ∷ xs) ≡ x ∷ take n xs
take_one_more n x xs = let e : 1 + n ≡ suc n = omega arith in rw e refl

drop_one_more : (n x : ℕ) (xs : TextBytes) → drop (1 + n + 1) (x ∷ xs) ≡ drop (n + 1) xs
drop_one_more n x xs = let e : 1 + n + 1 ≡ suc (n + 1) = omega arith in rw e refl

-- if the first byte is not the one looked for
before_next : (x : ℕ) (xs : TextBytes) → (x == 61) ≡ false
    → before_first (λ y. y == 61) (x ∷ xs) ≡ x ∷ before_first (λ y. y == 61) xs
before_next x xs e = rw e (take_one_more (position_or_len (λ y. y == 61) xs) x xs)

after_next : (x : ℕ) (xs : TextBytes) → (x == 61) ≡ false
    → after_first (λ y. y == 61) (x ∷ xs) ≡ after_first (λ y. y == 61) xs
after_next x xs e = rw e (drop_one_more (position_or_len (λ y. y == 61) xs) x xs)

pub before_at : (xs ys : TextBytes) → has_byte 61 xs ≡ false
    → before_first (λ x. x == 61) (xs ++ (61 ∷ ys)) ≡ xs
before_at [] ys h = refl
before_at (x ∷ xs) ys h =
    let p = or_parts (x == 61) (has_byte 61 xs) h in before_next x (xs ++ (61 ∷ ys)) p.0
    ∙ ap (λ (zs : TextBytes). x ∷ zs) (before_at xs ys p.1)

pub after_at : (xs ys : TextBytes) → has_byte 61 xs ≡ false
    → after_first (λ x. x == 61) (xs ++ (61 ∷ ys)) ≡ ys
after_at [] ys h = refl
after_at (x ∷ xs) ys h = let p = or_parts (x == 61) (has_byte 61 xs) h in
    after_next x (xs ++ (61 ∷ ys)) p.0 ∙ after_at xs ys p.1

pub before_none : (xs : TextBytes) → has_byte 61 xs ≡ false → before_first (λ x. x == 61) xs ≡ xs
before_none [] h = refl
before_none (x ∷ xs) h =
    let p = or_parts (x == 61) (has_byte 61 xs) h in before_next x xs p.0
    ∙ ap (λ (zs : TextBytes). x ∷ zs) (before_none xs p.1)

has_at : (xs ys : TextBytes) → has_byte 61 (xs ++ (61 ∷ ys)) ≡ true
has_at [] ys = refl
has_at (x ∷ xs) ys = let rest = has_at xs ys in
    elim (x == 61) as
    (λ b. (b || has_byte 61 (xs ++ (61 ∷ ys))) ≡ true) [ true ↦ refl | false ↦ rest ]

pub split_at_equals : (xs : TextBytes) → has_byte 61 xs ≡ true
    → xs ≡ before_first (λ x. x == 61) xs ++ (61 ∷ after_first (λ x. x == 61) xs)
split_at_equals [] h = absurd (true≢false (sym h))
split_at_equals (x ∷ xs) h = go (x == 61) refl h (λ rest. split_at_equals xs rest)
  where
    go : (b : Bool) → (x == 61) ≡ b → (b || has_byte 61 xs) ≡ true
        → (has_byte 61 xs ≡ true → xs ≡ before_first (λ y. y == 61) xs ++ (61 ∷ after_first (λ y. y == 61) xs))
        → x ∷ xs ≡ before_first (λ y. y == 61)
        (x ∷ xs) ++ (61 ∷ after_first (λ y. y == 61) (x ∷ xs))
    go true e f rest = let same = eqb-true x 61 e in rw e (ap (λ n. n ∷ xs) same)
    go false e f rest =
        ap (λ (zs : TextBytes). x ∷ zs) (rest f)
        ∙ sym (ap₂ (λ (front back : TextBytes). front ++ (61 ∷ back)) (before_next x xs e) (after_next x xs e))

pub name_and_value_at : (xs ys : TextBytes) → has_byte 61 xs ≡ false
    → name_and_value (xs ++ (61 ∷ ys)) ≡ (xs, Some ys)
name_and_value_at xs ys h = rw (before_at xs ys h, has_at xs ys, after_at xs ys h) refl

pub name_and_value_none : (xs : TextBytes) → has_byte 61 xs ≡ false → name_and_value xs ≡ (xs, None)
name_and_value_none xs h = rw (before_none xs h, h) refl

-- ---- plain words

pub plain_facts : (w : TextBytes) → begins_with_hyphen w ≡ false → (bytes_eq w dashes ≡ false)
    × (long_of w ≡ None) × (short_of w ≡ None)
plain_facts [] h = (refl, refl, refl)
plain_facts (x ∷ xs) h = (rw h refl, rw h refl, rw h refl)

-- ---- the classes

first_char : (y : ℕ) (ys : TextBytes) → IsUtf8 (y ∷ ys)
    → (x : ℕ) × (slice_get (chars (y ∷ ys)) 0 ≡ Some x)
first_char y ys ([], p) = absurd (none p.1)
  where
    none : [] ≡ y ∷ ys → ⊥
    none e = cc
first_char y ys (x ∷ cs, p) =
    (x, ap (λ (ws : TextBytes). slice_get ws 0) (ap chars (sym p.1) ∙ chars-encodes (x ∷ cs) p.0))

tail_text : (y : ℕ) (ys : TextBytes) → IsUtf8 (45 ∷ y ∷ ys) → IsUtf8 (y ∷ ys)
tail_text y ys u
    = IsUtf8-drop (45 ∷ y ∷ ys) 1 u
    (IsCharBoundary-after_ascii (45 ∷ y ∷ ys) 0 u (omega arith) (omega arith))

long_class : (z : ℕ) (zs : TextBytes) → (b : Bool) → has_byte 61 (z ∷ zs) ≡ b
    → Class (45 ∷ 45 ∷ z ∷ zs)
long_class z zs true h = is_joined (before_first (λ x. x == 61) (z ∷ zs))
    (after_first (λ x. x == 61) (z ∷ zs))
    (ap (λ (ws : TextBytes). 45 ∷ 45 ∷ ws) (split_at_equals (z ∷ zs) h)) refl (rw h refl)
long_class z zs false h
    = is_named (z ∷ zs) refl refl (ap (λ p. Some p) (name_and_value_none (z ∷ zs) h))

hyphens_class : (ys : TextBytes) → Class (45 ∷ 45 ∷ ys)
hyphens_class [] = is_dashes refl refl
hyphens_class (z ∷ zs) = long_class z zs (has_byte 61 (z ∷ zs)) refl

hyphen_class : (y : ℕ) (ys : TextBytes) → IsUtf8 (45 ∷ y ∷ ys) → (b : Bool) → (y == 45) ≡ b
    → Class (45 ∷ y ∷ ys)
hyphen_class y ys u true e = subst (λ (n : ℕ). Class (45 ∷ n ∷ ys)) (sym (eqb-true y 45 e))
    (hyphens_class ys)
hyphen_class y ys u false e =
    let first = first_char y ys (tail_text y ys u) in is_short y first.0 ys (rw e refl) (rw e refl)
    (rw e refl) first.1

word_class : (x : ℕ) (xs : TextBytes) → IsUtf8 (x ∷ xs) → x ∷ xs ≢ 45 ∷ [] → (b : Bool)
    → (x == 45) ≡ b → Class (x ∷ xs)
word_class x xs u other false e = is_plain e
word_class x [] u other true e = absurd (other (ap (λ n. n ∷ []) (eqb-true x 45 e)))
word_class x (y ∷ ys) u other true e =
    let same = eqb-true x 45 e in
    subst (λ (n : ℕ). Class (n ∷ y ∷ ys)) (sym same)
    (hyphen_class y ys (subst (λ (n : ℕ). IsUtf8 (n ∷ y ∷ ys)) same u) (y == 45) refl)

pub classify : (w : TextBytes) → IsUtf8 w → w ≢ 45 ∷ [] → Class w
classify [] u other = is_plain refl
classify (x ∷ xs) u other = word_class x xs u other (x == 45) refl
