-- A splitter goes on through a text.
use Rattle.std.proofs.Common.{◌≡◌, ℕ, ◌+◌, ◌<◌, ◌≤◌, Bool, true, false, cond, ltb, leb, List, []}
use Rattle.std.proofs.Common.{◌∷◌, ◌++◌, length, get_or, take, Some, None, refl, ap, sym, ◌∙◌}
use Rattle.std.proofs.Common.{subst, arith, length-append}
use Rattle.std.specs.List.{position_or_len, position}
use Rattle.std.proofs.lemmas.Grind.{common_steps}
use Rattle.std.proofs.lemmas.Bool.{cond-true, false_from_ne_true}
use Rattle.std.proofs.lemmas.Bool.Decides.{nat_tests}
use Rattle.std.proofs.lemmas.List.{take_more, take_all, get_or-take}
use Rattle.std.proofs.lemmas.List.Sums.{fails_before_first, passes_at_first}
use Rattle.std.proofs.lemmas.Option.{cond_some, none-some}
use Rattle.htp_line.specs.Lines.{is_feed, rest}
use Rattle.htp_line.specs.Splitting.{SplitterData, kept_line, grown, so_far, StandsAfter, Advances}
use Rattle.htp_line.proofs.LinesLaws.{NoFeed, whole_more, whole_ended}

grown-kept_if : (b : Bool) (raw more : List ℕ) → leb (length raw) 4096 ≡ b
    → grown (cond b (Some raw) None) more ≡ kept_line (raw ++ more)
grown-kept_if true raw more e = refl
grown-kept_if false raw more e = let len = length-append raw more in grind (arith, nat_tests)

-- what is kept of more is more of what is kept
pub grown-kept : (raw more : List ℕ) → grown (kept_line raw) more ≡ kept_line (raw ++ more)
grown-kept raw more = grown-kept_if (leb (length raw) 4096) raw more refl

-- more of the line came
pub goes_on : (h new : SplitterData) (seen q : List ℕ) → StandsAfter h seen
    → new ≡ record { line = grown (so_far h) q; ended = false } → NoFeed q → Advances new seen q
goes_on h new seen q stands e none =
    let more = whole_more seen q none in
    rw e (record {
      stands = ap (λ o. grown o q) stands ∙ grown-kept (rest seen) q ∙ ap kept_line (sym more.1);
      ended = more.0;
    })

-- the line ended
pub goes_past : (h new : SplitterData) (seen q : List ℕ) → StandsAfter h seen
    → new ≡ record { line = grown (so_far h) q; ended = true } → NoFeed q
    → Advances new seen (q ++ 10 ∷ [])
goes_past h new seen q stands e none =
    let more = whole_ended seen q none in
    rw e (record {
      stands = ap kept_line (sym more.1);
      ended = (rest seen ++ q, more.0, ap (λ o. grown o q) stands ∙ grown-kept (rest seen) q);
    })

no_feed_before : (piece : List ℕ) (n : ℕ) → n ≤ position_or_len is_feed piece
    → NoFeed (take n piece)
no_feed_before piece n below = λ k d h. let b : k < n = grind (arith, common_steps) in
    let f = fails_before_first is_feed piece k d (omega arith) in rw (get_or-take n piece k d b) f

pub no_feed : (piece : List ℕ) → position is_feed piece ≡ None → NoFeed piece
no_feed piece e =
    let i : ℕ = position_or_len is_feed piece in
    let far : ltb i (length piece) ≡ false
    = false_from_ne_true (ltb i (length piece))
    (λ t. none-some i (sym e ∙ cond-true (ltb i (length piece)) (Some i) None t)) in
    let past : length piece ≤ position_or_len is_feed piece = grind (arith, nat_tests) in
    subst NoFeed (take_all (length piece) piece (omega arith))
    (no_feed_before piece (length piece) past)

pub feed_at : (piece : List ℕ) (i : ℕ) → position is_feed piece ≡ Some i
    → NoFeed (take i piece) × (take (i + 1) piece ≡ take i piece ++ 10 ∷ [])
feed_at piece i e =
    let found = cond_some (ltb (position_or_len is_feed piece) (length piece))
    (position_or_len is_feed piece) i e in
    let same : position_or_len is_feed piece ≡ i = found.1 in
    let within : position_or_len is_feed piece < length piece = grind (arith, nat_tests) in
    let passes = passes_at_first is_feed piece 0 within in
    let byte : get_or piece i 0 ≡ 10 = grind (arith, nat_tests) in
    (no_feed_before piece i (omega arith), take_more piece i 0 (omega arith) ∙ ap (λ b. take i piece ++ b ∷ []) byte)
