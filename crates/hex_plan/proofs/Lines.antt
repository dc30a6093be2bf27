-- Texts of lists, item by item.
use Rattle.std.proofs.Common.{◌≡◌, ℕ, ◌+◌, ◌<◌, ◌≤◌, Bool, List, [], ◌∷◌, ◌++◌}
use Rattle.std.proofs.Common.{length, drop, get_or, sym, ap, ◌∙◌, append-nil, append_assoc}
use Rattle.std.specs.List.{filter, flat_map, range_with_len}
use Rattle.std.proofs.lemmas.Grind.{flat_map-append}
use Rattle.std.proofs.lemmas.List.{at_drop_more, drop_all}
use Rattle.std.proofs.lemmas.List.Elements.{filter-append}
use Rattle.win_cert.proofs.Joining.{range_more}

-- a loop that writes the text of one item more
pub text_step : {X : Type 0} (f : X → List ℕ) (xs : List X) (i : ℕ) (x : X) (old now new : List ℕ)
    → i < length xs → x ≡ get_or xs i x → now ++ flat_map f (drop i xs) ≡ old
    → new ≡ now ++ f x → new ++ flat_map f (drop (i + 1) xs) ≡ old
text_step f xs i x old now new l e h w =
    ap (λ t. t ++ flat_map f (drop (i + 1) xs)) (w ∙ ap (λ v. now ++ f v) e)
    ∙ append_assoc now (f (get_or xs i x)) (flat_map f (drop (i + 1) xs))
    ∙ ap (λ t. now ++ t) (sym (at_drop_more (flat_map f) xs i x l)) ∙ h

-- at the end of such a loop
pub text_end : {X : Type 0} (f : X → List ℕ) (xs : List X) (i : ℕ) (now old : List ℕ)
    → length xs ≤ i → now ++ flat_map f (drop i xs) ≡ old → now ≡ old
text_end f xs i now old l h = sym (append-nil now)
    ∙ ap (λ t. now ++ flat_map f t) (sym (drop_all i xs l)) ∙ h

-- the text of the numbers below k + 1 that pass
pub numbers_more : (f : ℕ → List ℕ) (test : ℕ → Bool) (k : ℕ) (start text new : List ℕ)
    → text ≡ start ++ flat_map f (filter test (range_with_len 0 k))
    → new ≡ text ++ flat_map f (filter test (k ∷ []))
    → new ≡ start ++ flat_map f (filter test (range_with_len 0 (k + 1)))
numbers_more f test k start text new e more =
    let below = filter test (range_with_len 0 k) in
    let own = filter test (k ∷ []) in
    more ∙ ap (λ t. t ++ flat_map f own) e ∙ append_assoc start (flat_map f below) (flat_map f own)
    ∙ ap (λ t. start ++ t) (sym (flat_map-append f below own))
    ∙ ap (λ xs. start ++ flat_map f xs) (sym (filter-append test (range_with_len 0 k) (k ∷ [])))
    ∙ ap (λ xs. start ++ flat_map f (filter test xs)) (sym (range_more k))
