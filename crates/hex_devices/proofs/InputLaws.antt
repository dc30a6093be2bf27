-- What was taken, over one read after another.
use Rattle.std.proofs.Common.{◌≡◌, ◌≤◌, ℕ, List, [], ◌++◌, length, take, Option, refl, ap, sym, ◌∙◌}
use Rattle.std.proofs.Common.{subst, append-nil, append_assoc}
use Rattle.hex_io.specs.Told.{Told, Both, TakesBytes, Same}
use Rattle.hex_io.proofs.BothLaws.{Both-then, Both-weaker, Both-refl}
use Rattle.hex_devices.specs.Inputs.{TookBytes, TookAtMost}

pub took_nothing : (a : Option Told) (xs : List ℕ) → xs ≡ [] → Both a a (TookBytes xs)
took_nothing a xs none
    = rw none (Both-refl a (TookBytes []) (λ o. record { moved = refl; taken = sym (append-nil o.taken); given = refl }))

took_then : (xs buf : List ℕ) (n : ℕ) (x y z : Told) → TookBytes xs x y → TakesBytes y z n buf
    → TookBytes (xs ++ take n buf) x z
took_then xs buf n x y z p q = record {
  moved = p.moved ∙ ap (λ l. xs ++ l) q.moved ∙ sym (append_assoc xs (take n buf) z.to_come);
  taken = q.taken ∙ ap (λ l. l ++ take n buf) p.taken ∙ append_assoc x.taken xs (take n buf);
  given = q.given ∙ p.given;
}

-- the end of the input was found
pub took_all : (a b c : Option Told) (xs buf : List ℕ) → Both a b (TookBytes xs)
    → Both b c (λ o t. TakesBytes o t 0 buf) → Both a c (λ o n. TookBytes xs o n × (n.to_come ≡ []))
took_all a b c xs buf p q
    = Both-then a b c _ _ _
    (λ x y z p q. (subst (λ l. TookBytes l x z) (append-nil xs) (took_then xs buf 0 x y z p q), q.at_end refl)) p q

-- a read failed
pub took_before : (a b c : Option Told) (xs : List ℕ) (limit : ℕ) → length xs ≤ limit
    → Both a b (TookBytes xs) → Same b c → Both a c (TookAtMost limit)
took_before a b c xs limit few p same
    = Both-then a b c _ _ _ (λ x y z p q. (xs, few, subst (TookBytes xs x) (sym q) p)) p same

pub took_at_most : (a b : Option Told) (xs : List ℕ) (limit : ℕ) → length xs ≤ limit
    → Both a b (TookBytes xs) → Both a b (TookAtMost limit)
took_at_most a b xs limit few p = Both-weaker a b _ _ (λ x y p. (xs, few, p)) p
