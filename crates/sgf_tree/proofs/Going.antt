-- One more byte of all the bytes.
use Rattle.std.proofs.Common.{◌≡◌, ℕ, ◌+◌, ◌<◌, ◌≤◌, refl, ap, ◌∙◌, subst, List, [], ◌∷◌, length}
use Rattle.std.proofs.Common.{get_or, take, Option, Some, None, arith}
use Rattle.std.proofs.lemmas.List.{take_more}
use Rattle.sgf_tree.specs.Printing.{max_depth}
use Rattle.sgf_tree.specs.Reading.{State, step, run_on, run, begin, open_of, deepest_of}
use Rattle.sgf_tree.specs.ReadingStates.{IsShallow, OpensTooMany}
use Rattle.sgf_tree.specs.Verdict.{GoesTo}
use Rattle.sgf_tree.proofs.Depths.{Grows, grows, open_le_deepest}
use Rattle.sgf_tree.proofs.Verdicts.{run_on-append}

run_on-none : (next : Option State) → run_on next [] ≡ next
run_on-none None = refl
run_on-none (Some s) = refl

pub run_more : (bytes : List ℕ) (at d : ℕ) (s : State) → at < length bytes
    → run begin (take at bytes) ≡ Some s
    → run begin (take (at + 1) bytes) ≡ step s (get_or bytes at d)
run_more bytes at d s within e =
    let x = get_or bytes at d in
    ap (run begin) (take_more bytes at d within)
    ∙ run_on-append (take at bytes) (x ∷ []) (Some begin) s e ∙ run_on-none (step s x)

too_many : (next : Option State) → OpensTooMany next → (t : State) × (next ≡ Some t)
    × (max_depth < length (open_of t).outer)
too_many None never = absurd never
too_many (Some t) many = (t, refl, many)

-- the byte opens a tree too many
pub too_many_at : (bytes : List ℕ) (at d : ℕ) (s : State) → at < length bytes
    → GoesTo (take at bytes) s → OpensTooMany (step s (get_or bytes at d))
    → (n : ℕ) × (t : State) × (run begin (take n bytes) ≡ Some t)
    × (max_depth < length (open_of t).outer)
too_many_at bytes at d s within goes many =
    let found = too_many (step s (get_or bytes at d)) many in
    (at + 1, found.0, run_more bytes at d s within goes.0 ∙ found.1, found.2)

-- the byte is read
pub goes_on : (bytes : List ℕ) (at d : ℕ) (s t : State) → at < length bytes
    → GoesTo (take at bytes) s → step s (get_or bytes at d) ≡ Some t
    → (IsShallow (open_of s) → IsShallow (open_of t)) → GoesTo (take (at + 1) bytes) t
goes_on bytes at d s t within goes e keeps =
    let grown : Grows (open_of s).outer (open_of s).kids (Some t) =
    subst (Grows (open_of s).outer (open_of s).kids) e (grows s (get_or bytes at d)) in
    let low : deepest_of s ≤ max_depth = goes.1 in
    let below : IsShallow (open_of s)
    = omega (arith, open_le_deepest (open_of s).outer (open_of s).kids) in
    let kept : IsShallow (open_of t) = keeps below in
    (run_more bytes at d s within goes.0 ∙ e, omega arith)
