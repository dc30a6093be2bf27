-- From where the reader stops to what the grammar says of the bytes.
use Rattle.std.proofs.Common.{◌≡◌, ℕ, zero, suc, ◌<◌, ◌≤◌, max, refl, sym, ap, ◌∙◌, subst, List, []}
use Rattle.std.proofs.Common.{◌∷◌, ◌++◌, length, take, drop, append_assoc, length-append}
use Rattle.std.proofs.Common.{length-take, length-drop, inl, inr, ◌⊎◌, Option, Some, None, arith}
use Rattle.std.proofs.Math.Seq.{take-append_seam}
use Rattle.std.proofs.lemmas.Bool.{cases_order}
use Rattle.std.proofs.lemmas.List.{take-append-drop}
use Rattle.sgf_tree.specs.Trees.{GameTrees, depth}
use Rattle.sgf_tree.specs.Grammar.{HasTree, Text}
use Rattle.sgf_tree.specs.Printing.{max_depth}
use Rattle.sgf_tree.specs.Places.{Begins, IsLongest, IsDeep, IsTooDeep, IsRefusedAt}
use Rattle.sgf_tree.specs.Reading.{State, between, opened, in_node, in_name, after_name, in_value}
use Rattle.sgf_tree.specs.Reading.{escaped, after_value, step, run_on, run, begin, open_of}
use Rattle.sgf_tree.specs.Reading.{deepest_of}
use Rattle.sgf_tree.specs.Verdict.{IsFinal, IsStuckAt, GoesTo}
use Rattle.sgf_tree.proofs.Choices.{append_nil}
use Rattle.sgf_tree.proofs.Forward.{text_runs, finished}
use Rattle.sgf_tree.proofs.Backward.{run_text}
use Rattle.sgf_tree.proofs.Depths.{run_up_to, open_le_deepest}
use Rattle.sgf_tree.proofs.Completion.{run_fine, ends}

pub run_on-append : (p q : List ℕ) (next : Option State) (s : State) → run_on next p ≡ Some s
    → run_on next (p ++ q) ≡ run s q
run_on-append [] q None s e = cc
run_on-append [] q (Some t) s e = ap (λ any. run_on any q) e
run_on-append (x ∷ p) q None s e = cc
run_on-append (x ∷ p) q (Some t) s e = run_on-append p q (step t x) s e

-- The bytes are the text of one collection at most.
pub one_collection : (a b : GameTrees) (bytes : List ℕ) → Text a bytes → Text b bytes → a ≡ b
one_collection a b bytes x y =
    let ends_so : Some (finished a) ≡ Some (finished b) = sym (text_runs a bytes x)
    ∙ text_runs b bytes y in
    let same : finished a ≡ finished b = cc in
    ap (λ s. (open_of s).kids) same

-- what the reader goes over begins a text, and one that is no deeper than what was open
pub begins_shallow : (p : List ℕ) (s : State) → run begin p ≡ Some s
    → (trees : GameTrees) × (rest : List ℕ) × Text trees (p ++ rest)
    × (depth trees ≤ max 1 (deepest_of s))
begins_shallow p s e =
    let done = ends s (run_fine p (Some begin) s tt e) in
    (done.1.kids, done.0, run_text done.1 (p ++ done.0) (run_on-append p done.0 (Some begin) s e ∙ done.2) done.3 done.4, done.5)

-- no text goes on with a byte that can't stand there
pub refuses : (p : List ℕ) (x : ℕ) (rest : List ℕ) (s : State) (trees : GameTrees)
    → run begin p ≡ Some s → step s x ≡ None → Text trees (p ++ x ∷ rest) → ⊥
refuses p x rest s trees e stops text =
    let here : run_on (step s x) rest ≡ Some (finished trees) =
    sym (run_on-append p (x ∷ rest) (Some begin) s e) ∙ text_runs trees (p ++ x ∷ rest) text in
    let nothing : None ≡ Some (finished trees) = ap (λ next. run_on next rest) (sym stops) ∙ here in
    cc

beyond : (p : List ℕ) (x : ℕ) (q : List ℕ) (m : ℕ) → length p < m
    → (more : List ℕ) × (take m (p ++ x ∷ q) ≡ p ++ x ∷ more)
beyond p x q zero h = absurd (omega arith)
beyond [] x q (suc m) h = (take m q, refl)
beyond (y ∷ p) x q (suc m) h =
    let inner = beyond p x q m (omega arith) in
    (inner.0, ap (λ ys. y ∷ ys) inner.1)

pub longest_of : (p q : List ℕ) (s : State) → run begin p ≡ Some s → IsStuckAt s q
    → IsLongest (p ++ q) (length p)
longest_of p [] s e stops =
    let first = begins_shallow p s e in
    let seam : take (length p) (p ++ []) ≡ p = take-append_seam p [] in
    record {
      within = omega (arith, length-append p (let none_left : List ℕ = [] in none_left));
      begins = subst Begins (sym seam) (first.0, first.1, first.2);
      longest = λ m above within _. omega (arith, length-append p (let none_left : List ℕ = [] in none_left));
    }
longest_of p (x ∷ q) s e stops =
    let first = begins_shallow p s e in
    let seam : take (length p) (p ++ x ∷ q) ≡ p = take-append_seam p (x ∷ q) in
    record {
      within = omega (arith, length-append p (x ∷ q));
      begins = subst Begins (sym seam) (first.0, first.1, first.2);
      longest = λ m above within (trees, rest, text).
          let cut = beyond p x q m above in
          let whole : Text trees ((p ++ x ∷ cut.0) ++ rest)
          = subst (λ start. Text trees (start ++ rest)) cut.1 text in
          refuses p x (cut.0 ++ rest) s trees e stops
          (subst (Text trees) (append_assoc p (x ∷ cut.0) rest) whole);
    }

-- the reader goes on up to a byte that can't stand there, or to the end
further_by : (x : ℕ) (q : List ℕ) (s : State) (next : Option State) → step s x ≡ next
    → ((u : State) → (q1 : List ℕ) × (q2 : List ℕ) × (t : State) × (q ≡ q1 ++ q2) × (run u q1 ≡ Some t) × IsStuckAt t q2) → (q1 : List ℕ) × (q2 : List ℕ)
    × (t : State) × (x ∷ q ≡ q1 ++ q2) × (run s q1 ≡ Some t) × IsStuckAt t q2
further_by x q s None e more = ([], x ∷ q, s, refl, refl, e)
further_by x q s (Some u) e more =
    let rest = more u in
    (x ∷ rest.0, rest.1, rest.2, ap (λ ys. x ∷ ys) rest.3, ap (λ next. run_on next rest.0) e ∙ rest.4, rest.5)

pub further : (q : List ℕ) (s : State) → (q1 : List ℕ) × (q2 : List ℕ) × (t : State)
    × (q ≡ q1 ++ q2) × (run s q1 ≡ Some t) × IsStuckAt t q2
further [] s = ([], [], s, refl, refl, tt)
further (x ∷ q) s = further_by x q s (step s x) refl (λ u. further q u)

pub deep_of : (p : List ℕ) (s : State) → run begin p ≡ Some s → max_depth < length (open_of s).outer
    → (q : List ℕ) → IsDeep (p ++ q)
deep_of p s e many q trees rest text =
    let grouped : Text trees (p ++ (q ++ rest)) = subst (Text trees) (append_assoc p q rest) text in
    let on : run s (q ++ rest) ≡ Some (finished trees) =
    sym (run_on-append p (q ++ rest) (Some begin) s e)
    ∙ text_runs trees (p ++ (q ++ rest)) grouped in
    let up : deepest_of s ≤ deepest_of (finished trees)
    = run_up_to (q ++ rest) (Some s) (finished trees) on in
    omega (arith, up, open_le_deepest (open_of s).outer (open_of s).kids)

pub too_deep_of : (p q : List ℕ) (s : State) → run begin p ≡ Some s
    → max_depth < length (open_of s).outer → IsTooDeep (p ++ q)
too_deep_of p q s e many =
    let (q1, q2, t, is, goes, stops) = further q s in
    let all : p ++ q ≡ (p ++ q1) ++ q2 = ap (λ ys. p ++ ys) is ∙ sym (append_assoc p q1 q2) in
    let there = run_on-append p q1 (Some begin) s e ∙ goes in
    let seam : take (length (p ++ q1)) ((p ++ q1) ++ q2) ≡ p ++ q1
    = take-append_seam (p ++ q1) q2 in
    let found : IsTooDeep ((p ++ q1) ++ q2)
    = (length (p ++ q1), longest_of (p ++ q1) q2 t there stops, subst IsDeep (sym seam) (deep_of p s e many q1)) in
    subst IsTooDeep (sym all) found

-- not deeper than may be: some text that begins so has a collection that may be read
pub shallow_of : (p : List ℕ) (s : State) → GoesTo p s → IsDeep p → ⊥
shallow_of p s (e, low) deep =
    let first = begins_shallow p s e in
    let far : max_depth < depth first.0 = deep first.0 first.1 first.2 in
    omega (arith, far, first.3)

final_text : (bytes : List ℕ) (s : State) (trees : GameTrees) → run begin bytes ≡ Some s
    → IsFinal s trees → Text trees bytes
final_text bytes (between o) trees e (ground, is, some) =
    subst (λ all. Text all bytes) is (run_text o bytes e ground (subst HasTree (sym is) some))
final_text bytes (opened o) trees e final = absurd final
final_text bytes (in_node o ps) trees e final = absurd final
final_text bytes (in_name o ps n) trees e final = absurd final
final_text bytes (after_name o ps n) trees e final = absurd final
final_text bytes (in_value o ps n vs a) trees e final = absurd final
final_text bytes (escaped o ps n vs a) trees e final = absurd final
final_text bytes (after_value o ps n vs) trees e final = absurd final

has_tree : (trees : GameTrees) (bytes : List ℕ) → Text trees bytes → HasTree trees
has_tree trees bytes text = text.1

text_final : (bytes : List ℕ) (s : State) (trees : GameTrees) → run begin bytes ≡ Some s
    → Text trees bytes → IsFinal s trees
text_final bytes s trees e text =
    let both : Some (finished trees) ≡ Some s = sym (text_runs trees bytes text) ∙ e in
    let same : finished trees ≡ s = cc in
    subst (λ any. IsFinal any trees) same (refl, refl, has_tree trees bytes text)

text_deep : (bytes : List ℕ) (s : State) (trees : GameTrees) → run begin bytes ≡ Some s
    → Text trees bytes → deepest_of s ≡ depth trees
text_deep bytes s trees e text =
    let both : Some (finished trees) ≡ Some s = sym (text_runs trees bytes text) ∙ e in
    let same : finished trees ≡ s = cc in
    sym (ap deepest_of same)

-- what `parse` answers of a collection
pub ok_of : (bytes : List ℕ) (s : State) (trees : GameTrees) → GoesTo bytes s → IsFinal s trees
    → Text trees bytes × (depth trees ≤ max_depth)
ok_of bytes s trees (e, low) final =
    let text = final_text bytes s trees e final in
    let deep = text_deep bytes s trees e text in
    (text, omega arith)

-- a prefix of the bytes, and what follows it
pub split : (at : ℕ) (bytes : List ℕ) (P : List ℕ → ℕ → Type 0) → at ≤ length bytes
    → P (take at bytes ++ drop at bytes) (length (take at bytes)) → P bytes at
split at bytes P within holds =
    let same : length (take at bytes) ≡ at = simp length-take (omega arith) in
    subst (P bytes) same
    (subst (λ all. P all (length (take at bytes))) (take-append-drop at bytes) holds)

refused_split : (p q : List ℕ) (s : State) → GoesTo p s → IsStuckAt s q
    → ((trees : GameTrees) → Text trees (p ++ q) → ⊥) → IsRefusedAt (p ++ q) (length p)
refused_split p q s (e, low) stops no_text =
    let seam : take (length p) (p ++ q) ≡ p = take-append_seam p q in
    record {
      longest = longest_of p q s e stops;
      shallow = λ deep. shallow_of p s (e, low) (subst IsDeep seam deep);
      no_text = no_text;
    }

no_text_behind : (p q : List ℕ) (s : State) → run begin p ≡ Some s → IsStuckAt s q → 0 < length q
    → (trees : GameTrees) → Text trees (p ++ q) → ⊥
no_text_behind p [] s e stops some trees text = omega arith
no_text_behind p (x ∷ q) s e stops some trees text = refuses p x q s trees e stops text

-- a byte that can't stand there
pub refused_of : (bytes : List ℕ) (at : ℕ) (s : State) → at < length bytes
    → GoesTo (take at bytes) s → IsStuckAt s (drop at bytes) → IsRefusedAt bytes at
refused_of bytes at s within goes stops =
    let p = take at bytes in
    let q = drop at bytes in
    let some : 0 < length q = simp length-drop (omega arith) in
    split at bytes IsRefusedAt (omega arith)
    (refused_split p q s goes stops (no_text_behind p q s goes.0 stops some))

-- the bytes end too early
pub unfinished_of : (bytes : List ℕ) (s : State) → GoesTo bytes s
    → ((trees : GameTrees) → IsFinal s trees → ⊥) → IsRefusedAt bytes (length bytes)
unfinished_of bytes s (e, low) never =
    let none_yet : (trees : GameTrees) → Text trees bytes → ⊥
    = λ trees text. never trees (text_final bytes s trees e text) in
    let found = refused_split bytes [] s (e, low) tt
    (λ trees text. none_yet trees (subst (Text trees) (append_nil bytes) text)) in
    subst (λ all. IsRefusedAt all (length bytes)) (append_nil bytes) found

pub too_deep_at : (bytes : List ℕ) (n : ℕ) (s : State) → run begin (take n bytes) ≡ Some s
    → max_depth < length (open_of s).outer → IsTooDeep bytes
too_deep_at bytes n s e many =
    subst IsTooDeep (take-append-drop n bytes) (too_deep_of (take n bytes) (drop n bytes) s e many)

-- the longest prefix has one length
pub one_longest : (bytes : List ℕ) (m n : ℕ) → IsLongest bytes m → IsLongest bytes n → m ≡ n
one_longest bytes m n a b =
    elim (cases_order m n) [
      | inl is ↦ is
      | inr (inl below) ↦ absurd (a.longest n below b.within b.begins)
      | inr (inr above) ↦ absurd (b.longest m above a.within a.begins)
    ]
