-- The clauses of `parse`, for each kind of answer.
use Rattle.std.proofs.Common.{◌≡◌, ℕ, ◌<◌, ◌≤◌, refl, sym, ap, subst, List, ◌++◌, take, drop, inl}
use Rattle.std.proofs.Common.{inr, Result, Ok, Err, IfOk, arith}
use Rattle.std.proofs.lemmas.List.{take-append-drop}
use Rattle.sgf_tree.specs.declared.trees.Collection.{Collection}
use Rattle.sgf_tree.specs.declared.error.SgfError.{SgfError}
use Rattle.sgf_tree.specs.declared.error.SgfError.TheVariants.{NotSgf, TooDeep, Memory}
use Rattle.sgf_tree.specs.Trees.{GameTrees, depth}
use Rattle.sgf_tree.specs.Grammar.{Text}
use Rattle.sgf_tree.specs.Printing.{HasText, max_depth}
use Rattle.sgf_tree.specs.Places.{IsDeep, IsTooDeep, IsRefusedAt}
use Rattle.sgf_tree.specs.Verdict.{OrMemory, Finds}
use Rattle.sgf_tree.proofs.Verdicts.{one_collection, one_longest, refused_of, too_deep_at}
use Rattle.sgf_tree.proofs.Printed.{text_has}

pub record Answered (bytes : List ℕ) (result : Result Collection SgfError) : Type 0 where
  pub ok : IfOk result (λ c. Text c.trees bytes × (depth c.trees ≤ max_depth))
  pub printable : IfOk result (λ c. HasText c.trees)
  pub text : (trees : GameTrees) → Text trees bytes → depth trees ≤ max_depth
      → OrMemory result (Ok (record { trees = trees }))
  pub too_deep : result ≡ Err TooDeep → IsTooDeep bytes
  pub deep : IsTooDeep bytes → OrMemory result (Err TooDeep)
  pub not_sgf : (at : ℕ) → result ≡ Err (NotSgf at) → IsRefusedAt bytes at
  pub refused : (at : ℕ) → IsRefusedAt bytes at → OrMemory result (Err (NotSgf at))

-- a refusal of `parse`
abbrev refusal : SgfError → Result Collection SgfError
refusal e = Err e

ok_is_no_err : (c : Collection) (e : SgfError) → Ok c ≡ Err e → ⊥
ok_is_no_err c e h = cc

not_sgf_is_not_too_deep : (at : ℕ) → refusal (NotSgf at) ≡ refusal TooDeep → ⊥
not_sgf_is_not_too_deep at h = cc

same_place : (at other : ℕ) → refusal (NotSgf at) ≡ refusal (NotSgf other) → at ≡ other
same_place at other h = cc

memory_is_not_too_deep : refusal Memory ≡ refusal TooDeep → ⊥
memory_is_not_too_deep h = cc

memory_is_not_sgf : (at : ℕ) → refusal Memory ≡ refusal (NotSgf at) → ⊥
memory_is_not_sgf at h = cc

-- a text whose trees nest no deeper than may be is not too deep
not_too_deep : (bytes : List ℕ) (trees : GameTrees) → Text trees bytes → depth trees ≤ max_depth
    → IsTooDeep bytes → ⊥
not_too_deep bytes trees text low (n, longest, deep) =
    let whole : Text trees (take n bytes ++ drop n bytes)
    = subst (Text trees) (sym (take-append-drop n bytes)) text in
    let far : max_depth < depth trees = deep trees (drop n bytes) whole in
    omega arith

not_both : (bytes : List ℕ) (at : ℕ) → IsRefusedAt bytes at → IsTooDeep bytes → ⊥
not_both bytes at refused (n, longest, deep) =
    let same = one_longest bytes n at longest refused.longest in
    refused.shallow (subst (λ m. IsDeep (take m bytes)) same deep)

pub answers_ok : (bytes : List ℕ) (c : Collection) → Text c.trees bytes → depth c.trees ≤ max_depth
    → Answered bytes (Ok c)
answers_ok bytes c text low = record {
  ok = (text, low);
  printable = text_has c.trees bytes text;
  text = λ trees other _. inl
      (ap (λ all. let one : Collection = record { trees = all } in let found : Result Collection SgfError = Ok one in found)
      (one_collection c.trees trees bytes text other));
  too_deep = λ e. absurd (ok_is_no_err c TooDeep e);
  deep = λ deep. absurd (not_too_deep bytes c.trees text low deep);
  not_sgf = λ at e. absurd (ok_is_no_err c (NotSgf at) e);
  refused = λ at refused. absurd (refused.no_text c.trees text);
}

pub answers_not_sgf : (bytes : List ℕ) (at : ℕ) → IsRefusedAt bytes at
    → Answered bytes (Err (NotSgf at))
answers_not_sgf bytes at here = record {
  ok = tt;
  printable = tt;
  text = λ trees text _. absurd (here.no_text trees text);
  too_deep = λ e. absurd (not_sgf_is_not_too_deep at e);
  deep = λ deep. absurd (not_both bytes at here deep);
  not_sgf = λ other e. subst (IsRefusedAt bytes) (same_place at other e) here;
  refused = λ other there. inl
      (ap (λ n. let found : Result Collection SgfError = Err (NotSgf n) in found) (one_longest bytes at other here.longest there.longest));
}

pub answers_too_deep : (bytes : List ℕ) → IsTooDeep bytes → Answered bytes (Err TooDeep)
answers_too_deep bytes here = record {
  ok = tt;
  printable = tt;
  text = λ trees text low. absurd (not_too_deep bytes trees text low here);
  too_deep = λ _. here;
  deep = λ _. inl refl;
  not_sgf = λ at e. absurd (not_sgf_is_not_too_deep at (sym e));
  refused = λ at refused. absurd (not_both bytes at refused here);
}

pub answers_memory : (bytes : List ℕ) → Answered bytes (Err Memory)
answers_memory bytes = record {
  ok = tt;
  printable = tt;
  text = λ trees text low. inr refl;
  too_deep = λ e. absurd (memory_is_not_too_deep e);
  deep = λ _. inr refl;
  not_sgf = λ at e. absurd (memory_is_not_sgf at e);
  refused = λ at refused. inr refl;
}

-- what `read_all` refuses, `parse` refuses
pub answers_err : (bytes : List ℕ) (e : SgfError) → Finds bytes (Err e) → Answered bytes (Err e)
answers_err bytes (NotSgf at) (s, within, goes, stops)
    = answers_not_sgf bytes at (refused_of bytes at s within goes stops)
answers_err bytes TooDeep (n, s, goes, many)
    = answers_too_deep bytes (too_deep_at bytes n s goes many)
answers_err bytes Memory found = answers_memory bytes
