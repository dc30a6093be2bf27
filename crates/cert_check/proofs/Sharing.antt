-- Cells that all carriers have, and those that one of them has.
use Rattle.std.proofs.Common.{◌≡◌, ℕ, ◌&&◌, ◌||◌, ◌↔◌, not, IsTrue, true, false, Bool, List, ◌∷◌}
use Rattle.std.proofs.Common.{sym, ◌∙◌, ap, arith, inl, inr, nat_lt}
use Rattle.std.specs.List.{list_all}
use Rattle.std.proofs.lemmas.Bool.{and_parts, and_from, cases_Bool, false_from_ne_true, true≢false}
use Rattle.std.proofs.lemmas.Bool.{lt-ltb, ltb-true}
use Rattle.hex_cells.specs.Sets.{has}
use Rattle.hex_cells.specs.declared.board_size.TheConstants.{MOST_CELLS}
use Rattle.hex_cells.proofs.Bits.{has_or}
use Rattle.hex_board.proofs.Search.{any_out, any_in}
use Rattle.win_cert.specs.Entries.{ScopedEntry, carriers_of}
use Rattle.win_cert.specs.Statements.{share_cell}

-- the carriers of an entry and of those after it
pub carriers_more : (a : ScopedEntry) (entries : List ScopedEntry) (k : ℕ)
    → has (carriers_of (a ∷ entries)) k ≡ (has a.carrier k || has (carriers_of entries) k)
carriers_more a entries k = has_or a.carrier (carriers_of entries) k

-- no cell is in all carriers exactly if the set of those that are is empty
pub none_shared : (entries : List ScopedEntry) (common : ℕ) (empty : Bool)
    → ((k : ℕ) → has common k ≡ (nat_lt k MOST_CELLS && list_all (λ a. has a.carrier k) entries))
    → (IsTrue empty ↔ ((k : ℕ) → has common k ≡ false))
    → not empty ≡ share_cell entries
none_shared entries common empty is h =
    elim (cases_Bool (share_cell entries)) [
      | inl t ↦ let w = any_out (λ k. list_all (λ a. has a.carrier k) entries) 0 MOST_CELLS t in
          let e : empty ≡ false = false_from_ne_true empty (λ y. true≢false (
          sym (is w.0 ∙ and_from (nat_lt w.0 MOST_CELLS) (list_all (λ a. has a.carrier w.0) entries) (lt-ltb w.0 MOST_CELLS (omega (arith, w.1))) w.2)
          ∙ h.0 y w.0
          )) in
          ap not e ∙ sym t
      | inr f ↦ let e : empty ≡ true = h.1 (λ k. false_from_ne_true (has common k) (λ y.
          let p = and_parts (nat_lt k MOST_CELLS) (list_all (λ a. has a.carrier k) entries)
          (sym (is k) ∙ y) in
          true≢false (sym (any_in (λ j. list_all (λ a. has a.carrier j) entries) 0 MOST_CELLS k (omega arith) (ltb-true k MOST_CELLS p.0) p.1) ∙ f))) in
          ap not e ∙ sym f
    ]
