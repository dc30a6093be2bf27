-- Three certificates of a board with one cell, one with an empty cell as a middle, one with a scope
-- and one with a `lift`, which joins the player: they are accepted, so by the law their player wins.
use Rattle.std.proofs.Common.{◌≡◌, ℕ, ◌+◌, ◌<◌, ◌≤◌, [], ◌∷◌, Option, None, length, map}
use Rattle.std.proofs.Common.{option_and_then, replicate, refl, sym, ◌∙◌, ap, subst, zero, suc, inl}
use Rattle.std.proofs.Common.{inr, arith}
use Rattle.std.specs.List.{range_with_len}
use Rattle.std.proofs.lemmas.Bool.{both_ways, cases_lt}
use Rattle.std.proofs.lemmas.Option.{slice_get_past}
use Rattle.hex_cells.specs.Sets.{has}
use Rattle.hex_cells.specs.declared.colours.Colour.TheVariants.{Black}
use Rattle.hex_cells.proofs.Bits.{has_none}
use Rattle.hex_board.specs.Joined.{is_joined, leads_in}
use Rattle.hex_board.specs.Positions.{IsPosition, empty_board}
use Rattle.hex_board.specs.Wins.{Wins}
use Rattle.conn_store.specs.declared.entries.Kind.TheVariants.{Semi}
use Rattle.win_cert.specs.Reasons.{reason_against}
use Rattle.win_cert.specs.declared.reasons.Reason.{Reason}
use Rattle.win_cert.specs.Verdicts.{Accepted, reason_at, statements_of}
use Rattle.win_cert.specs.Entries.{context_at}
use Rattle.win_cert.specs.Writable.{HasBoard}
use Rattle.win_cert.specs.declared.certs.Cert.{Cert}
use Rattle.win_cert.specs.declared.lines.End.TheVariants.{At, First, Second}
use Rattle.win_cert.specs.declared.lines.Line.TheVariants.{Adj, Key, Put, Done, Lift, Move}
use Rattle.win_cert.proofs.AcceptedLaw.{accepted_wins}

abbrev by_key : Cert
by_key = record {
  version = 1;
  board = empty_board 1;
  player = Black;
  lines = Adj (At 0) First ∷ Adj (At 0) Second ∷ Key 0 1 ∷ [];
  claim = Semi;
  entry = 2;
}

abbrev by_scope : Cert
by_scope = record {
  version = 2;
  board = empty_board 1;
  player = Black;
  lines = Put 1 ∷ Done ∷ Put 0 ∷ Move 0 1 ∷ [];
  claim = Semi;
  entry = 3;
}

abbrev by_lift : Cert
by_lift = record {
  version = 4;
  board = empty_board 1;
  player = Black;
  lines = Adj (At 0) First ∷ Put 1 ∷ Lift 0 ∷ Put 0 ∷ Move 0 2 ∷ [];
  claim = Semi;
  entry = 4;
}

-- ---- from the reasons of all statements

none_at : (f : ℕ → Option Reason) (a m j : ℕ) → map f (range_with_len a m) ≡ replicate m None
    → j < m → f (a + j) ≡ None
none_at f a zero j h l = absurd (omega arith)
none_at f a (suc m) zero h l = let e : f a ≡ None = cc in
    let q : a + 0 ≡ a = omega arith in ap f q ∙ e
none_at f a (suc m) (suc j) h l =
    let e : map f (range_with_len (a + 1) m) ≡ replicate m None = cc in
    let q : a + suc j ≡ (a + 1) + j = omega arith in
    ap f q ∙ none_at f (a + 1) m j e (omega arith)

all_good : (cert : Cert) (n : ℕ) → length (statements_of cert) ≤ n
    → map (reason_at cert) (range_with_len 0 n) ≡ replicate n None → Accepted cert
all_good cert n l h k = elim (cases_lt k n) [
  | inl b ↦ let q : 0 + k ≡ k = omega arith in ap (reason_at cert) (sym q)
      ∙ none_at (reason_at cert) 0 n k h b
  | inr b ↦ ap (option_and_then (reason_against (context_at cert k)))
      (slice_get_past (statements_of cert) k (omega arith))
]

-- ---- the three

by_key_judged : map (reason_at by_key) (range_with_len 0 4) ≡ replicate 4 None
unfolding has is_joined leads_in reason_against
by_key_judged = refl

by_scope_judged : map (reason_at by_scope) (range_with_len 0 5) ≡ replicate 5 None
unfolding has is_joined leads_in reason_against
by_scope_judged = refl

by_lift_judged : map (reason_at by_lift) (range_with_len 0 6) ≡ replicate 6 None
unfolding has is_joined leads_in reason_against
by_lift_judged = refl

one_cell : (cert : Cert) → cert.board ≡ empty_board 1 → HasBoard cert
one_cell cert e = subst (λ p. IsPosition p.size p.black p.white) (sym e) (record {
  least = omega arith;
  most = omega arith;
  apart = λ k h. absurd (both_ways (has 0 k) (has_none k) h);
  black_on = λ k h. absurd (both_ways (has 0 k) (has_none k) h);
  white_on = λ k h. absurd (both_ways (has 0 k) (has_none k) h);
})

key_wins : Wins by_key.player by_key.board by_key.player
key_wins = accepted_wins by_key (one_cell by_key refl)
    (all_good by_key 4 (omega arith) by_key_judged)

scope_wins : Wins by_scope.player by_scope.board by_scope.player
scope_wins = accepted_wins by_scope (one_cell by_scope refl)
    (all_good by_scope 5 (omega arith) by_scope_judged)

lift_wins : Wins by_lift.player by_lift.board by_lift.player
lift_wins = accepted_wins by_lift (one_cell by_lift refl)
    (all_good by_lift 6 (omega arith) by_lift_judged)
