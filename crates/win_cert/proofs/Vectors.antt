-- Certificates on which the definitions are computed: V1, V2 and V3, and changed ones.
use Rattle.std.specs.Prelude.{◌≡◌, ℕ, List, [], ◌∷◌, ◌++◌, Some, None, suc, refl, map, replicate, codes}
use Rattle.std.specs.List.{range_with_len, slice_set}
use Rattle.std.specs.Fmt.{digits}
use Rattle.hex_cells.specs.Sets.{has}
use Rattle.hex_board.specs.Joined.{is_joined, leads_in}
use Rattle.hex_cells.specs.declared.colours.Colour.TheVariants.{Black}
use Rattle.conn_store.specs.declared.entries.Kind.TheVariants.{Full, Semi}
use Rattle.win_cert.specs.Reasons.{reason_against}
use Rattle.win_cert.specs.declared.reasons.Reason.{Reason}
use Rattle.win_cert.specs.declared.reasons.Reason.TheVariants.{BadReference, BadStone, CarriersMeet}
use Rattle.win_cert.specs.declared.reasons.Reason.TheVariants.{CommonCell, EndInCarrier, EndsDiffer}
use Rattle.win_cert.specs.declared.reasons.Reason.TheVariants.{MiddleKind, NoCommonMiddle, NotEdges}
use Rattle.win_cert.specs.declared.reasons.Reason.TheVariants.{NotJoined, NotNeighbours}
use Rattle.win_cert.specs.declared.reasons.Reason.TheVariants.{WrongColour, WrongScope}
use Rattle.win_cert.specs.Texts.{cert_text, line_words}
use Rattle.win_cert.specs.Verdicts.{claimed_entry, reason_at}
use Rattle.win_cert.specs.declared.certs.Cert.{Cert}
use Rattle.win_cert.specs.declared.lines.End.TheVariants.{At, First, Second}
use Rattle.win_cert.specs.declared.lines.Line.{Line}
use Rattle.win_cert.specs.declared.lines.Line.TheVariants.{Adj, And, Key, Or2, Put, Done, Move}
use Rattle.win_cert.specs.declared.lines.Line.TheVariants.{Cases, OrMany}

abbrev v1 : Cert
v1 = record {
  version = 1;
  board = record { size = 2; black = 0; white = 0 };
  player = Black;
  lines = Adj (At 2) (At 0) ∷ Adj (At 0) First ∷ Adj (At 2) (At 1) ∷ Adj (At 1) First ∷ Key 0 1
      ∷ Key 2 3 ∷ Or2 4 5 ∷ Adj (At 2) Second ∷ Key 6 7 ∷ [];
  claim = Semi;
  entry = 8;
}

abbrev v2 : Cert
v2 = record {
  version = 1;
  board = record { size = 3; black = 0; white = 0 };
  player = Black;
  lines = Adj (At 3) (At 0) ∷ Adj (At 0) First ∷ Adj (At 3) (At 1) ∷ Adj (At 1) First ∷ Key 0 1
      ∷ Key 2 3 ∷ Or2 4 5 ∷ Adj (At 4) (At 1) ∷ Adj (At 4) (At 2) ∷ Adj (At 2) First ∷ Key 7 3
      ∷ Key 8 9 ∷ Or2 10 11 ∷ And 6 12 ∷ [];
  claim = Full;
  entry = 13;
}

abbrev v3 : Cert
v3 = record {
  version = 2;
  board = record { size = 2; black = 0; white = 0 };
  player = Black;
  lines = Put 5 ∷ Done ∷ Put 6 ∷ Done ∷ Put 4 ∷ Move 0 1 ∷ Move 1 3 ∷ Cases (5 ∷ 6 ∷ []) ∷ Put 0
      ∷ Move 2 7 ∷ [];
  claim = Semi;
  entry = 9;
}

-- the certificate with another line k
abbrev with_line : Cert → ℕ → Line → Cert
with_line cert k line = record cert { lines = slice_set cert.lines k line }

-- none of the first n statements has a reason against it
abbrev AreGoodTo : Cert → ℕ → Type 0
AreGoodTo cert n = map (reason_at cert) (range_with_len 0 n) ≡ replicate n None

-- statement k is the first with a reason against it, and this is the first
abbrev IsRefusedAt : Cert → ℕ → Reason → Type 0
IsRefusedAt cert k reason =
    map (reason_at cert) (range_with_len 0 (suc k)) ≡ replicate k None ++ Some reason ∷ []

v1_text : cert_text v1 ≡ codes
    "hexcert 1\nsize 2\nplayer black\nblack\nwhite\nadj a2 a1\nadj a1 edge1\nadj a2 b1\nadj b1 edge1\nkey 0 1\nkey 2 3\nor 4 5\nadj a2 edge2\nkey 6 7\nsemi 8\n"
unfolding has digits
v1_text = refl

v3_text : cert_text v3 ≡ codes
    "hexcert 2\nsize 2\nplayer black\nblack\nwhite\nput a1 a2\ndone\nput b1 a2\ndone\nput a2\nmove a1 1\nmove b1 3\ncases 5 6\nput\nmove a2 7\nsemi 9\n"
unfolding has digits
v3_text = refl

v1_judged : AreGoodTo v1 10
unfolding has is_joined leads_in reason_against
v1_judged = refl

or_twice_judged : IsRefusedAt (with_line v1 6 (Or2 4 4)) 6 CommonCell
unfolding has is_joined leads_in reason_against
or_twice_judged = refl

-- V1 in version 3, with an `or` of these numbers
abbrev of_many : List ℕ → Cert
of_many numbers = record (with_line v1 6 (OrMany numbers)) { version = 3 }

or_many_text : line_words 2 (OrMany (4 ∷ 5 ∷ 4 ∷ 15 ∷ []))
    ≡ codes "or" ∷ codes "4" ∷ codes "5" ∷ codes "4" ∷ codes "15" ∷ []
unfolding digits
or_many_text = refl

or_many_judged : AreGoodTo (of_many (4 ∷ 5 ∷ 4 ∷ 5 ∷ [])) 10
unfolding has is_joined leads_in reason_against
or_many_judged = refl

or_many_alike_judged : IsRefusedAt (of_many (4 ∷ 4 ∷ 4 ∷ 4 ∷ [])) 6 CommonCell
unfolding has is_joined leads_in reason_against
or_many_alike_judged = refl

or_too_high_judged : IsRefusedAt (with_line v1 6 (Or2 4 9)) 6 BadReference
unfolding has is_joined leads_in reason_against
or_too_high_judged = refl

or_of_full_judged : IsRefusedAt (with_line v1 6 (Or2 0 2)) 6 BadReference
unfolding has is_joined leads_in reason_against
or_of_full_judged = refl

and_over_cell_judged : IsRefusedAt (with_line v1 4 (And 0 1)) 4 MiddleKind
unfolding has is_joined leads_in reason_against
and_over_cell_judged = refl

key_apart_judged : IsRefusedAt (with_line v1 4 (Key 0 3)) 4 NoCommonMiddle
unfolding has is_joined leads_in reason_against
key_apart_judged = refl

or_of_other_ends_judged : IsRefusedAt (with_line v1 5 (Key 0 2)) 6 EndsDiffer
unfolding has is_joined leads_in reason_against
or_of_other_ends_judged = refl

key_into_carrier_judged : IsRefusedAt (with_line v1 7 (Key 0 6)) 7 EndInCarrier
unfolding has is_joined leads_in reason_against
key_into_carrier_judged = refl

adj_apart_judged : IsRefusedAt (with_line v1 0 (Adj (At 0) (At 3))) 0 NotNeighbours
unfolding has is_joined leads_in reason_against
adj_apart_judged = refl

adj_to_white_judged : IsRefusedAt
    (record v1 { board = record { size = 2; black = 0; white = 1 } }) 0 WrongColour
unfolding has is_joined leads_in reason_against
adj_to_white_judged = refl

claim_of_a_cell_judged : IsRefusedAt (record v1 { entry = 4 }) 9 NotEdges
unfolding has is_joined leads_in reason_against
claim_of_a_cell_judged = refl

claim_of_the_other_kind_judged : IsRefusedAt (record v1 { claim = Full }) 9 BadReference
unfolding has is_joined leads_in reason_against
claim_of_the_other_kind_judged = refl

v2_judged : IsRefusedAt v2 13 CarriersMeet
unfolding has is_joined leads_in reason_against
v2_judged = refl

v3_judged : AreGoodTo v3 11
unfolding has is_joined leads_in reason_against
v3_judged = refl

cases_twice_judged : IsRefusedAt (with_line v3 7 (Cases (5 ∷ 5 ∷ []))) 7 CommonCell
unfolding has is_joined leads_in reason_against
cases_twice_judged = refl

case_of_a_put_judged : IsRefusedAt (with_line v3 7 (Cases (5 ∷ 4 ∷ []))) 7 BadReference
unfolding has is_joined leads_in reason_against
case_of_a_put_judged = refl

move_in_another_scope_judged : IsRefusedAt (with_line v3 5 (Move 1 1)) 5 WrongScope
unfolding has is_joined leads_in reason_against
move_in_another_scope_judged = refl

move_on_a_stone_judged : IsRefusedAt (with_line v3 5 (Move 2 1)) 5 BadStone
unfolding has is_joined leads_in reason_against
move_on_a_stone_judged = refl

done_too_early_judged : IsRefusedAt (with_line v3 0 (Put 1)) 1 NotJoined
unfolding has is_joined leads_in reason_against
done_too_early_judged = refl

v1_claims : claimed_entry v1
    ≡ Some (record { kind = Semi; x = 0; y = 1; carrier = 7; scope = 0 })
unfolding has is_joined leads_in
v1_claims = refl

v3_claims : claimed_entry v3
    ≡ Some (record { kind = Semi; x = 0; y = 1; carrier = 7; scope = 0 })
unfolding has is_joined leads_in
v3_claims = refl
