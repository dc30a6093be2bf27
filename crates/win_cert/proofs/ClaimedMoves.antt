-- Where the claimed line is a `move`, its cell is empty, and the player wins after his stone there.
use Rattle.std.proofs.Common.{◌≡◌, ℕ, ◌<◌, ◌==◌, ◌&&◌, ◌||◌, nat_lt, true, false, [], ◌∷◌}
use Rattle.std.proofs.Common.{◌++◌, Some, length, bit_or, refl, sym, ◌∙◌, ap, subst, zero}
use Rattle.std.proofs.Common.{suc, inl, inr, arith}
use Rattle.std.proofs.Common.{option_and_then}
use Rattle.std.specs.List.{cons_option, list_all, slice_get}
use Rattle.std.specs.Option.{option_flatten}
use Rattle.std.proofs.lemmas.Bool.{and_parts, cases_Bool, ltb-false, ltb-true, not-false}
use Rattle.std.proofs.lemmas.List.{length-append}
use Rattle.std.proofs.lemmas.Option.{slice_get_within}
use Rattle.hex_cells.specs.Colours.{other_of}
use Rattle.hex_cells.specs.Sets.{has, members, with_cell}
use Rattle.hex_cells.specs.declared.colours.Colour.{Colour}
use Rattle.hex_cells.specs.declared.colours.Colour.TheVariants.{Black, White}
use Rattle.hex_cells.proofs.Bits.{has_none, has_or, same_set}
use Rattle.hex_cells.proofs.WithCell.{has_with_cell}
use Rattle.hex_board.specs.Elements.{PlayerBoard, edge_element}
use Rattle.hex_board.specs.Positions.{Position, is_empty_at, placed, stones_of}
use Rattle.hex_board.specs.Wins.{Wins}
use Rattle.conn_store.specs.Links.{StonesLink}
use Rattle.conn_store.specs.declared.entries.Kind.TheVariants.{Full, Semi}
use Rattle.conn_store.proofs.Winning.{sure_wins}
use Rattle.win_cert.specs.Entries.{Context, ScopedEntry, context_at, edge_entry, entries_at}
use Rattle.win_cert.specs.Entries.{elements_at, entries_below, entry_at, gives, move_entry}
use Rattle.win_cert.specs.Laws.{ClaimsMove, WinsByCell}
use Rattle.win_cert.specs.Scopes.{elements_in, player_board, with_stones}
use Rattle.win_cert.specs.Statements.{is_edge_entry, may_take}
use Rattle.win_cert.specs.Verdicts.{Accepted}
use Rattle.win_cert.specs.Writable.{HasBoard}
use Rattle.win_cert.specs.declared.certs.Cert.{Cert}
use Rattle.win_cert.specs.declared.lines.Line.{Line}
use Rattle.win_cert.specs.declared.lines.Line.TheVariants.{Move}
use Rattle.win_cert.specs.declared.reasons.Reason.{Reason}
use Rattle.win_cert.specs.declared.reasons.Reason.TheVariants.{BadReference, BadStone, NotEdges}
use Rattle.win_cert.specs.declared.statements.Statement.TheVariants.{Claim, Derivation}
use Rattle.win_cert.specs.Reasons.{applies}
use Rattle.win_cert.proofs.AcceptedLaw.{some_named}
use Rattle.win_cert.proofs.CaseLines.{edges_good}
use Rattle.win_cert.proofs.CutDerivations.{last_at}
use Rattle.win_cert.proofs.EdgeEntries.{IsGoodOfEdges}
use Rattle.win_cert.proofs.GivenEntries.{at_left, claim_clear, gave_good, line_clear}
use Rattle.win_cert.proofs.GoodEntries.{IsGood}
use Rattle.win_cert.proofs.LinksOn.{links_join}
use Rattle.win_cert.proofs.NamedEntries.{Each, GaveGood, IsLineTaken, none_applies, taken}
use Rattle.win_cert.proofs.ScopeBoards.{scope_empty}

-- ---- the entry with the number of a line is what the line gives

below_count : (cert : Cert) (n : ℕ) → length (entries_below cert n) ≡ n
below_count cert zero = refl
below_count cert (suc n) =
    let y = option_and_then (gives (context_at cert n)) (slice_get cert.lines n) in
    let e = below_count cert n in
    length-append (entries_below cert n) (y ∷ []) ∙ omega (arith, e)

given_at : (cert : Cert) (n : ℕ) (line : Line) (m : ℕ) → slice_get cert.lines n ≡ Some line → n < m
    → slice_get (entries_below cert m) n ≡ Some (gives (context_at cert n) line)
given_at cert n line zero e l = absurd (omega (arith, l))
given_at cert n line (suc m) e l =
    let y = option_and_then (gives (context_at cert m)) (slice_get cert.lines m) in
    elim (cases_Bool (nat_lt n m)) [
      | inl t ↦ at_left (entries_below cert m) (y ∷ []) n (gives (context_at cert n) line)
          (given_at cert n line m e (ltb-true n m t))
      | inr t ↦ let q = ltb-false n m t in let same : m ≡ n = omega (arith, l, q) in
          subst
          (λ v. slice_get (entries_below cert v ++ option_and_then (gives (context_at cert v)) (slice_get cert.lines v) ∷ []) n
          ≡ Some (gives (context_at cert n) line)) (sym same)
          (subst
          (λ v. slice_get (entries_below cert n ++ option_and_then (gives (context_at cert n)) (slice_get cert.lines n) ∷ []) v
          ≡ Some (gives (context_at cert n) line)) (below_count cert n)
          (last_at (entries_below cert n) (option_and_then (gives (context_at cert n)) (slice_get cert.lines n))
          ∙ ap (λ o. Some (option_and_then (gives (context_at cert n)) o)) e))
    ]

-- ---- the claimed line lies in the empty scope

-- what the claim names is an entry in the empty scope
claim_scope : (cert : Cert) (a : ScopedEntry) → HasBoard cert → Accepted cert
    → entry_at (context_at cert (length cert.lines)) cert.entry ≡ Some a → a.scope ≡ 0
claim_scope cert a b h e =
    let c = context_at cert (length cert.lines) in
    let s = Claim cert.claim cert.entry in
    let all : Each (IsLineTaken c s) (cons_option (entry_at c cert.entry) [])
    = taken c s (gave_good cert (length cert.lines) b h) (none_applies c s (claim_clear cert h)) refl refl in
    let one : Each (IsLineTaken c s) (a ∷ [])
    = subst (λ o. Each (IsLineTaken c s) (cons_option o [])) e all in
    one.0.scope_is

-- ---- the board with the stone is that of the scope

one_cell : (a k : ℕ) → bit_or a (with_cell 0 k) ≡ with_cell a k
one_cell a k = same_set (bit_or a (with_cell 0 k)) (with_cell a k) (λ j.
    has_or a (with_cell 0 k) j
    ∙ ap (λ b. has a j || b) (has_with_cell 0 k j ∙ ap (λ b. b || j == k) (has_none j))
    ∙ sym (has_with_cell a k j))

scope_placed : (p : Position) (c : Colour) (k : ℕ) → with_stones p c (with_cell 0 k) ≡ placed p c k
scope_placed p Black k
    = ap (λ v. record { size = p.size; black = v; white = p.white }) (one_cell p.black k)
scope_placed p White k
    = ap (λ v. record { size = p.size; black = p.black; white = v }) (one_cell p.white k)

-- who is sure of his edges in the scope of one cell wins after his stone there
scope_wins : (base : PlayerBoard) (k c : ℕ)
    → IsGoodOfEdges (elements_in base (with_cell 0 k)) Full c
    → Wins base.player (placed base.board base.player k) (other_of base.player)
scope_wins base k c g =
    let e = elements_in base (with_cell 0 k) in
    subst (λ p. Wins base.player p (other_of base.player)) (scope_placed base.board base.player k)
    (sure_wins (members c 121) Full base.player e.board
    (StonesLink e (edge_element e false) (edge_element e true)) (stones_of e.board base.player) c refl g.empty
    (λ t i l. links_join e t i l) g.holds)

-- ---- the line itself

-- the entry that a `move` names
record IsMoved (c : Context) (k i : ℕ) : Type 0 where
  pub entry : ScopedEntry
  pub named : cons_option (entry_at c i) [] ≡ entry ∷ []
  pub good : IsGoodOfEdges (elements_in c.base (with_cell c.scope k)) Full entry.carrier
  pub empty : is_empty_at (elements_at c).board k ≡ true

moved : (c : Context) (k i : ℕ) → GaveGood c
    → ((r : Reason) → applies c (Derivation (Move k i)) r ≡ false) → IsMoved c k i
moved c k i g h =
    let s = Derivation (Move k i) in
    let t = and_parts (may_take s (entry_at c i)) true
    (not-false (list_all (λ j. may_take s (entry_at c j)) (i ∷ [])) (h BadReference)) in
    let w = some_named s (entry_at c i) t.0 in
    let a = w.0 in
    let e = elements_in c.base (with_cell c.scope k) in
    let all : Each (IsLineTaken c s) (a ∷ [])
    = subst (λ es. Each (IsLineTaken c s) es) w.1 (taken c s g h refl refl) in
    let edges : list_all (is_edge_entry c.base) (a ∷ []) ≡ true
    = subst (λ es. list_all (is_edge_entry c.base) es ≡ true) w.1
    (not-false (list_all (is_edge_entry c.base) (entries_at c (i ∷ []))) (h NotEdges)) in
    let good : IsGood e Full a.x a.y a.carrier
    = subst (λ v. IsGood e v a.x a.y a.carrier) all.0.named.kind_is
    (subst (λ v. IsGood (elements_in c.base v) a.kind a.x a.y a.carrier) all.0.scope_is all.0.good) in
    record {
      entry = a;
      named = w.1;
      good = edges_good e Full a
          (subst (λ v. (a.x == edge_element (elements_in c.base v) false && a.y == edge_element (elements_in c.base v) true) ≡ true) all.0.scope_is
          (and_parts (is_edge_entry c.base a) true edges).0) good;
      empty = not-false (is_empty_at (elements_at c).board k) (h BadStone);
    }

pub move_wins : (cert : Cert) (k : ℕ) → HasBoard cert → Accepted cert → ClaimsMove cert k
    → WinsByCell cert k
move_wins cert k b h (i, e) =
    let n = cert.entry in
    let c = context_at cert n in
    let m : IsMoved c k i
    = moved c k i (gave_good cert n b h)
    (none_applies c (Derivation (Move k i)) (line_clear cert n (Move k i) h e)) in
    let given : gives c (Move k i) ≡ Some (edge_entry c Semi (with_cell m.entry.carrier k))
    = ap (move_entry c k) m.named in
    let scope : c.scope ≡ 0
    = claim_scope cert (edge_entry c Semi (with_cell m.entry.carrier k)) b h
    (ap option_flatten (given_at cert n (Move k i) (length cert.lines) e (slice_get_within cert.lines n (Move k i) e)) ∙ given) in
    record {
      empty = scope_empty cert.board cert.player c.scope k m.empty;
      wins = scope_wins (player_board cert) k m.entry.carrier
          (subst (λ v. IsGoodOfEdges (elements_in (player_board cert) (with_cell v k)) Full m.entry.carrier) scope m.good);
    }
