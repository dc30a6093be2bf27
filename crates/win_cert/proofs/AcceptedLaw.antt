-- An accepted certificate gives true entries, and its player wins as it claims.
use Rattle.std.proofs.Common.{◌≡◌, ℕ, ◌==◌, ◌&&◌, true, false, [], ◌∷◌, Option, Some, None, length}
use Rattle.std.proofs.Common.{refl, subst, arith}
use Rattle.std.specs.List.{cons_option, list_all}
use Rattle.std.proofs.lemmas.Bool.{and_parts, false≢true, not-false}
use Rattle.hex_cells.specs.Sets.{members}
use Rattle.hex_cells.specs.declared.colours.Colour.{Colour}
use Rattle.hex_board.specs.Elements.{PlayerBoard, edge_element}
use Rattle.hex_board.specs.Joined.{Joined}
use Rattle.hex_board.specs.Positions.{stones_of}
use Rattle.hex_board.specs.Wins.{Wins}
use Rattle.conn_store.specs.Links.{StonesLink}
use Rattle.conn_store.specs.declared.entries.Kind.{Kind}
use Rattle.conn_store.specs.declared.entries.Kind.TheVariants.{Full, Semi}
use Rattle.conn_store.proofs.Sureness.{same, sure_wider}
use Rattle.conn_store.proofs.Ways.{linked_kept}
use Rattle.conn_store.proofs.Winning.{mover_of, sure_wins}
use Rattle.win_cert.proofs.LinksOn.{links_join}
use Rattle.win_cert.specs.Entries.{Context, ScopedEntry, context_at, entry_at, entries_at}
use Rattle.win_cert.specs.Laws.{GivesTrueEntries, WinsAsClaimed, first_mover}
use Rattle.win_cert.specs.Reasons.{reason_against}
use Rattle.win_cert.specs.declared.reasons.Reason.TheVariants.{BadReference, NotEdges}
use Rattle.win_cert.specs.Scopes.{elements_in, player_board}
use Rattle.win_cert.specs.Statements.{is_edge_entry, may_take}
use Rattle.win_cert.specs.declared.statements.Statement.{Statement}
use Rattle.win_cert.specs.declared.statements.Statement.TheVariants.{Claim}
use Rattle.win_cert.specs.Verdicts.{Accepted}
use Rattle.win_cert.specs.Writable.{HasBoard}
use Rattle.win_cert.specs.declared.certs.Cert.{Cert}
use Rattle.win_cert.proofs.CaseLines.{edges_good}
use Rattle.win_cert.proofs.EdgeEntries.{IsGoodOfEdges}
use Rattle.win_cert.proofs.GoodEntries.{IsGood}
use Rattle.win_cert.proofs.NamedEntries.{Each, GaveGood, IsLineTaken, none_applies}
use Rattle.win_cert.proofs.NamedEntries.{taken}
use Rattle.win_cert.proofs.ScopeBoards.{IsSmallBoard, no_scope_stones, scope_empty, scope_size}
use Rattle.win_cert.proofs.GivenEntries.{claim_clear, gave_good, small_board}

-- ---- the claim

movers : (kind : Kind) (player : Colour) → mover_of kind player ≡ first_mover kind player
movers Full player = refl
movers Semi player = refl

-- who is sure of his edges in the empty scope wins
edges_win : (base : PlayerBoard) (kind : Kind) (c : ℕ) → IsSmallBoard base
    → IsGoodOfEdges (elements_in base 0) kind c
    → Wins base.player base.board (first_mover kind base.player)
edges_win base kind c m g =
    let e = elements_in base 0 in
    let G = StonesLink e (edge_element e false) (edge_element e true) in
    let s = stones_of base.board base.player in
    subst (λ v. Wins base.player base.board v) (movers kind base.player)
    (sure_wins (members c 121) kind base.player base.board G s c refl (λ k h. scope_empty base.board base.player 0 k (g.empty k h))
    (λ t i l. subst (λ z. Joined z base.player t) (scope_size base.board base.player 0) (links_join e t (λ k h. i k (no_scope_stones base k h)) l))
    (sure_wider (members c 121) (members c 121) kind G (stones_of e.board base.player) s c c (linked_kept e (edge_element e false) (edge_element e true))
    (omega arith) (no_scope_stones base) (same c) g.holds))

pub some_named : (s : Statement) (o : Option ScopedEntry) → may_take s o ≡ true
    → (a : ScopedEntry) × (cons_option o [] ≡ a ∷ [])
some_named s None h = absurd (false≢true h)
some_named s (Some a) h = (a, refl)

claim_good : (c : Context) (kind : Kind) (i : ℕ) → GaveGood c
    → reason_against c (Claim kind i) ≡ None
    → (a : ScopedEntry) × IsGoodOfEdges (elements_in c.base 0) kind a.carrier
claim_good c kind i g h =
    let s = Claim kind i in
    let clear = none_applies c s h in
    let t = and_parts (may_take s (entry_at c i)) true
    (not-false (list_all (λ j. may_take s (entry_at c j)) (i ∷ [])) (clear BadReference)) in
    let w = some_named s (entry_at c i) t.0 in
    let all : Each (IsLineTaken c s) (w.0 ∷ [])
    = subst (λ es. Each (IsLineTaken c s) es) w.1 (taken c s g clear refl refl) in
    let edges : list_all (is_edge_entry c.base) (w.0 ∷ []) ≡ true
    = subst (λ es. list_all (is_edge_entry c.base) es ≡ true) w.1
    (not-false (list_all (is_edge_entry c.base) (entries_at c (i ∷ []))) (clear NotEdges)) in
    let a = w.0 in
    let e = elements_in c.base 0 in
    let good : IsGood e kind a.x a.y a.carrier
    = subst (λ v. IsGood e v a.x a.y a.carrier) all.0.named.kind_is
    (subst (λ v. IsGood (elements_in c.base v) a.kind a.x a.y a.carrier) all.0.scope_is all.0.good) in (
      a,
      edges_good e kind a
          (subst (λ v. (a.x == edge_element (elements_in c.base v) false && a.y == edge_element (elements_in c.base v) true) ≡ true) all.0.scope_is
          (and_parts (is_edge_entry c.base a) true edges).0) good,
    )

pub accepted_wins : (cert : Cert) → HasBoard cert → Accepted cert → WinsAsClaimed cert
accepted_wins cert b h =
    let w = claim_good (context_at cert (length cert.lines)) cert.claim cert.entry
    (gave_good cert (length cert.lines) b h) (claim_clear cert h) in
    edges_win (player_board cert) cert.claim w.0.carrier (small_board cert b) w.1

pub entries_true : (cert : Cert) → HasBoard cert → Accepted cert
    → GivesTrueEntries cert (length cert.lines)
entries_true cert b h i a e = (gave_good cert (length cert.lines) b h i a e).holds
