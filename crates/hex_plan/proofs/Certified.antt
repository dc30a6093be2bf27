-- What a plan rests on certifies it: its cell wins, and moves outside its threats lose.
use Rattle.std.proofs.Common.{◌≡◌, ℕ, [], ◌∷◌, Bool, true, false, List, Some, All, suc}
use Rattle.std.proofs.Common.{refl, sym, ◌∙◌, ap, subst, inl, inr}
use Rattle.std.specs.List.{slice_get}
use Rattle.std.proofs.lemmas.Bool.{cases_Bool}
use Rattle.std.proofs.lemmas.List.Elements.{All-cons, All-nil}
use Rattle.std.proofs.lemmas.Option.{get_or_from_slice_get, slice_get_within}
use Rattle.hex_cells.specs.Sets.{has, members}
use Rattle.hex_cells.specs.Colours.{other_of}
use Rattle.hex_cells.specs.declared.colours.Colour.{Colour}
use Rattle.hex_cells.specs.declared.colours.Colour.TheVariants.{Black, White}
use Rattle.hex_board.specs.Elements.{PlayerBoard}
use Rattle.hex_board.specs.Positions.{IsPosition, Position, Within, is_empty_at, placed, stones_of}
use Rattle.hex_board.specs.Wins.{Wins}
use Rattle.hex_board.proofs.Placed.{stones_on}
use Rattle.hex_board.proofs.WinLaws.{joined_wins, other_means}
use Rattle.conn_store.specs.Rules.{IsCell, IsChain}
use Rattle.conn_store.specs.Laws.{AreOfBoard}
use Rattle.conn_store.specs.Stores.{AreTrue, IsSound, StoreData}
use Rattle.conn_store.specs.Truth.{IsSureIn}
use Rattle.conn_store.specs.declared.entries.Entry.{Entry}
use Rattle.conn_store.specs.declared.entries.Kind.{Kind}
use Rattle.conn_store.specs.declared.entries.Kind.TheVariants.{Full, Semi}
use Rattle.conn_store.proofs.Chains.{one_chain}
use Rattle.conn_store.proofs.RuleTruth.{board_small, sound_true}
use Rattle.hex_found.specs.Found.{Certifies}
use Rattle.win_cert.specs.Cuts.{IsEdgeEntryAt}
use Rattle.win_cert.specs.Laws.{first_mover}
use Rattle.win_cert.proofs.AcceptedLaw.{accepted_wins}
use Rattle.win_cert.specs.declared.certs.Cert.{Cert}
use Rattle.hsearch.specs.Closed.{IsReportOf}
use Rattle.tree_words.specs.Complete.{HasEmpties}
use Rattle.win_cert.specs.Laws.{WinsByCell}
use Rattle.win_cert.specs.Verdicts.{IsVerdict}
use Rattle.win_cert.specs.declared.verdicts.Verdict.TheVariants.{Yes}
use Rattle.win_cert.proofs.ClaimedMoves.{move_wins}
use Rattle.conn_store.specs.Entries.{IsValid}
use Rattle.hex_plan.specs.Plans.{AreRising, IsCertifiedThreat, IsCertifiedWin, IsPlan, IsSearchPlan}
use Rattle.hex_plan.specs.Resting.{IsConnected, IsConnectedWin, IsFoundPlan, IsFoundThreat}
use Rattle.hex_plan.specs.Resting.{IsFoundWin, IsMiddle, IsNarrowed, IsThreat, IsWinningCell}
use Rattle.hex_plan.specs.declared.threats.Threat.{Threat}
use Rattle.hex_plan.specs.declared.types.Plan.{Plan}
use Rattle.hex_plan.specs.declared.types.Plan.TheVariants.{Win, Search}
use Rattle.hex_plan.proofs.Middles.{IsOverCell, over_cell}
use Rattle.hex_plan.proofs.SureWins.{EdgesLink, entry_says, full_wins, middle_wins}
use Rattle.hex_plan.proofs.SureWins.{wins_after_other}
use Rattle.hsearch.proofs.Steps.{at_second, at_first}
use Rattle.win_cert.proofs.CutDerivations.{some_entry}

-- the board is one
abbrev pub IsBoard : Position → Type 0
IsBoard board = IsPosition board.size board.black board.white

-- the entries of a report are true
report_true : (board : Position) (player : Colour) (d : StoreData)
    → IsPosition board.size board.black board.white → IsReportOf board player d → AreTrue d
report_true board player d on r
    = sound_true d (board_small d.elements (subst AreOfBoard (sym r.elements) on)) r.report.sound

-- ---- a win by connections

-- the element over which the entry follows is that of its middle
the_middle : (d : StoreData) (a : Entry) (k : ℕ) (m : IsMiddle d a k)
    (o : IsOverCell d a m.numbers.0 m.numbers.1) → IsSound d → m.middle ≡ o.u
the_middle d a k m o s =
    let i = m.numbers.0 in
    let j = m.numbers.1 in
    let one : m.parts.0 ≡ o.first
    = some_entry m.parts.0 o.first
    (sym (at_first d.entries i j m.parts.0 m.parts.1 m.at) ∙ o.first_at) in
    let two : m.parts.1 ≡ o.second
    = some_entry m.parts.1 o.second (sym (at_second d.entries i j m.parts.0 m.parts.1 m.at) ∙ o.second_at) in
    let chain : IsChain o.first o.second m.ends.0 m.middle m.ends.1
    = subst (λ (v : Entry). IsChain o.first v m.ends.0 m.middle m.ends.1) two
    (subst (λ (v : Entry). IsChain v m.parts.1 m.ends.0 m.middle m.ends.1) one m.chain) in
    (one_chain o.first o.second m.ends.0 m.middle m.ends.1 o.x o.u o.y (s.valid i o.first o.first_at).order
    (s.valid j o.second o.second_at).order chain o.rule.chain).1

cell_wins : (d : StoreData) (n : ℕ) (a : Entry) (kind : Kind) (k : ℕ) → IsSound d → AreTrue d
    → Within d.elements.board.size (stones_of d.elements.board d.elements.player)
    → IsEdgeEntryAt d n a → a.kind ≡ kind
    → IsWinningCell d a kind k
    → Wins d.elements.player (placed d.elements.board d.elements.player k)
    (other_of d.elements.player)
cell_wins d n a Full k s ts on at q w = full_wins d.elements a k on at.1 (s.valid n a at.0)
    (ts n a at.0) q w.0
cell_wins d n a Semi k s ts on at q w =
    let o : IsOverCell d a w.numbers.0 w.numbers.1
    = over_cell d n a w.numbers.0 w.numbers.1 s at.0 w.cause in
    middle_wins d.elements a o.first o.second o.x o.u o.y k on at.1 o.pair
    (s.valid _ o.first o.first_at) (s.valid _ o.second o.second_at) (ts _ o.first o.first_at)
    (ts _ o.second o.second_at) o.rule
    (subst (λ v. IsCell d.elements v k) (the_middle d a k w o s) w.cell)

won_wins : (board : Position) (player : Colour) (cert : Cert) (k : ℕ) (d : StoreData)
    → IsPosition board.size board.black board.white → IsConnectedWin board player cert k d
    → Wins player (placed board player k) (other_of player)
won_wins board player cert k d on h =
    let e = h.report.elements in
    subst (λ (v : PlayerBoard). Wins v.player (placed v.board v.player k) (other_of v.player)) e
    (cell_wins d h.edges.0 h.entry h.entry.kind k h.report.report.sound (report_true board player d on h.report)
    (subst (λ (v : PlayerBoard). Within v.board.size (stones_of v.board v.player)) (sym e) (stones_on board player on)) h.edges.1 refl h.winning)

-- ---- a win by a certificate that was found

-- what a certificate that was found says of its cell
pub found_cell : (board : Position) (player : Colour) (cert : Cert) (k : ℕ) → IsBoard board
    → IsFoundWin board player cert k → WinsByCell cert k
found_cell board player cert k on h =
    move_wins cert k (subst (λ (v : Position). IsBoard v) (sym h.certifies.board) on)
    h.certifies.accepted h.moved

found_wins : (board : Position) (player : Colour) (cert : Cert) (k : ℕ)
    → IsPosition board.size board.black board.white → IsFoundWin board player cert k
    → Wins player (placed board player k) (other_of player)
found_wins board player cert k on h =
    subst (λ (v : Position). Wins player (placed v player k) (other_of player)) h.certifies.board
    (subst (λ (c : Colour). Wins c (placed cert.board c k) (other_of c)) h.certifies.player
    (found_cell board player cert k on h).wins)

-- ---- a certified win

-- the cell of a win is empty
winning_empty : (d : StoreData) (a : Entry) (kind : Kind) (k : ℕ) → IsValid d.elements a
    → IsWinningCell d a kind k → is_empty_at d.elements.board k ≡ true
winning_empty d a Semi k v w = w.cell.0
winning_empty d a Full k v w = v.empty k w.0

cut_empty : (board : Position) (player : Colour) (cert : Cert) (k : ℕ) (d : StoreData)
    → IsConnectedWin board player cert k d → is_empty_at board k ≡ true
cut_empty board player cert k d h =
    let valid = h.report.report.sound.valid h.edges.0 h.entry h.edges.1.0 in
    subst (λ (e : PlayerBoard). is_empty_at e.board k ≡ true) h.report.elements
    (winning_empty d h.entry h.entry.kind k valid h.winning)

by_connections : (board : Position) (player : Colour) (cert : Cert) (k : ℕ) (d : StoreData)
    → IsBoard board → IsConnectedWin board player cert k d → IsCertifiedWin board player cert k
by_connections board player cert k d on h = record {
  writable = h.cut.writable;
  accepted = h.cut.verdict.0;
  board = h.cut.board ∙ ap (λ (e : PlayerBoard). e.board) h.report.elements;
  player = h.cut.player ∙ ap (λ (e : PlayerBoard). e.player) h.report.elements;
  empty = cut_empty board player cert k d h;
  wins = won_wins board player cert k d on h;
}

by_certificate : (board : Position) (player : Colour) (cert : Cert) (k : ℕ) → IsBoard board
    → IsFoundWin board player cert k → IsCertifiedWin board player cert k
by_certificate board player cert k on h = record {
  writable = h.certifies.writable;
  accepted = h.certifies.accepted;
  board = h.certifies.board;
  player = h.certifies.player;
  empty = subst (λ (v : Position). is_empty_at v k ≡ true) h.certifies.board
      (found_cell board player cert k on h).empty;
  wins = found_wins board player cert k on h;
}

-- ---- threats of a report

-- what a semi entry of a player says of his edges
abbrev pub SaysOf : PlayerBoard → Entry → Type 0
SaysOf e a = IsSureIn (members a.carrier 121) Semi (EdgesLink e)
    (stones_of e.board e.player) a.carrier

threat_wins : (board : Position) (player : Colour) (d : StoreData) (threat : Threat) (k : ℕ)
    → IsPosition board.size board.black board.white → IsReportOf board (other_of player) d
    → IsThreat d threat
    → has threat.carrier k ≡ false → Wins (other_of player) (placed board player k)
    (other_of player)
threat_wins board player d threat k on r h out =
    let a = h.entry in
    let n = h.edges.0 in
    let at = h.edges.1 in
    let s = r.report.sound in
    let free = subst (λ (v : PlayerBoard). (j : ℕ) → has a.carrier j ≡ true → is_empty_at v.board j ≡ true) r.elements (s.valid n a at.0).empty in
    wins_after_other board player _ k a.carrier (stones_on board (other_of player) on) free
    (subst (λ c. has c k ≡ false) h.carrier out)
    (subst (λ (v : PlayerBoard). SaysOf v a) r.elements (entry_says d.elements a Semi at.1 (report_true board (other_of player) d on r n a at.0) h.semi))

-- ---- a threat that was found

-- who is certified with the other player to move wins so
loss_wins : (board : Position) (mover : Colour) (cert : Cert) → IsBoard board
    → Certifies board mover (other_of mover) cert → Wins (other_of mover) board mover
loss_wins board Black cert on h =
    subst (λ (v : Position). Wins White v Black) h.board
    (subst (λ (c : Colour). Wins c cert.board (first_mover Full c)) h.player
    (subst (λ (v : Kind). Wins cert.player cert.board (first_mover v cert.player)) h.claims
    (accepted_wins cert (subst (λ (v : Position). IsBoard v) (sym h.board) on) h.accepted)))
loss_wins board White cert on h =
    subst (λ (v : Position). Wins Black v White) h.board
    (subst (λ (c : Colour). Wins c cert.board (first_mover Full c)) h.player
    (subst (λ (v : Kind). Wins cert.player cert.board (first_mover v cert.player)) h.claims
    (accepted_wins cert (subst (λ (v : Position). IsBoard v) (sym h.board) on) h.accepted)))

-- after each stone too
each_loses : (board : Position) (mover : Colour) (k : ℕ) → Wins (other_of mover) board mover
    → is_empty_at board k ≡ true → Wins (other_of mover) (placed board mover k) (other_of mover)
each_loses board Black k w empty = elim (other_means White board w) [
  | inl j ↦ joined_wins White (placed board Black k) White j
  | inr each ↦ each.1 k empty
]
each_loses board White k w empty = elim (other_means Black board w) [
  | inl j ↦ joined_wins Black (placed board White k) Black j
  | inr each ↦ each.1 k empty
]

found_loses : (board : Position) (player : Colour) (threat : Threat) (k : ℕ) → IsBoard board
    → IsFoundThreat board player threat → is_empty_at board k ≡ true
    → Wins (other_of player) (placed board player k) (other_of player)
found_loses board player threat k on h empty
    = each_loses board player k (loss_wins board player threat.cert on h.certifies) empty

-- ---- certified threats

connected_threat : (board : Position) (player : Colour) (d : StoreData) (t : Threat)
    → IsBoard board → IsReportOf board (other_of player) d → IsThreat d t
    → IsCertifiedThreat board player t
connected_threat board player d t on r h = record {
  board = h.cut.board ∙ ap (λ (e : PlayerBoard). e.board) r.elements;
  player = h.cut.player ∙ ap (λ (e : PlayerBoard). e.player) r.elements;
  verdict = (
    h.entry.kind,
    subst (λ c. IsVerdict t.cert (Yes h.entry.kind c)) (sym h.carrier) h.cut.verdict,
  );
  outside = λ k empty out. threat_wins board player d t k on r h out;
}

found_threat : (board : Position) (player : Colour) (t : Threat) → IsBoard board
    → IsFoundThreat board player t → IsCertifiedThreat board player t
found_threat board player t on h = record {
  board = h.certifies.board;
  player = h.certifies.player;
  verdict = (Full, h.verdict);
  outside = λ k empty out. found_loses board player t k on h empty;
}

pub at_one : (P : Threat → Type 0) (threats : List Threat) (i : ℕ) (threat : Threat) → All P threats
    → slice_get threats i ≡ Some threat → P threat
at_one P threats i threat h s = subst P (get_or_from_slice_get threats i threat threat s)
    (h i threat (slice_get_within threats i threat s))

-- one of the threats has not the cell in its carrier
some_misses : (threats : List Threat) (k : ℕ)
    → (All (λ (t : Threat). has t.carrier k ≡ true) threats → ⊥) → (i : ℕ) × (t : Threat)
    × (slice_get threats i ≡ Some t) × (has t.carrier k ≡ false)
some_misses [] k h = absurd (h (All-nil (λ (t : Threat). has t.carrier k ≡ true)))
some_misses (t ∷ threats) k h = elim (cases_Bool (has t.carrier k)) [
  | inl e ↦ let w
      = some_misses threats k
      (λ a. h (All-cons (λ (v : Threat). has v.carrier k ≡ true) t threats e a)) in
      (suc w.0, w.1, w.2, w.3)
  | inr e ↦ (0, t, refl, e)
]

-- ---- searches

by_reports : (board : Position) (player : Colour) (threats : List Threat) (allowed : ℕ)
    (lost : Bool) (d e : StoreData) → IsBoard board
    → IsNarrowed board player threats allowed lost d e
    → IsSearchPlan board player threats allowed lost
by_reports board player threats allowed lost d e on n = record {
  certified = λ i t l. connected_threat board player e _ on n.other_report
      (n.are_threats.cut i t l);
  rising = n.are_threats.rising;
  narrowed = n.mustplay.narrowed;
  free = n.mustplay.free;
  loses = λ q k empty.
      let w = some_misses threats k (λ a. n.mustplay.none.0 q k (empty, a)) in
      threat_wins board player e w.1 k on n.other_report
      (at_one (IsThreat e) threats w.0 w.1 n.are_threats.cut w.2) w.3;
}

by_threat : (board : Position) (player : Colour) (threats : List Threat) (allowed : ℕ)
    (lost : Bool) (t : Threat) → IsBoard board → threats ≡ t ∷ []
    → IsFoundThreat board player t → HasEmpties allowed board → lost ≡ true
    → IsSearchPlan board player threats allowed lost
by_threat board player threats allowed lost t on is h empties l = record {
  certified = subst (All (IsCertifiedThreat board player)) (sym is)
      (All-cons (IsCertifiedThreat board player) t [] (found_threat board player t on h)
      (All-nil (IsCertifiedThreat board player)));
  rising = subst AreRising (sym is) (All-nil _, tt);
  narrowed = λ f. absurd (not_both lost l f);
  free = λ q. empties;
  loses = λ q k empty. found_loses board player t k on h empty;
}
  where
    not_both : (b : Bool) → b ≡ true → b ≡ false → ⊥
    not_both b l f = absurd (cc)

-- ---- plans

pub plan_connected : (board : Position) (player : Colour) (plan : Plan) → IsBoard board
    → IsConnected board player plan → IsPlan board player plan
plan_connected board player (Win cert cell) on (d, h) = by_connections board player cert cell d on h
plan_connected board player (Search threats allowed lost) on (d, e, n)
    = by_reports board player threats allowed lost d e on n

pub plan_found : (board : Position) (player : Colour) (plan : Plan) → IsBoard board
    → IsFoundPlan board player plan → IsPlan board player plan
plan_found board player (Win cert cell) on h = by_certificate board player cert cell on h
plan_found board player (Search threats allowed lost) on (t, is, h, empties, l)
    = by_threat board player threats allowed lost t on is h empties l
