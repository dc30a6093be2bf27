-- The certificate of the lines of a cut shows the entry of the store, and has a line for each entry
-- on which it rests.
use Rattle.std.proofs.Common.{◌≡◌, ℕ, ◌+◌, ◌<◌, ◌≤◌, All, ◌==◌, ◌&&◌, true, false, Bool, List, [], ◌∷◌, Some}
use Rattle.std.proofs.Common.{get_or, length, map, sym, ◌∙◌, ap, subst, refl, inl, arith}
use Rattle.std.specs.List.{slice_get}
use Rattle.std.proofs.Math.Seq.{take-length}
use Rattle.std.proofs.lemmas.Bool.{and_from, eq-eqb}
use Rattle.std.proofs.lemmas.List.{get_or_read}
use Rattle.std.proofs.lemmas.List.Elements.{All-head}
use Rattle.std.proofs.lemmas.Option.{slice_get_within}
use Rattle.hex_board.specs.Elements.{PlayerBoard, edge_element}
use Rattle.hex_board.specs.Positions.{Position}
use Rattle.hex_cells.specs.declared.colours.Colour.{Colour}
use Rattle.conn_store.specs.Entries.{IsBetween}
use Rattle.conn_store.specs.Stores.{StoreData}
use Rattle.conn_store.specs.declared.entries.Entry.{Entry}
use Rattle.conn_store.specs.declared.entries.TheConstants.{MOST_ENTRIES}
use Rattle.win_cert.specs.Contexts.{AreClear, after_lines, first_context}
use Rattle.win_cert.specs.Cuts.{CertifiesEntry, HasEdgeEntryAt, HasLinesFor, IsEdgeEntryAt}
use Rattle.win_cert.specs.Cuts.{entries_numbered, scoped}
use Rattle.win_cert.specs.Cutting.{AreLinesFor, AreMarks, given, is_marked, report_context}
use Rattle.win_cert.specs.Entries.{Context, elements_at, entry_at}
use Rattle.win_cert.specs.Statements.{is_edge_entry}
use Rattle.win_cert.specs.Verdicts.{IsVerdict}
use Rattle.win_cert.specs.declared.verdicts.Verdict.TheVariants.{Yes}
use Rattle.win_cert.specs.Writable.{IsLineOf, most_lines}
use Rattle.win_cert.specs.declared.certs.Cert.{Cert}
use Rattle.win_cert.specs.declared.lines.Line.{Line}
use Rattle.win_cert.specs.declared.certs.TheConstants.{FIRST_VERSION}
use Rattle.win_cert.proofs.Accepting.{accepted, first_of, read_all}
use Rattle.win_cert.proofs.Appending.{base_after, entry_below, length_after}
use Rattle.win_cert.proofs.CutEnds.{between_edges}
use Rattle.win_cert.proofs.CutSteps.{unscoped_board}
use Rattle.win_cert.proofs.Supports.{marked_rest}

-- the certificate is one of the store's board, for its player, with the lines of the entries that
-- are marked for entry n
pub record IsCutOf (d : StoreData) (n : ℕ) (marks : List Bool) (cert : Cert) : Type 0 where
  pub board : cert.board ≡ d.elements.board
  pub player : cert.player ≡ d.elements.player
  pub known : AreMarks d.entries (n ∷ []) marks
  pub renamed : List ℕ
  pub lines : AreLinesFor d marks (length d.entries) cert.lines renamed
  pub entry : cert.entry ≡ get_or renamed n 0
  pub few : length d.entries ≤ MOST_ENTRIES

-- from what was asked for and answered on the way
pub cut_of : {lines : List Line} {entries : List Entry} {m : List Bool} (d r : StoreData) (n : ℕ)
    (marks : List Bool) (renamed : List ℕ) (cert : Cert) → d ≡ r → HasEdgeEntryAt r n
    → cert.board ≡ d.elements.board → cert.player ≡ d.elements.player → cert.lines ≡ lines
    → entries ≡ d.entries → length entries ≤ MOST_ENTRIES → AreMarks entries (n ∷ []) m → marks ≡ m
    → AreLinesFor d marks (length d.entries) lines renamed → cert.entry ≡ get_or renamed n cert.entry
    → IsCutOf r n marks cert
cut_of {m = m} d r n marks renamed cert h at b p l es few known same w e =
    let inside : n < length d.entries
    = slice_get_within d.entries n at.0 (ap (λ (v : StoreData). slice_get v.entries n) h ∙ at.1.0) in
    let number : length renamed ≡ length d.entries = w.number in
    subst (λ v. IsCutOf v n marks cert) h
    (record {
      board = b;
      player = p;
      known = subst (AreMarks d.entries (n ∷ [])) (sym same) (subst (λ v. AreMarks v (n ∷ []) m) es known);
      renamed = renamed;
      lines = subst (λ v. AreLinesFor d marks (length d.entries) v renamed) (sym l) w;
      entry = get_or_read renamed n cert.entry (omega arith) e 0;
      few = subst (λ v. length v ≤ MOST_ENTRIES) es few;
    })

first_same : (d : StoreData) (n : ℕ) (marks : List Bool) (cert : Cert) → IsCutOf d n marks cert
    → first_of cert ≡ report_context d
first_same d n marks cert w = ap (λ (p : Position). first_context p cert.player) w.board
    ∙ ap (λ (q : Colour). first_context d.elements.board q) w.player

first_elements : (d : StoreData) (n : ℕ) (marks : List Bool) (cert : Cert) → IsCutOf d n marks cert
    → elements_at (first_of cert) ≡ d.elements
first_elements d n marks cert w
    = ap elements_at (first_same d n marks cert w) ∙ unscoped_board d.elements

pub has_lines : (d : StoreData) (n : ℕ) (marks : List Bool) (cert : Cert) → IsCutOf d n marks cert
    → HasLinesFor d n cert
has_lines d n marks cert w = (
  entries_numbered (is_marked marks) d.entries,
  marked_rest d n marks w.known,
  ap (λ (c : Context). c.earlier) (read_all cert)
      ∙ ap (λ c. (after_lines c cert.lines).earlier) (first_same d n marks cert w) ∙ w.lines.gives
      ∙ ap (λ es. map given (entries_numbered (is_marked marks) es)) (take-length d.entries),
)

edges_of : (e : PlayerBoard) (a : Entry) → IsBetween a (edge_element e false) (edge_element e true)
    → (a.x == edge_element e false && a.y == edge_element e true) ≡ true
edges_of e a h = let w = between_edges e a h in
    and_from (a.x == edge_element e false) (a.y == edge_element e true)
    (eq-eqb a.x (edge_element e false) w.0) (eq-eqb a.y (edge_element e true) w.1)

claimed : (d : StoreData) (n : ℕ) (marks : List Bool) (a : Entry) (cert : Cert)
    → IsCutOf d n marks cert → slice_get d.entries n ≡ Some a
    → entry_at (after_lines (first_of cert) cert.lines) cert.entry ≡ Some (scoped 0 a)
claimed d n marks a cert w at =
    ap (λ c. entry_at (after_lines c cert.lines) cert.entry) (first_same d n marks cert w)
    ∙ ap (entry_at (after_lines (report_context d) cert.lines)) w.entry
    ∙ w.lines.places n a (slice_get_within d.entries n a at) (All-head (λ i. is_marked marks i ≡ true) n [] w.known.asked) at

pub certified : (d : StoreData) (n : ℕ) (marks : List Bool) (a : Entry) (cert : Cert)
    → IsCutOf d n marks cert → IsEdgeEntryAt d n a → cert.version ≡ FIRST_VERSION
    → cert.claim ≡ a.kind → CertifiesEntry d a cert
certified d n marks a cert w h v k =
    let most : length d.entries ≤ 75030 = w.few in
    let number : length cert.lines ≤ length d.entries = w.lines.few in
    let c = after_lines (first_of cert) cert.lines in
    let long : length c.earlier ≡ 0 + length cert.lines = length_after (first_of cert) cert.lines in
    let below : cert.entry < length c.earlier
    = entry_below c cert.entry (scoped 0 a) (claimed d n marks a cert w h.0) in
    let edges : is_edge_entry (after_lines (first_of cert) cert.lines).base (scoped 0 a) ≡ true
    = ap (λ b. is_edge_entry b (scoped 0 a)) (base_after (first_of cert) cert.lines)
    ∙ ap (λ e. a.x == edge_element e false && a.y == edge_element e true)
    (first_elements d n marks cert w) ∙ edges_of d.elements a h.1 in
    let clear = subst (λ c. AreClear c cert.lines) (sym (first_same d n marks cert w)) w.lines.clear in
    record {
      version = v;
      board = w.board;
      player = w.player;
      verdict = subst (λ z. IsVerdict cert (Yes z a.carrier)) k
          (accepted cert a.carrier clear (record {
            entry = scoped 0 a;
            at = claimed d n marks a cert w h.0;
            kind_is = sym k;
            scope_is = refl;
            edges = edges;
            carrier_is = refl;
          }));
      writable = (
        record {
          version = inl v;
          lines = subst (λ z. All (IsLineOf z cert.board.size) cert.lines) (sym v)
              (subst (λ (p : Position). All (IsLineOf FIRST_VERSION p.size) cert.lines) (sym w.board) w.lines.form);
          entry = omega arith;
        },
        subst (λ z. length cert.lines ≤ most_lines z) (sym v) (omega arith),
      );
    }
