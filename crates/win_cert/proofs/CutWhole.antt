-- The lines of a cut, one after the other: there is no reason against any, and they give the marked
-- ones of the store's entries.
use Rattle.std.proofs.Common.{◌≡◌, ℕ, ◌+◌, ◌<◌, ◌≤◌, true, false, Bool, List, [], ◌∷◌, ◌++◌, Some}
use Rattle.std.proofs.Common.{All, length, map, take, get_or, if◌then◌else◌, sym, ◌∙◌, ap, subst}
use Rattle.std.proofs.Common.{inl, inr, arith}
use Rattle.std.specs.List.{slice_get}
use Rattle.std.proofs.Math.ListN.{get_or-append}
use Rattle.std.proofs.Math.Seq.{get_or-append_seam}
use Rattle.std.proofs.lemmas.Bool.{cases_order, true≢false}
use Rattle.std.proofs.lemmas.List.{append-nil, map-append}
use Rattle.std.proofs.lemmas.List.Elements.{All-push}
use Rattle.std.proofs.lemmas.Option.{slice_get_within}
use Rattle.hex_board.specs.Elements.{PlayerBoard}
use Rattle.conn_store.specs.Rules.{FollowsFrom}
use Rattle.conn_store.specs.Stores.{IsSound, StoreData}
use Rattle.conn_store.specs.declared.entries.Cause.{Cause}
use Rattle.conn_store.specs.declared.entries.Cause.TheVariants.{Adjacent, AndGroup, AndEmpty, Or}
use Rattle.conn_store.specs.declared.entries.Entry.{Entry}
use Rattle.conn_store.specs.declared.entries.TheConstants.{MOST_ENTRIES}
use Rattle.conn_store.proofs.RuleTruth.{taken_back}
use Rattle.win_cert.specs.Contexts.{after_lines, context_after}
use Rattle.win_cert.specs.Cuts.{entries_numbered, premises, scoped}
use Rattle.win_cert.specs.Cutting.{AreLinesFor, IsClosedFrom, IsLineFor, given, is_marked}
use Rattle.win_cert.specs.Cutting.{report_context}
use Rattle.win_cert.specs.Entries.{Context, elements_at, entry_at}
use Rattle.win_cert.specs.Scopes.{elements_in, scope_after}
use Rattle.win_cert.specs.Writable.{IsLineOf}
use Rattle.win_cert.specs.declared.certs.TheConstants.{FIRST_VERSION}
use Rattle.win_cert.specs.declared.lines.Line.{Line}
use Rattle.win_cert.specs.declared.lines.Line.TheVariants.{Or2, Or3}
use Rattle.win_cert.proofs.Appending.{after_append, base_after, clear_append, entry_below}
use Rattle.win_cert.proofs.Appending.{entry_kept, entry_last, length_after}
use Rattle.win_cert.proofs.CutDerivations.{longer, name_earlier, some_at, some_entry}
use Rattle.win_cert.proofs.CutLines.{AreOrdered, IsPlaced, IsSmallAt, line_form, line_right}
use Rattle.win_cert.proofs.CutSteps.{IsRight, unscoped_board}
use Rattle.win_cert.proofs.Supports.{picked_next}

-- ---- the scope stays

or_stays : (s p q r : ℕ) (two : Bool) (line : Line) → line ≡ (if two then Or2 p q else Or3 p q r)
    → scope_after s (line ∷ []) ≡ s
or_stays s p q r true line h = ap (λ v. scope_after s (v ∷ [])) h
or_stays s p q r false line h = ap (λ v. scope_after s (v ∷ [])) h

scope_stays : (e : PlayerBoard) (renamed : List ℕ) (a : Entry) (cause : Cause) (line : Line) (s : ℕ)
    → IsLineFor e renamed a cause line → scope_after s (line ∷ []) ≡ s
scope_stays e renamed a Adjacent line s (x, y, q, v, w) = ap (λ v. scope_after s (v ∷ [])) q
scope_stays e renamed a (AndGroup i j) line s h = ap (λ v. scope_after s (v ∷ [])) h
scope_stays e renamed a (AndEmpty i j) line s h = ap (λ v. scope_after s (v ∷ [])) h
scope_stays e renamed a (Or numbers count) line s h = or_stays s _ _ _ _ line h.1

-- ---- one line more

-- the board over which the next line is read is the store's
read_on : (d : StoreData) (marks : List Bool) (n : ℕ) (lines : List Line) (renamed : List ℕ)
    → AreLinesFor d marks n lines renamed
    → elements_at (after_lines (report_context d) lines) ≡ d.elements
read_on d marks n lines renamed w =
    let cx = after_lines (report_context d) lines in
    ap (λ (b : PlayerBoard). elements_in b cx.scope) (base_after (report_context d) lines)
    ∙ ap (elements_in d.elements) w.scope ∙ unscoped_board d.elements

-- the next line gives the next entry
next_right : (d : StoreData) (marks : List Bool) (n : ℕ) (lines : List Line) (renamed : List ℕ)
    (a : Entry) (line : Line) → AreLinesFor d marks n lines renamed → IsSound d
    → IsClosedFrom d.entries marks 0 → slice_get d.entries n ≡ Some a → is_marked marks n ≡ true
    → IsLineFor d.elements (renamed ++ length lines ∷ []) a a.cause line
    → IsRight (after_lines (report_context d) lines) line a
next_right d marks n lines renamed a line w s closed at known form =
    let cx = after_lines (report_context d) lines in
    let more = renamed ++ length lines ∷ [] in
    let from = take n d.entries in
    let k : length renamed ≡ n = w.number in
    let same = read_on d marks n lines renamed w in
    let marked : All (λ j. is_marked marks j ≡ true) (premises a.cause)
    = closed n a (omega arith) known at in
    let placed : All (IsPlaced cx more from) (premises a.cause) = λ i z l. λ b h.
    let j : ℕ = get_or (premises a.cause) i z in
    let lj : j < n = name_earlier d s n a at i z l in
    ap (entry_at cx) (get_or-append renamed (length lines ∷ []) 0 j (omega (arith, lj)))
    ∙ w.places j b lj (marked i z l) (taken_back d.entries n j b h)
    ∙ ap (λ v. Some (scoped v b)) (sym w.scope) in
    let ordered : AreOrdered from = λ i b h. (s.valid i b (taken_back d.entries n i b h)).order in
    line_right cx more from a line a.cause ordered (s.valid n a at).order
    (subst (λ b. FollowsFrom b from a) (sym same) (s.follows n a at))
    (subst (λ b. IsLineFor b more a a.cause line) (sym same) form) placed

-- the numbers of the lines can be written
next_form : (d : StoreData) (marks : List Bool) (n : ℕ) (lines : List Line) (renamed : List ℕ)
    (a : Entry) (line : Line) → AreLinesFor d marks n lines renamed → IsSound d
    → length d.entries ≤ MOST_ENTRIES → IsClosedFrom d.entries marks 0
    → slice_get d.entries n ≡ Some a → is_marked marks n ≡ true
    → IsLineFor d.elements (renamed ++ length lines ∷ []) a a.cause line
    → IsLineOf FIRST_VERSION d.elements.board.size line
next_form d marks n lines renamed a line w s most closed at known form =
    let cx = after_lines (report_context d) lines in
    let k : length renamed ≡ n = w.number in
    let f : length lines ≤ n = w.few in
    let more = renamed ++ length lines ∷ [] in
    let inside : n < length d.entries = slice_get_within d.entries n a at in
    let largest : length d.entries ≤ 75030 = most in
    let long : length cx.earlier ≡ 0 + length lines = length_after (report_context d) lines in
    let small : All (IsSmallAt more) (premises a.cause) = λ i z l.
    let j : ℕ = get_or (premises a.cause) i z in
    let lj : j < n = name_earlier d s n a at i z l in
    let b = some_at d.entries j (omega (arith, lj)) in
    let below : get_or renamed j 0 < length cx.earlier = entry_below cx (get_or renamed j 0)
    (scoped 0 b.0) (w.places j b.0 lj (closed n a (omega arith) known at i z l) b.1) in
    subst (λ v. v ≤ 999999)
    (sym (get_or-append renamed (length lines ∷ []) 0 j (omega (arith, lj)))) (omega (arith, below)) in
    line_form d.elements more a line a.cause form small

pub one_more : (d : StoreData) (marks : List Bool) (n : ℕ) (lines : List Line) (renamed : List ℕ)
    (a : Entry) (line : Line) → AreLinesFor d marks n lines renamed → IsSound d
    → length d.entries ≤ MOST_ENTRIES → IsClosedFrom d.entries marks 0
    → slice_get d.entries n ≡ Some a → is_marked marks n ≡ true
    → IsLineFor d.elements (renamed ++ length lines ∷ []) a a.cause line
    → AreLinesFor d marks (n + 1) (lines ++ line ∷ []) (renamed ++ length lines ∷ [])
one_more d marks n lines renamed a line w s most closed at known form =
    let cx = after_lines (report_context d) lines in
    let more = renamed ++ length lines ∷ [] in
    let k : length renamed ≡ n = w.number in
    let f : length lines ≤ n = w.few in
    let l : length (lines ++ line ∷ []) ≡ length lines + 1 = longer lines line in
    let right = next_right d marks n lines renamed a line w s closed at known form in
    let gives = right.0 ∙ ap (λ v. Some (scoped v a)) w.scope in
    let next : after_lines (report_context d) (lines ++ line ∷ []) ≡ context_after cx line
    = after_append (report_context d) lines (line ∷ []) in
    let long : length cx.earlier ≡ 0 + length lines = length_after (report_context d) lines in
    let last : get_or more n 0 ≡ length cx.earlier = ap (λ v. get_or more v 0) (sym k)
    ∙ get_or-append_seam renamed (length lines) [] 0 ∙ omega (arith, long) in
    record {
      number = longer renamed (length lines) ∙ ap (λ z. z + 1) k;
      few = omega arith;
      form = All-push (IsLineOf FIRST_VERSION d.elements.board.size) lines line w.form
          (next_form d marks n lines renamed a line w s most closed at known form);
      clear = clear_append (report_context d) lines (line ∷ []) w.clear (right.1, tt);
      scope = ap (λ (x : Context). x.scope) next
          ∙ scope_stays d.elements more a a.cause line cx.scope form ∙ w.scope;
      gives = ap (λ (x : Context). x.earlier) next ∙ ap (λ o. cx.earlier ++ o ∷ []) gives
          ∙ ap (λ es. es ++ given a ∷ []) w.gives
          ∙ sym (map-append given (entries_numbered (is_marked marks) (take n d.entries)) (a ∷ []))
          ∙ ap (map given) (sym (picked_next (is_marked marks) d.entries n a true at known));
      places = λ i b l h g. ap (λ (x : Context). entry_at x (get_or more i 0)) next
          ∙ elim (cases_order i n) [
            | inl p ↦
                let is : a ≡ b = some_entry a b (sym at ∙ ap (slice_get d.entries) (sym p) ∙ g) in
                ap (entry_at (context_after cx line)) (ap (λ v. get_or more v 0) p ∙ last)
                ∙ entry_last cx line (scoped cx.scope a) right.0
                ∙ ap (λ v. Some (scoped v a)) w.scope ∙ ap given is
            | inr (inl p) ↦ ap (entry_at (context_after cx line))
                (get_or-append renamed (length lines ∷ []) 0 i (omega (arith, p)))
                ∙ entry_kept cx line (get_or renamed i 0) (scoped 0 b) (w.places i b p h g)
            | inr (inr p) ↦ absurd (omega arith)
          ];
    }

-- an entry that is not marked has no line
pub none_more : (d : StoreData) (marks : List Bool) (n : ℕ) (lines : List Line) (renamed : List ℕ)
    (a : Entry) → AreLinesFor d marks n lines renamed → slice_get d.entries n ≡ Some a
    → is_marked marks n ≡ false → AreLinesFor d marks (n + 1) lines (renamed ++ length lines ∷ [])
none_more d marks n lines renamed a w at h =
    let k : length renamed ≡ n = w.number in
    let f : length lines ≤ n = w.few in
    record {
      number = longer renamed (length lines) ∙ ap (λ z. z + 1) k;
      few = omega arith;
      form = w.form;
      clear = w.clear;
      scope = w.scope;
      gives = w.gives
          ∙ ap (map given) (sym (picked_next (is_marked marks) d.entries n a false at h
          ∙ append-nil (entries_numbered (is_marked marks) (take n d.entries))));
      places = λ i b l g q. elim (cases_order i n) [
        | inl p ↦ absurd (true≢false (sym g ∙ ap (is_marked marks) p ∙ h))
        | inr (inl p) ↦ ap (entry_at (after_lines (report_context d) lines))
            (get_or-append renamed (length lines ∷ []) 0 i (omega (arith, p))) ∙ w.places i b p g q
        | inr (inr p) ↦ absurd (omega arith)
      ];
    }
