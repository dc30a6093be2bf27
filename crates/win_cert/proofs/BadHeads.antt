-- The lines before the one that is refused are good.
use Rattle.std.proofs.Common.{◌≡◌, ◌≢◌, ℕ, ◌+◌, ◌-◌, ◌≤◌, suc, inl, inr, List, [], ◌∷◌, ◌++◌}
use Rattle.std.proofs.Common.{length, take, Option, Some, Ok, Err, refl, ap, sym, ◌∙◌, subst, codes}
use Rattle.std.proofs.Common.{arith}
use Rattle.std.specs.Fmt.{decimal}
use Rattle.std.proofs.lemmas.List.Elements.{All-nil}
use Rattle.hex_cells.proofs.Bits.{has_none}
use Rattle.hex_board.specs.Positions.{Within}
use Rattle.hex_cells.specs.declared.colours.Colour.{Colour}
use Rattle.hex_cells.specs.declared.colours.Colour.TheVariants.{Black}
use Rattle.conn_store.specs.declared.entries.Kind.TheVariants.{Full}
use Rattle.win_cert.specs.Lines.{Steps, at_line, cert_in, cert_of, certs_of, head_in, line_in}
use Rattle.win_cert.specs.Lines.{lines_of, player_in, size_in, steps_in, stones_in, version_in}
use Rattle.win_cert.specs.Readings.{HasGoodLines}
use Rattle.win_cert.specs.Texts.{cert_words, colour_word}
use Rattle.win_cert.specs.Writable.{HasBoard, HasSpelling, IsVersion}
use Rattle.win_cert.specs.declared.certs.Cert.{Cert}
use Rattle.win_cert.specs.declared.certs.TheConstants.{FIRST_VERSION, LATEST_VERSION}
use Rattle.win_cert.specs.declared.heads.Head.{Head}
use Rattle.win_cert.specs.declared.refusals.CertError.TheVariants.{NotCert}
use Rattle.win_cert.proofs.BadLines.{bad_means, cut_at, step_lines}
use Rattle.win_cert.proofs.CellLists.{none_within}
use Rattle.win_cert.proofs.HeadMeans.{IsHead, TextLines, at_line_ok, bind_ok, same_ok, head_lines}
use Rattle.win_cert.proofs.HeadMeans.{head_means, is_version, line_means, number_after_means}
use Rattle.win_cert.proofs.HeadMeans.{player_means, stones_mean}
use Rattle.win_cert.proofs.LineParts.{lines_some}
use Rattle.win_cert.proofs.Options.{some_of_map}
use Rattle.win_cert.proofs.WordParts.{Words}
use Rattle.win_cert.proofs.HeadStages.{none_or, tail5, tail4, tail3, tail2, bound5}
use Rattle.win_cert.proofs.GoodFronts.{bind_err, steps_err, take_front, cons_some, words_count}

-- ---- a bad line

abbrev pub start_of : ℕ → ℕ → ℕ → Colour → Head
start_of v n b p
    = record { version = v; board = record { size = n; black = b; white = 0 }; player = p }

pub start_good : (v n b : ℕ) (p : Colour) → IsVersion v → 1 ≤ n → n ≤ 11
    → Within n b → IsHead (start_of v n b p)
start_good v n b p version least most on = record {
  version = version;
  board = record { least = least; most = most; apart = λ k a z. let none = has_none k in cc; black_on = on; white_on = none_within n };
}

pub record IsBadHead (lines : TextLines) (m : ℕ) : Type 0 where
  pub head : Head
  pub j : ℕ
  pub rest : TextLines
  pub is : lines ≡ take j (head_lines head) ++ rest
  pub more : rest ≢ []
  pub good : IsHead head
  pub few : j ≤ 4
  pub count : j + 1 ≡ m

pub rest_some : {A : Type 0} (said : Words → Option A) (lines : TextLines) (p : A × TextLines)
    → line_in said lines ≡ Some p → p.1 ≢ []
rest_some {A} said [] p e z = cc
rest_some {A} said (words ∷ []) p e z = cc
rest_some {A} said (words ∷ next ∷ lines) p e z =
    let m = some_of_map (λ (a : A). (a, next ∷ lines)) (said words) p e in
    let same : next ∷ lines ≡ p.1 = ap (λ (q : A × TextLines). q.1) m.2 in
    cons_some next lines (same ∙ z)

pub after_head : (lines : TextLines) (p : Head × TextLines) → head_in lines ≡ Ok p → p.1 ≢ []
after_head lines p e z =
    let v = bind_ok (at_line 1 (line_in version_in lines)) _ p e in
    let n = bind_ok (at_line 2 (line_in size_in v.0.1)) _ p v.2 in
    let c = bind_ok (at_line 3 (line_in player_in n.0.1)) _ p n.2 in
    let b = bind_ok (at_line 4 (line_in (stones_in (codes "black") n.0.0 0) c.0.1)) _ p c.2 in
    let w = bind_ok (at_line 5 (line_in (stones_in (codes "white") n.0.0 b.0.0) b.0.1)) _ p b.2 in
    let head : Head
    = record { version = v.0.0; board = record { size = n.0.0; black = b.0.0; white = w.0.0 }; player = c.0.0 } in
    let is : ◌≡◌ {A = Head × TextLines} (head, w.0.1) p = same_ok (head, w.0.1) p w.2 in
    rest_some (stones_in (codes "white") n.0.0 b.0.0) b.0.1 w.0
    (at_line_ok 5 (line_in (stones_in (codes "white") n.0.0 b.0.0) b.0.1) w.0 w.1)
    (ap (λ (q : Head × TextLines). q.1) is ∙ z)

pub bad_head : (lines : TextLines) (m : ℕ) → lines ≢ [] → head_in lines ≡ Err (NotCert m)
    → IsBadHead lines m
unfolding tail5 tail4 tail3 tail2
bad_head lines m some e = elim (none_or 1 m (line_in version_in lines) (λ v. tail2 v.0 v.1) e) [
  | inl same ↦ record {
    head = start_of 1 1 0 Black;
    j = 0;
    rest = lines;
    is = refl;
    more = some;
    good = start_good 1 1 0 Black (inl refl) (omega arith) (omega arith) (none_within 1);
    few = omega arith;
    count = same;
  }
  | inr v ↦
      let v_line = line_means version_in lines v.0 v.1 in
      let version = number_after_means
      (codes "hexcert") FIRST_VERSION LATEST_VERSION v_line.words v.0.0 v_line.says in
      let v_good = is_version v.0.0 version.low version.high in
      let v_is : lines ≡ (codes "hexcert" ∷ decimal v.0.0 ∷ []) ∷ v.0.1 = v_line.is
      ∙ ap (λ w. w ∷ v.0.1) version.is in
      elim (none_or 2 m (line_in size_in v.0.1) (λ n. tail3 v.0.0 n.0 n.1) v.2) [
        | inl same ↦ record {
          head = start_of v.0.0 1 0 Black;
          j = 1;
          rest = v.0.1;
          is = v_is;
          more = rest_some version_in lines v.0 v.1;
          good = start_good v.0.0 1 0 Black v_good (omega arith) (omega arith) (none_within 1);
          few = omega arith;
          count = same;
        }
        | inr n ↦
            let n_line = line_means size_in v.0.1 n.0 n.1 in
            let size = number_after_means (codes "size") 1 11 n_line.words n.0.0 n_line.says in
            let n_is : lines ≡ (codes "hexcert" ∷ decimal v.0.0 ∷ []) ∷ (codes "size" ∷ decimal n.0.0 ∷ []) ∷ n.0.1 =
            v_is ∙ ap (λ ls. (codes "hexcert" ∷ decimal v.0.0 ∷ []) ∷ ls)
            (n_line.is ∙ ap (λ w. w ∷ n.0.1) size.is) in
            elim (none_or 3 m (line_in player_in n.0.1) (λ p. tail4 v.0.0 n.0.0 p.0 p.1) n.2) [
              | inl same ↦ record {
                head = start_of v.0.0 n.0.0 0 Black;
                j = 2;
                rest = n.0.1;
                is = n_is;
                more = rest_some size_in v.0.1 n.0 n.1;
                good = start_good v.0.0 n.0.0 0 Black v_good size.low size.high (none_within n.0.0);
                few = omega arith;
                count = same;
              }
              | inr p ↦
                  let p_line = line_means player_in n.0.1 p.0 p.1 in
                  let player = player_means p_line.words p.0.0 p_line.says in
                  let p_is : lines ≡ (codes "hexcert" ∷ decimal v.0.0 ∷ []) ∷ (codes "size" ∷ decimal n.0.0 ∷ []) ∷ (codes "player" ∷ colour_word p.0.0 ∷ [])
                  ∷ p.0.1 =
                  n_is ∙ ap (λ ls. (codes "hexcert" ∷ decimal v.0.0 ∷ []) ∷ (codes "size" ∷ decimal n.0.0 ∷ []) ∷ ls) (p_line.is
                  ∙ ap (λ w. w ∷ p.0.1) player) in
                  elim (none_or 4 m (line_in (stones_in (codes "black") n.0.0 0) p.0.1) (λ b. tail5 v.0.0 n.0.0 p.0.0 b.0 b.1) p.2) [
                    | inl same ↦ record {
                      head = start_of v.0.0 n.0.0 0 p.0.0;
                      j = 3;
                      rest = p.0.1;
                      is = p_is;
                      more = rest_some player_in n.0.1 p.0 p.1;
                      good = start_good v.0.0 n.0.0 0 p.0.0 v_good size.low size.high
                          (none_within n.0.0);
                      few = omega arith;
                      count = same;
                    }
                    | inr b ↦
                        let b_line = line_means (stones_in (codes "black") n.0.0 0) p.0.1 b.0 b.1 in
                        let black = stones_mean
                        (codes "black") n.0.0 0 b_line.words b.0.0 b_line.says in
                        record {
                          head = start_of v.0.0 n.0.0 b.0.0 p.0.0;
                          j = 4;
                          rest = b.0.1;
                          is = p_is ∙ ap (λ ls. (codes "hexcert" ∷ decimal v.0.0 ∷ []) ∷ (codes "size" ∷ decimal n.0.0 ∷ [])
                              ∷ (codes "player" ∷ colour_word p.0.0 ∷ []) ∷ ls)
                              (b_line.is ∙ ap (λ w. w ∷ b.0.1) black.is);
                          more = rest_some (stones_in (codes "black") n.0.0 0) p.0.1 b.0 b.1;
                          good = start_good v.0.0 n.0.0 b.0.0 p.0.0 v_good size.low size.high black.on_board;
                          few = omega arith;
                          count = bound5 v.0.0 n.0.0 p.0.0 b.0.0 b.0.1 m b.2;
                        }
                  ]
            ]
      ]
]

pub good_lines : (bytes : List ℕ) (cert : Cert) (j : ℕ) (rest : TextLines) → HasBoard cert
    → HasSpelling cert → j ≤ length cert.lines + 6 → rest ≢ []
    → lines_of bytes ≡ take j (cert_words cert) ++ rest → HasGoodLines bytes j
good_lines bytes cert j rest board good few some cut =
    let text = cut_at bytes (take j (cert_words cert)) rest some cut in
    let count = words_count cert in
    (cert, text.0, board, good, omega (arith, few, count), text.1)

-- the lines before the one that is refused are good
pub good_lines_before : (bytes : List ℕ) (m : ℕ) → cert_in (lines_of bytes) ≡ Err (NotCert m)
    → HasGoodLines bytes (m - 1)
good_lines_before bytes m e
    = elim (bind_err (head_in (lines_of bytes)) (λ (h : Head × TextLines). certs_of h.0 h.1) (NotCert m) e) [
      | inl h ↦
          let bad = bad_head (lines_of bytes) m (lines_some bytes) h in
          let cert : Cert = cert_of bad.head ([], (Full, 0)) in
          let s : Steps = ([], (Full, 0)) in
          let few = bad.few in
          let count = bad.count in
          let at : bad.j ≡ m - 1 = omega (arith, count) in
          let cut : lines_of bytes ≡ take bad.j (cert_words cert) ++ bad.rest =
          bad.is ∙ ap (λ front. front ++ bad.rest)
          (sym (take_front bad.j (head_lines bad.head) (step_lines bad.head.board.size s) (omega (arith, few)))) in
          subst (HasGoodLines bytes) at (good_lines bytes cert bad.j bad.rest bad.good.board
          (record { version = bad.good.version; lines = All-nil _; entry = omega arith })
          (omega (arith, few)) bad.more cut)
      | inr a ↦
          let head : Head = a.0.0 in
          let good = head_means (lines_of bytes) a.0 a.1 in
          let bad = bad_means head.version head.board.size 0 m a.0.1
          (after_head (lines_of bytes) a.0 a.1)
          (steps_err head (steps_in head.version head.board.size 0 a.0.1) (NotCert m) a.2) in
          let cert : Cert = cert_of head bad.s in
          let count = bad.count in
          let long = bad.long in
          let at : suc (suc (suc (suc (suc bad.j)))) ≡ m - 1 = omega (arith, count) in
          let cut : lines_of bytes ≡ take (suc (suc (suc (suc (suc bad.j)))))
          (cert_words cert) ++ bad.rest =
          good.1 ∙ ap (λ rest. head_lines head ++ rest) bad.is in
          subst (HasGoodLines bytes) at
          (good_lines bytes cert (suc (suc (suc (suc (suc bad.j))))) bad.rest good.0.board
          (record { version = good.0.version; lines = bad.good; entry = bad.entry })
          (omega (arith, long)) bad.more cut)
    ]
