-- `put` and `cases`: the two lines that a ledger gets if each stone of the other's is answered.
use Rattle.std.proofs.Common.{◌≡◌, ℕ, ◌+◌, ◌≤◌, true, false, List, [], ◌∷◌, length, refl, sym, ◌∙◌}
use Rattle.std.proofs.Common.{ap, subst, inl, inr, arith}
use Rattle.std.proofs.lemmas.Bool.{cases_Bool, false_from_ne_true, true≢false}
use Rattle.std.proofs.lemmas.List.Elements.{All-cons, All-nil}
use Rattle.hex_cells.specs.Sets.{has}
use Rattle.hex_cells.specs.Colours.{other_of}
use Rattle.hex_board.specs.Positions.{AllEmpty, Position, is_empty_at, placed}
use Rattle.hex_board.proofs.Placed.{placed_empty}
use Rattle.conn_store.specs.declared.entries.Kind.TheVariants.{Full, Semi}
use Rattle.win_cert.specs.Writable.{AreNumbers, IsLineOf}
use Rattle.win_cert.specs.declared.certs.TheConstants.{SECOND_VERSION}
use Rattle.win_cert.specs.declared.lines.Line.TheVariants.{Put, Cases}
use Rattle.win_cert.specs.declared.lines.TheConstants.{MOST_NUMBER}
use Rattle.hex_solve.specs.Ledgers.{AnswerAll, AreAnswers, IsAmong, IsLedger, LedgerData, read_of}
use Rattle.win_cert.specs.Contexts.{after_lines}
use Rattle.win_cert.specs.Showing.{Keeps, Shows, scope_of}
use Rattle.hex_solve.proofs.TwoLines.{TwoShow}
use Rattle.win_cert.proofs.Reaching.{scope_other}
use Rattle.win_cert.proofs.Shown.{AreWays, no_ways, one_way, put_cases, two_at_least}
use Rattle.win_cert.proofs.ScopeLines.{Leaves, here, later}
use Rattle.hex_solve.proofs.AddedLines.{reached_there, shown_below}

-- the answers as ways, and a carrier for each
pub record Answering (d : LedgerData) (p : Position) (numbers cells : List ℕ) : Type 0 where
  pub carriers : List ℕ
  pub ways : AreWays (read_of d) p (scope_of d.base p) numbers carriers
  pub first : (c : ℕ) (rest : List ℕ) → carriers ≡ c ∷ rest → (k : ℕ) × (has c k ≡ true)
  pub leaves : (k : ℕ) → IsAmong k cells → Leaves k carriers
  pub bare : (k : ℕ) → is_empty_at p k ≡ false → (j : ℕ) → IsAmong j cells → Leaves k carriers
  pub small : AreNumbers numbers

pub none_first : (c : ℕ) (rest : List ℕ) → [] ≡ c ∷ rest → (k : ℕ) × (has c k ≡ true)
none_first c rest h = absurd (cc)

pub answering : (d : LedgerData) (p : Position) (numbers cells : List ℕ) → IsLedger d → d.lost ≡ 0
    → AreAnswers d p numbers cells → Answering d p numbers cells
answering d p [] [] w z f
    = record {
      carriers = [];
      ways = no_ways;
      first = none_first;
      leaves = λ k h. absurd h;
      bare = λ k h j i. absurd i;
      small = All-nil (λ v. v ≤ MOST_NUMBER);
    }
answering d p [] (k ∷ cells) w z f = absurd f
answering d p (i ∷ numbers) [] w z f = absurd f
answering d p (i ∷ numbers) (k ∷ cells) w z (f, e, g) =
    let r = answering d p numbers cells w z g in
    let q = placed p (other_of d.base.player) k in
    let s : Shows (read_of d) q Semi (scope_of d.base p) i
    = subst (λ v. Shows (read_of d) q Semi v i) (scope_other d.base p k) (f z) in
    let here_out : has s.carrier k ≡ false
    = false_from_ne_true (has s.carrier k)
    (λ t. (placed_empty p (other_of d.base.player) k k (s.empty k t)).1 refl) in
    let inside : AllEmpty p s.carrier
    = λ j h. (placed_empty p (other_of d.base.player) k j (s.empty j h)).0 in
    record {
      carriers = s.carrier ∷ r.carriers;
      ways = one_way i s.carrier numbers r.carriers s.gives inside r.ways;
      first = λ c rest h.
          let t = s.first refl in
          let e : s.carrier ≡ c = cc in
          (t.0, subst (λ v. has v t.0 ≡ true) e t.1);
      leaves = λ j h. elim h [
        | inl t ↦ here s.carrier r.carriers (ap (has s.carrier) t ∙ here_out)
        | inr t ↦ later s.carrier r.carriers (r.leaves j t)
      ];
      bare = λ j h m t. here s.carrier r.carriers
          (false_from_ne_true (has s.carrier j) (λ o. true≢false (sym (inside j o) ∙ h)));
      small = All-cons (λ v. v ≤ MOST_NUMBER) i numbers
          (shown_below d q Semi (scope_of d.base p) i w s) r.small;
    }

all_left : (d : LedgerData) (p : Position) (numbers : List ℕ) (a : AnswerAll d p numbers)
    (w : Answering d p numbers a.0) (j : ℕ) → is_empty_at p j ≡ true → (k : ℕ) → Leaves k w.carriers
all_left d p numbers a w j e k = elim (cases_Bool (is_empty_at p k)) [
  | inl t ↦ w.leaves k (a.2 k t)
  | inr t ↦ w.bare k t j (a.2 j e)
]

pub cases_two : (d : LedgerData) (p : Position) (s j : ℕ) (numbers : List ℕ) → IsLedger d
    → Keeps d.base.board p → s ≡ scope_of d.base p → is_empty_at p j ≡ true → AnswerAll d p numbers
    → d.lost ≡ 0
    → TwoShow d p Full (Put s) (Cases numbers)
cases_two d p s j numbers v k q e a z =
    let w = answering d p numbers a.0 v z a.1 in
    let r = put_cases (read_of d) p s numbers w.carriers (reached_there d p s k q)
    (subst (λ x. AreWays (read_of d) p x numbers w.carriers) (sym q) w.ways)
    (all_left d p numbers a w j e) in
    (r.0, subst (λ x. Shows (after_lines (read_of d) (Put s ∷ Cases numbers ∷ [])) p Full x (length (read_of d).earlier + 1)) q r.1)

pub cases_form : (d : LedgerData) (p : Position) (j : ℕ) (numbers : List ℕ) → IsLedger d
    → is_empty_at p j ≡ true → length numbers ≤ 121 → AnswerAll d p numbers → d.lost ≡ 0
    → IsLineOf SECOND_VERSION d.base.board.size (Cases numbers)
cases_form d p j numbers v e l a z =
    let w = answering d p numbers a.0 v z a.1 in
    let two : 2 ≤ length numbers
    = two_at_least numbers w.carriers (read_of d) p (scope_of d.base p) w.ways
    (all_left d p numbers a w j e) w.first in
    (omega arith, two, omega arith, w.small)
