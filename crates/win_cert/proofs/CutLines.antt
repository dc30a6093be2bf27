-- The line for an entry that follows from earlier ones is right, in any scope, and is one of the
-- first version.
use Rattle.std.proofs.Common.{◌≡◌, ℕ, ◌<◌, ◌≤◌, ◌==◌, true, false, Bool, List, [], ◌∷◌, Some, All}
use Rattle.std.proofs.Common.{length, map, take, get_or, refl, sym, ◌∙◌, ap, subst, zero}
use Rattle.std.proofs.Common.{suc, if◌then◌else◌, arith}
use Rattle.std.specs.List.{slice_get}
use Rattle.std.proofs.Math.Seq.{take-nil}
use Rattle.std.proofs.lemmas.Bool.{ne_eqb}
use Rattle.std.proofs.lemmas.List.{length-map}
use Rattle.std.proofs.lemmas.List.Elements.{All-head, All-map, All-tail}
use Rattle.hex_board.specs.Elements.{PlayerBoard}
use Rattle.conn_store.specs.Rules.{AndRule, AreAt, FollowsBy, OrRule, union_of}
use Rattle.conn_store.specs.declared.entries.Cause.{Cause}
use Rattle.conn_store.specs.declared.entries.Cause.TheVariants.{Adjacent, AndGroup, AndEmpty, Or}
use Rattle.conn_store.specs.declared.entries.Entry.{Entry}
use Rattle.conn_store.specs.declared.entries.Kind.TheVariants.{Full}
use Rattle.win_cert.specs.Cuts.{premises, scoped}
use Rattle.win_cert.specs.Cutting.{IsLineFor}
use Rattle.win_cert.specs.Entries.{Context, elements_at, entry_at}
use Rattle.win_cert.specs.Writable.{AreNumbers, IsLineOf}
use Rattle.win_cert.specs.declared.certs.TheConstants.{FIRST_VERSION}
use Rattle.win_cert.specs.declared.lines.Line.{Line}
use Rattle.win_cert.specs.declared.lines.Line.TheVariants.{Or2, Or3}
use Rattle.win_cert.specs.declared.lines.TheConstants.{MOST_NUMBER}
use Rattle.win_cert.proofs.CutSteps.{IsChainAt, IsRight, adj_right, and_right, key_right}
use Rattle.win_cert.proofs.CutSteps.{three_reasons, two_reasons}
use Rattle.win_cert.proofs.ManyLines.{AreThere, few_ways, ways_right}

-- the entry with number i was given by the line with its new number
abbrev pub IsPlaced : Context → List ℕ → List Entry → ℕ → Type 0
IsPlaced cx renamed from i = (b : Entry) → slice_get from i ≡ Some b
    → entry_at cx (get_or renamed i 0) ≡ Some (scoped cx.scope b)

pub first_at : (from : List Entry) (i : ℕ) (numbers : List ℕ) (a : Entry) (ways : List Entry)
    → AreAt from (i ∷ numbers) (a ∷ ways) → (slice_get from i ≡ Some a) × AreAt from numbers ways
first_at from i numbers a ways h = (cc, cc)

pub second_in : (P : ℕ → Type 0) (i j : ℕ) (rest : List ℕ) → All P (i ∷ j ∷ rest) → P j
second_in P i j rest h = All-head P j rest (All-tail P i (j ∷ rest) h)

pub third_in : (P : ℕ → Type 0) (i j k : ℕ) (rest : List ℕ) → All P (i ∷ j ∷ k ∷ rest) → P k
third_in P i j k rest h = second_in P j k rest (All-tail P i (j ∷ k ∷ rest) h)

-- the entries that are named, the lesser element of each first
abbrev pub AreOrdered : List Entry → Type 0
AreOrdered from = (i : ℕ) (b : Entry) → slice_get from i ≡ Some b → b.x < b.y

-- ---- each rule

-- ways that two or three of the numbers name
pub number_of_ways : (from : List Entry) (numbers : List ℕ) (ways : List Entry)
    → AreAt from numbers ways → length ways ≡ length numbers
number_of_ways from numbers ways h = sym (length-map ways Some) ∙ sym (ap length h)
    ∙ length-map numbers (slice_get from)

module _ (cx : Context) (renamed : List ℕ) (from : List Entry) where
  -- if the entries with these numbers are placed, the lines with their new numbers gave them
  all_placed : (numbers : List ℕ) (ways : List Entry) → AreAt from numbers ways
      → All (IsPlaced cx renamed from) numbers → AreThere cx (map (λ i. get_or renamed i 0) numbers) ways
  all_placed [] [] t p = refl
  all_placed [] (a ∷ ways) t p = absurd (cc)
  all_placed (i ∷ numbers) [] t p = absurd (cc)
  all_placed (i ∷ numbers) (a ∷ ways) t p =
      let P = IsPlaced cx renamed from in
      let w = first_at from i numbers a ways t in
      ap (λ o. o ∷ map (entry_at cx) (map (λ i. get_or renamed i 0) numbers)) (All-head P i numbers p a w.0)
      ∙ ap (λ l. Some (scoped cx.scope a) ∷ l) (all_placed numbers ways w.1 (All-tail P i numbers p))

  or_right : (a : Entry) (line : Line) (numbers : List ℕ) (count : ℕ) (ways : List Entry)
      → a.x < a.y → length numbers ≡ 3 → AreAt from (take count numbers) ways
      → OrRule ways a.x a.y → a.kind ≡ Full → a.carrier ≡ union_of ways
      → All (IsPlaced cx renamed from) (premises (Or numbers count))
      → IsLineFor (elements_at cx) renamed a (Or numbers count) line → IsRight cx line a
  or_right a line [] count ways l n t r k c p h = absurd (cc)
  or_right a line (i ∷ []) count ways l n t r k c p h = absurd (cc)
  or_right a line (i ∷ j ∷ []) count ways l n t r k c p h = absurd (cc)
  or_right a line (i ∷ j ∷ m ∷ u ∷ numbers) count ways l n t r k c p h = absurd (cc)
  or_right a line (i ∷ j ∷ m ∷ []) zero ways l n t r k c p h
      = absurd (few_ways ways a.x a.y 0 r (number_of_ways from [] ways t) (omega arith))
  or_right a line (i ∷ j ∷ m ∷ []) (suc zero) ways l n t r k c p h
      = absurd (few_ways ways a.x a.y 1 r (number_of_ways from (i ∷ []) ways t) (omega arith))
  or_right a line (i ∷ j ∷ m ∷ []) (suc (suc zero)) ways l n t r k c p h =
      let x : ℕ = get_or renamed i 0 in
      let y : ℕ = get_or renamed j 0 in
      subst (λ v. IsRight cx v a) (sym h.1)
      (ways_right cx (Or2 x y) (x ∷ y ∷ []) ways a refl (two_reasons cx x y) refl l (all_placed (i ∷ j ∷ []) ways t p) r k c)
  or_right a line (i ∷ j ∷ m ∷ []) (suc (suc (suc count))) ways l n t r k c p h =
      let x : ℕ = get_or renamed i 0 in
      let y : ℕ = get_or renamed j 0 in
      let z : ℕ = get_or renamed m 0 in
      let no = ne_eqb (suc (suc (suc count))) 2 (λ q. absurd (omega arith)) in
      let all = subst (λ v. All (IsPlaced cx renamed from) (i ∷ j ∷ (if v then [] else m ∷ []))) no p in
      let at = subst (λ v. AreAt from (i ∷ j ∷ m ∷ v) ways) (take-nil count) t in
      subst (λ v. IsRight cx v a) (sym (h.1 ∙ ap (λ v. if v then Or2 x y else Or3 x y z) no))
      (ways_right cx (Or3 x y z) (x ∷ y ∷ z ∷ []) ways a refl (three_reasons cx x y z) refl l (all_placed (i ∷ j ∷ m ∷ []) ways at all) r k c)

  chain_at : (a b : Entry) (x u y i j : ℕ) → AreOrdered from → AreAt from (i ∷ j ∷ []) (a ∷ b ∷ [])
      → AndRule (elements_at cx) a b x u y → All (IsPlaced cx renamed from) (i ∷ j ∷ [])
      → IsChainAt cx (get_or renamed i 0) (get_or renamed j 0) a b x u y
  chain_at a b x u y i j o t r p =
      let v = first_at from i (j ∷ []) a (b ∷ []) t in
      let w = first_at from j [] b [] v.1 in
      record {
        first = All-head (IsPlaced cx renamed from) i (j ∷ []) p a v.0;
        second = second_in (IsPlaced cx renamed from) i j [] p b w.0;
        first_order = o i a v.0;
        second_order = o j b w.0;
        rule = r;
      }

  -- the line for an entry that follows from earlier ones is right
  pub line_right : (a : Entry) (line : Line) (cause : Cause) → AreOrdered from → a.x < a.y
      → FollowsBy (elements_at cx) from a cause → IsLineFor (elements_at cx) renamed a cause line
      → All (IsPlaced cx renamed from) (premises cause) → IsRight cx line a
  line_right a line Adjacent o l f (x, y, q, v, w) p
      = subst (λ z. IsRight cx z a) (sym q)
      (adj_right cx a x y l f.0 f.1 f.2 v.element w.element v.other w.other)
  line_right a line (AndGroup i j) o l (b, d, x, u, y, t, r, g, w, k, c) h p
      = subst (λ z. IsRight cx z a) (sym h)
      (and_right cx (get_or renamed i 0) (get_or renamed j 0) b d x u y (chain_at b d x u y i j o t r p) a g w k c)
  line_right a line (AndEmpty i j) o l (b, d, x, u, y, z, t, r, g, w, k, c) h p
      = subst (λ v. IsRight cx v a) (sym h)
      (key_right cx (get_or renamed i 0) (get_or renamed j 0) b d x u y (chain_at b d x u y i j o t r p) a z g w k c)
  line_right a line (Or numbers count) o l (ways, t, r, k, c) h p
      = or_right a line numbers count ways l h.0 t r k c p h

-- ---- the form of the line

-- the new number of entry i can be written
abbrev pub IsSmallAt : List ℕ → ℕ → Type 0
IsSmallAt renamed i = get_or renamed i 0 ≤ MOST_NUMBER

all_small : (renamed numbers : List ℕ) → All (IsSmallAt renamed) numbers
    → AreNumbers (map (λ i. get_or renamed i 0) numbers)
all_small renamed numbers s
    = All-map (λ v. v ≤ MOST_NUMBER) (λ i. get_or renamed i 0) numbers s

or_form : (n : ℕ) (renamed : List ℕ) (i j k : ℕ) (two : Bool)
    → All (IsSmallAt renamed) (i ∷ j ∷ (if two then [] else k ∷ []))
    → IsLineOf FIRST_VERSION n
    (if two then Or2 (get_or renamed i 0) (get_or renamed j 0)
    else Or3 (get_or renamed i 0) (get_or renamed j 0) (get_or renamed k 0))
or_form n renamed i j k true s = all_small renamed (i ∷ j ∷ []) s
or_form n renamed i j k false s = all_small renamed (i ∷ j ∷ k ∷ []) s

pub line_form : (e : PlayerBoard) (renamed : List ℕ) (a : Entry) (line : Line) (cause : Cause)
    → IsLineFor e renamed a cause line → All (IsSmallAt renamed) (premises cause)
    → IsLineOf FIRST_VERSION e.board.size line
line_form e renamed a line Adjacent (x, y, q, v, w) s
    = subst (IsLineOf FIRST_VERSION e.board.size) (sym q) (v.place, w.place)
line_form e renamed a line (AndGroup i j) h s
    = subst (IsLineOf FIRST_VERSION e.board.size) (sym h) (all_small renamed (i ∷ j ∷ []) s)
line_form e renamed a line (AndEmpty i j) h s
    = subst (IsLineOf FIRST_VERSION e.board.size) (sym h) (all_small renamed (i ∷ j ∷ []) s)
line_form e renamed a line (Or numbers count) h s
    = subst (IsLineOf FIRST_VERSION e.board.size) (sym h.1)
    (or_form e.board.size renamed (get_or numbers 0 0) (get_or numbers 1 0) (get_or numbers 2 0) (count == 2) s)
