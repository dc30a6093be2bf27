-- A line of a cut gives the store's entry in the line's scope, and there is no reason against it.
use Rattle.std.proofs.Common.{◌≡◌, ℕ, ◌<◌, ◌==◌, ◌&&◌, ◌||◌, not, true, false, Bool, List, [], ◌∷◌}
use Rattle.std.proofs.Common.{Option, Some, None, min, max, bit_or, option_map, option_and_then}
use Rattle.std.proofs.Common.{if◌then◌else◌, refl, sym, ◌∙◌, ap, arith}
use Rattle.std.specs.List.{list_all}
use Rattle.std.specs.Int.Bits.{or_zero_r}
use Rattle.std.specs.Option.{is_none, is_some, option_map_or}
use Rattle.std.proofs.lemmas.Bool.{eq-eqb, false≢true, ne_eqb, true≢false, or_from}
use Rattle.std.proofs.lemmas.Bool.{and_right as and_no}
use Rattle.hex_cells.specs.Sets.{has, with_cell}
use Rattle.hex_cells.specs.declared.colours.Colour.{Colour}
use Rattle.hex_cells.specs.declared.colours.Colour.TheVariants.{Black, White}
use Rattle.hex_board.specs.Elements.{PlayerBoard}
use Rattle.hex_board.specs.Places.{cell_of, is_near}
use Rattle.hex_board.specs.Positions.{Position}
use Rattle.conn_store.specs.Entries.{IsBetween}
use Rattle.conn_store.specs.Rules.{AndRule, IsCell, IsGroup, both_of}
use Rattle.conn_store.specs.Stores.{same_kind}
use Rattle.conn_store.specs.declared.entries.Entry.{Entry}
use Rattle.conn_store.specs.declared.entries.Kind.{Kind}
use Rattle.conn_store.specs.declared.entries.Kind.TheVariants.{Full, Semi}
use Rattle.win_cert.specs.Cuts.{scoped}
use Rattle.win_cert.specs.Entries.{Context, ScopedEntry, adj_entry, and_entry, carriers_of}
use Rattle.win_cert.specs.Entries.{elements_at, end_element, entries_at, entry_at, entry_between}
use Rattle.win_cert.specs.Entries.{gives, key_entry, middle_of, other_end}
use Rattle.win_cert.specs.Reasons.{reason_against, is_bad_reference, is_wrong_scope}
use Rattle.win_cert.specs.Reasons.{is_wrong_colour, are_not_neighbours, has_no_middle}
use Rattle.win_cert.specs.Reasons.{do_carriers_meet, is_end_in_carrier, is_middle_wrong}
use Rattle.win_cert.specs.Reasons.{holds_of_chain}
use Rattle.win_cert.specs.declared.reasons.Reason.{Reason}
use Rattle.win_cert.specs.declared.reasons.Reason.TheVariants.{BadReference, WrongColour}
use Rattle.win_cert.specs.declared.reasons.Reason.TheVariants.{NotNeighbours, NoCommonMiddle}
use Rattle.win_cert.specs.declared.reasons.Reason.TheVariants.{CarriersMeet, EndInCarrier}
use Rattle.win_cert.specs.declared.reasons.Reason.TheVariants.{MiddleKind, EndsDiffer, CommonCell}
use Rattle.win_cert.specs.declared.reasons.Reason.TheVariants.{WrongScope}
use Rattle.win_cert.specs.Scopes.{elements_in, with_stones}
use Rattle.win_cert.specs.Statements.{are_near, is_chain, is_or, have_same_ends, is_cell_in}
use Rattle.win_cert.specs.Statements.{is_other_stone, kind_taken, may_take, share_cell}
use Rattle.win_cert.specs.declared.statements.Statement.{Statement}
use Rattle.win_cert.specs.declared.statements.Statement.TheVariants.{Derivation}
use Rattle.win_cert.specs.declared.lines.End.{End}
use Rattle.win_cert.specs.declared.lines.Line.{Line}
use Rattle.win_cert.specs.declared.lines.Line.TheVariants.{Adj, And, Key, Or2, Or3, OrMany}
use Rattle.win_cert.proofs.CutChains.{ends_are, group_none, middle_is, missed, none_shared}
use Rattle.win_cert.proofs.CutChains.{other_is, two_at}
use Rattle.win_cert.proofs.LinksOn.{cell_is}
use Rattle.conn_store.proofs.RuleEntries.{both_full}
use Rattle.hsearch.proofs.Orders.{turned_pair}

-- ---- the board of the empty scope

pub with_none : (p : Position) (c : Colour) → with_stones p c 0 ≡ p
with_none p Black = ap (λ s. record { size = p.size; black = s; white = p.white })
    (or_zero_r p.black)
with_none p White = ap (λ s. record { size = p.size; black = p.black; white = s })
    (or_zero_r p.white)

pub unscoped_board : (e : PlayerBoard) → elements_in e 0 ≡ e
unscoped_board e = ap (λ p. record { board = p; player = e.player }) (with_none e.board e.player)

-- ---- reasons that are told in turn

abbrev pub told : Bool → Reason → Option Reason → Option Reason
told test reason other = if test then Some reason else other

pub told_next : (b : Bool) (r : Reason) (o : Option Reason) → b ≡ false → o ≡ None
    → told b r o ≡ None
told_next true r o h e = absurd (true≢false h)
told_next false r o h e = e

chain_clear : (p q r s t u : Bool) → p ≡ false → q ≡ false → r ≡ false → s ≡ false
    → t ≡ false → u ≡ false
    → told p BadReference
    (told q WrongScope (told r NoCommonMiddle (told s CarriersMeet (told t EndInCarrier (told u MiddleKind None))))) ≡ None
chain_clear p q r s t u a b c d e f
    = told_next p BadReference _ a
    (told_next q WrongScope _ b
    (told_next r NoCommonMiddle _ c (told_next s CarriersMeet _ d (told_next t EndInCarrier _ e (told_next u MiddleKind _ f refl)))))

-- ---- the entry that is given

abbrev pub made : Kind → ℕ → ℕ → ℕ → ℕ → ScopedEntry
made kind x y c s = record { kind = kind; x = x; y = y; carrier = c; scope = s }

pub same_entry : (a : Entry) (kind : Kind) (x y c s : ℕ) → kind ≡ a.kind → x ≡ a.x → y ≡ a.y
    → c ≡ a.carrier → made kind x y c s ≡ scoped s a
same_entry a kind x y c s h i j k = ap (λ v. made v x y c s) h ∙ ap (λ v. made a.kind v y c s) i
    ∙ ap (λ v. made a.kind a.x v c s) j ∙ ap (λ v. made a.kind a.x a.y v s) k

-- a line gives the entry, and there is no reason against it
abbrev pub IsRight : Context → Line → Entry → Type 0
IsRight c line a = (gives c line ≡ Some (scoped c.scope a))
    × (reason_against c (Derivation line) ≡ None)

-- ---- `adj`

pub adj_reasons : (c : Context) (x y : End)
    → reason_against c (Derivation (Adj x y)) ≡ told
    (is_wrong_colour c (Derivation (Adj x y))) WrongColour
    (told (are_not_neighbours c (Derivation (Adj x y))) NotNeighbours None)
unfolding reason_against
adj_reasons c x y = refl

near_yes : (e : PlayerBoard) (x y : ℕ) → is_near e x y ≡ true → not (is_near e x y) ≡ false
near_yes e x y n = ap not n

pub adj_right : (c : Context) (a : Entry) (x y : End) → a.x < a.y
    → is_near (elements_at c) a.x a.y ≡ true → a.kind ≡ Full → a.carrier ≡ 0
    → end_element (elements_at c) x ≡ Some a.x → end_element (elements_at c) y ≡ Some a.y
    → is_other_stone (elements_at c) x ≡ false → is_other_stone (elements_at c) y ≡ false
    → IsRight c (Adj x y) a
adj_right c a x y l n k z h i p q =
    let d = elements_at c in
    let lx : min a.x a.y ≡ a.x = omega arith in
    let ly : max a.x a.y ≡ a.y = omega arith in (
      ap (λ o. adj_entry c o (end_element d y)) h ∙ ap (λ o. adj_entry c (Some a.x) o) i
          ∙ ap Some (same_entry a Full (min a.x a.y) (max a.x a.y) 0 c.scope (sym k) lx ly (sym z)),
      adj_reasons c x y ∙ told_next (is_wrong_colour c (Derivation (Adj x y))) WrongColour
          (told (are_not_neighbours c (Derivation (Adj x y))) NotNeighbours None)
          (or_from (is_other_stone d x) (is_other_stone d y) p q)
          (told_next (are_not_neighbours c (Derivation (Adj x y))) NotNeighbours None
          (ap (λ o. not (are_near d o (end_element d y))) h ∙ ap (λ o. not (are_near d (Some a.x) o)) i ∙ near_yes d a.x a.y n) refl),
    )

-- ---- `and` and `key`

-- the reason against an `and` or a `key`
abbrev chain_reason : Context → Statement → Option Reason
chain_reason c s
    = told (is_bad_reference c s) BadReference
    (told (is_wrong_scope c s) WrongScope (told (has_no_middle c s) NoCommonMiddle
    (told (do_carriers_meet c s) CarriersMeet (told (is_end_in_carrier c s) EndInCarrier (told (is_middle_wrong c s) MiddleKind None)))))

and_reasons : (c : Context) (i j : ℕ) → reason_against c (Derivation (And i j)) ≡ chain_reason c
    (Derivation (And i j))
unfolding reason_against
and_reasons c i j = refl

key_reasons : (c : Context) (i j : ℕ) → reason_against c (Derivation (Key i j)) ≡ chain_reason c
    (Derivation (Key i j))
unfolding reason_against
key_reasons c i j = refl

-- what a rule of AND over u asks, of the entries that two numbers name
pub record IsChainAt (c : Context) (i j : ℕ) (a b : Entry) (x u y : ℕ) : Type 0 where
  pub first : entry_at c i ≡ Some (scoped c.scope a)
  pub second : entry_at c j ≡ Some (scoped c.scope b)
  pub first_order : a.x < a.y
  pub second_order : b.x < b.y
  pub rule : AndRule (elements_at c) a b x u y

between_differ : (a : Entry) (x y : ℕ) → IsBetween a x y → a.x < a.y → x ≡ y → ⊥
between_differ a x y h l e = let p : a.x ≡ min x y = h.0 in let q : a.y ≡ max x y = h.1 in
    absurd (omega arith)

full_taken : (s : Statement) (a : Entry) (b : Bool) → kind_taken s ≡ Full → a.kind ≡ Full
    → a.x < a.y → (same_kind a.kind (kind_taken s) && not (b && a.x == a.y)) ≡ true
full_taken s a b h k l = ap (λ v. same_kind v (kind_taken s) && not (b && a.x == a.y)) k
    ∙ ap (λ v. same_kind Full v && not (b && a.x == a.y)) h
    ∙ ap not (and_no b (a.x == a.y) (ne_eqb a.x a.y (λ q. absurd (omega arith))))

bad_two : (p q : Bool) → p ≡ true → q ≡ true → not (p && (q && true)) ≡ false
bad_two true true h k = refl
bad_two true false h k = absurd (false≢true k)
bad_two false q h k = absurd (false≢true h)

two_scopes : (s : ℕ) → not (s == s && (s == s && true)) ≡ false
two_scopes s = bad_two (s == s) (s == s) (eq-eqb s s refl) (eq-eqb s s refl)

module _ (c : Context) (i j : ℕ) (a b : Entry) (x u y : ℕ) (w : IsChainAt c i j a b x u y) where
  chain_middle : middle_of (scoped c.scope a) (scoped c.scope b) ≡ Some u
  chain_middle =
      let r = w.rule.chain in
      let t = turned_pair b u y r.second in
      middle_is (scoped c.scope a) (scoped c.scope b) x u y
      (ends_are (scoped c.scope a) x u r.first.0 r.first.1)
      (ends_are (scoped c.scope b) y u t.0 t.1)
      (between_differ a x u r.first w.first_order) r.ends

  chain_first : other_end (scoped c.scope a) u ≡ x
  chain_first = let r = w.rule.chain.first in
      other_is (scoped c.scope a) x u (ends_are (scoped c.scope a) x u r.0 r.1)
      (between_differ a x u r w.first_order)

  chain_second : other_end (scoped c.scope b) u ≡ y
  chain_second = let t = turned_pair b u y w.rule.chain.second in
      other_is (scoped c.scope b) y u (ends_are (scoped c.scope b) y u t.0 t.1)
      (between_differ b y u t w.second_order)

  chain_pair : entries_at c (i ∷ j ∷ []) ≡ scoped c.scope a ∷ scoped c.scope b ∷ []
  chain_pair = two_at c i j (scoped c.scope a) (scoped c.scope b) w.first w.second

  -- whether something holds of the two entries and their middle
  holds_is : (test : ScopedEntry → ScopedEntry → ℕ → Bool)
      → holds_of_chain test (entries_at c (i ∷ j ∷ [])) ≡ test (scoped c.scope a) (scoped c.scope b) u
  holds_is test = ap (holds_of_chain test) chain_pair
      ∙ ap (λ o. option_map_or (test (scoped c.scope a) (scoped c.scope b)) o false) chain_middle

  chain_taken : (s : Statement) → kind_taken s ≡ Full
      → not (may_take s (entry_at c i) && (may_take s (entry_at c j) && true)) ≡ false
  chain_taken s h = bad_two (may_take s (entry_at c i)) (may_take s (entry_at c j))
      (ap (may_take s) w.first ∙ full_taken s a (is_chain s || is_or s) h w.rule.first_kind w.first_order)
      (ap (may_take s) w.second ∙ full_taken s b (is_chain s || is_or s) h w.rule.second_kind w.second_order)

  chain_apart : share_cell (entries_at c (i ∷ j ∷ [])) ≡ false
  chain_apart = ap share_cell chain_pair ∙ none_shared (scoped c.scope a ∷ scoped c.scope b ∷ [])
      (λ k. both_full (has a.carrier k) (has b.carrier k) (w.rule.apart k))

  chain_ends : holds_of_chain
      (λ v w z. is_cell_in (elements_at c) (other_end v z) w.carrier || is_cell_in (elements_at c) (other_end w z) v.carrier)
      (entries_at c (i ∷ j ∷ [])) ≡ false
  chain_ends =
      let d = elements_at c in
      holds_is (λ v w z. is_cell_in d (other_end v z) w.carrier || is_cell_in d (other_end w z) v.carrier)
      ∙ or_from (is_cell_in d (other_end (scoped c.scope a) u) b.carrier)
      (is_cell_in d (other_end (scoped c.scope b) u) a.carrier)
      (ap (λ v. is_cell_in d v b.carrier) chain_first ∙ missed d x b.carrier w.rule.first_end)
      (ap (λ v. is_cell_in d v a.carrier) chain_second ∙ missed d y a.carrier w.rule.second_end)

  chain_scope : not (list_all (λ v. v.scope == c.scope) (entries_at c (i ∷ j ∷ []))) ≡ false
  chain_scope = ap (λ v. not (list_all (λ v. v.scope == c.scope) v)) chain_pair ∙ two_scopes c.scope

  pub and_right : (r : Entry) → IsGroup (elements_at c) u → IsBetween r x y → r.kind ≡ Full
      → r.carrier ≡ both_of a b → IsRight c (And i j) r
  and_right r g h k m =
      let s = Derivation (And i j) in
      let d = elements_at c in
      let all = carriers_of (scoped c.scope a ∷ scoped c.scope b ∷ []) in (
        ap (and_entry c) chain_pair
            ∙ ap (option_map (λ v. entry_between c Full (other_end (scoped c.scope a) v) (other_end (scoped c.scope b) v) all)) chain_middle
            ∙ ap (λ v. Some (entry_between c Full v (other_end (scoped c.scope b) u) all)) chain_first
            ∙ ap (λ v. Some (entry_between c Full x v all)) chain_second
            ∙ ap Some (same_entry r Full (min x y) (max x y) all c.scope (sym k) (sym h.0) (sym h.1) (ap (bit_or a.carrier) (or_zero_r b.carrier) ∙ sym m)),
        and_reasons c i j ∙ chain_clear (is_bad_reference c s) (is_wrong_scope c s)
            (has_no_middle c s) (do_carriers_meet c s) (is_end_in_carrier c s) (is_middle_wrong c s)
            (chain_taken s refl) chain_scope (ap not (holds_is (λ v w z. true))) chain_apart
            chain_ends (holds_is (λ v w z. is_some (cell_of d z)) ∙ group_none d u g),
      )

  pub key_right : (r : Entry) (k : ℕ) → IsCell (elements_at c) u k → IsBetween r x y
      → r.kind ≡ Semi → r.carrier ≡ with_cell (both_of a b) k → IsRight c (Key i j) r
  key_right r k g h n m =
      let s = Derivation (Key i j) in
      let d = elements_at c in
      let all = carriers_of (scoped c.scope a ∷ scoped c.scope b ∷ []) in
      let f : ℕ → ℕ → ScopedEntry = λ v q. entry_between c Semi (other_end (scoped c.scope a) v)
      (other_end (scoped c.scope b) v) (with_cell all q) in (
        ap (key_entry c) chain_pair
            ∙ ap (option_and_then (λ v. option_map (f v) (cell_of d v))) chain_middle
            ∙ ap (option_map (f u)) (cell_is d u k g)
            ∙ ap (λ v. Some (entry_between c Semi v (other_end (scoped c.scope b) u) (with_cell all k))) chain_first
            ∙ ap (λ v. Some (entry_between c Semi x v (with_cell all k))) chain_second
            ∙ ap Some
            (same_entry r Semi (min x y) (max x y) (with_cell all k) c.scope (sym n) (sym h.0) (sym h.1)
            (ap (λ v. with_cell (bit_or a.carrier v) k) (or_zero_r b.carrier) ∙ sym m)),
        key_reasons c i j ∙ chain_clear (is_bad_reference c s) (is_wrong_scope c s)
            (has_no_middle c s) (do_carriers_meet c s) (is_end_in_carrier c s) (is_middle_wrong c s)
            (chain_taken s refl) chain_scope (ap not (holds_is (λ v w z. true))) chain_apart
            chain_ends (holds_is (λ v w z. is_none (cell_of d z)) ∙ ap is_none (cell_is d u k g)),
      )

-- ---- `or`

-- the reason against an `or` of these numbers
abbrev pub or_reason : Context → Statement → List ℕ → Option Reason
or_reason c s numbers =
    told (not (list_all (λ i. may_take s (entry_at c i)) numbers)) BadReference
    (told (not (list_all (λ a. a.scope == c.scope) (entries_at c numbers))) WrongScope
    (told (not (have_same_ends (entries_at c numbers))) EndsDiffer
    (told (share_cell (entries_at c numbers)) CommonCell None)))

pub two_reasons : (c : Context) (i j : ℕ) → reason_against c (Derivation (Or2 i j)) ≡ or_reason c
    (Derivation (Or2 i j)) (i ∷ j ∷ [])
unfolding reason_against
two_reasons c i j = refl

pub three_reasons : (c : Context) (i j k : ℕ)
    → reason_against c (Derivation (Or3 i j k)) ≡ or_reason c (Derivation (Or3 i j k))
    (i ∷ j ∷ k ∷ [])
unfolding reason_against
three_reasons c i j k = refl

pub many_reasons : (c : Context) (numbers : List ℕ)
    → reason_against c (Derivation (OrMany numbers)) ≡ or_reason c (Derivation (OrMany numbers))
    numbers
unfolding reason_against
many_reasons c numbers = refl

pub or_clear : (p q r s : Bool) → p ≡ false → q ≡ false → r ≡ false → s ≡ false
    → told p BadReference (told q WrongScope (told r EndsDiffer (told s CommonCell None))) ≡ None
or_clear p q r s a b c d
    = told_next p BadReference _ a
    (told_next q WrongScope _ b (told_next r EndsDiffer _ c (told_next s CommonCell _ d refl)))

pub bad_one : (p : Bool) → p ≡ true → not (p && true) ≡ false
bad_one true h = refl
bad_one false h = absurd (false≢true h)
