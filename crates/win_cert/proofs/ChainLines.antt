-- The lines `and` and `key`: what they give of good entries that share an element is good.
use Rattle.std.proofs.Common.{◌≡◌, ℕ, ◌||◌, true, false, Bool, List, [], ◌∷◌, Option, Some, None}
use Rattle.std.proofs.Common.{bit_or, option_and_then, option_map, refl, sym, subst}
use Rattle.std.specs.Int.Bits.{or_zero_r}
use Rattle.std.specs.Option.{is_some, option_map_or}
use Rattle.hex_cells.specs.Sets.{with_cell}
use Rattle.hex_board.specs.Elements.{PlayerBoard}
use Rattle.hex_board.specs.Places.{cell_of}
use Rattle.conn_store.specs.declared.entries.Kind.TheVariants.{Full, Semi}
use Rattle.win_cert.specs.Entries.{Context, ScopedEntry, and_entry, carriers_of, elements_at}
use Rattle.win_cert.specs.Entries.{entry_between, key_entry, middle_of, other_end}
use Rattle.win_cert.specs.Reasons.{holds_of_chain}
use Rattle.win_cert.specs.Statements.{is_cell_in, is_chain, is_or, kind_taken, scope_taken}
use Rattle.win_cert.specs.Statements.{share_cell}
use Rattle.win_cert.specs.declared.statements.Statement.{Statement}
use Rattle.win_cert.proofs.GoodEntries.{IsGood, good_between, good_cell, good_group}
use Rattle.win_cert.proofs.NamedEntries.{Each, IsGoodEntry, IsLineTaken}
use Rattle.win_cert.proofs.ScopeBoards.{IsSmallBoard}
use Rattle.win_cert.proofs.Middles.{IsChainOver, chain_over, is_cell, is_group, middle_ends}
use Rattle.win_cert.proofs.Middles.{other_differs, taken_good}

-- what is given is the entry
pub given_is : (c : Context) (a r : ScopedEntry) → Some a ≡ Some r → IsGoodEntry c.base a
    → IsGoodEntry c.base r
given_is c a r e g = let q : a ≡ r = cc in subst (λ v. IsGoodEntry c.base v) q g

-- whether an end of one is a cell of the other's carrier
abbrev pub ends_meet : PlayerBoard → ScopedEntry → ScopedEntry → ℕ → Bool
ends_meet e a b u = is_cell_in e (other_end a u) b.carrier || is_cell_in e (other_end b u) a.carrier

-- ---- `and`

and_over : (c : Context) (a b r : ScopedEntry) (o : Option ℕ) → IsSmallBoard (elements_at c)
    → IsGood (elements_at c) Full a.x a.y a.carrier → IsGood (elements_at c) Full b.x b.y b.carrier
    → middle_of a b ≡ o → share_cell (a ∷ b ∷ []) ≡ false
    → option_map_or (ends_meet (elements_at c) a b) o false ≡ false
    → option_map_or (λ u. is_some (cell_of (elements_at c) u)) o false ≡ false
    → option_map (λ u. entry_between c Full (other_end a u) (other_end b u) (carriers_of (a ∷ b ∷ []))) o ≡ Some r → IsGoodEntry c.base r
and_over c a b r None m g h q f n t e = absurd (cc)
and_over c a b r (Some u) m g h q f n t e =
    let w = chain_over (elements_at c) a b u m g h q f n in
    let x = other_end a u in
    let y = other_end b u in
    given_is c (entry_between c Full x y (carriers_of (a ∷ b ∷ []))) r e
    (good_between (elements_at c) Full x y (bit_or a.carrier (bit_or b.carrier 0))
    (subst (λ v. IsGood (elements_at c) Full x y (bit_or a.carrier v)) (sym (or_zero_r b.carrier))
    (good_group (elements_at c) x u y a.carrier b.carrier m w.first w.second w.apart w.first_end w.second_end (is_group (elements_at c) u t))))

pub and_good : (c : Context) (s : Statement) (entries : List ScopedEntry) (r : ScopedEntry)
    → kind_taken s ≡ Full → scope_taken c s ≡ c.scope → IsSmallBoard (elements_at c)
    → Each (IsLineTaken c s) entries → share_cell entries ≡ false
    → holds_of_chain (ends_meet (elements_at c)) entries ≡ false
    → holds_of_chain (λ a b u. is_some (cell_of (elements_at c) u)) entries ≡ false
    → and_entry c entries ≡ Some r → IsGoodEntry c.base r
and_good c s [] r p q m g f n t e = absurd (cc)
and_good c s (a ∷ []) r p q m g f n t e = absurd (cc)
and_good c s (a ∷ b ∷ []) r p q m g f n t e
    = and_over c a b r (middle_of a b) m (taken_good c s Full a p q g.0)
    (taken_good c s Full b p q g.1.0) refl f n t e
and_good c s (a ∷ b ∷ d ∷ entries) r p q m g f n t e = absurd (cc)

-- ---- `key`

key_at : (c : Context) (a b r : ScopedEntry) (u : ℕ) (o : Option ℕ) → IsSmallBoard (elements_at c)
    → IsChainOver (elements_at c) a b u
    → (other_end a u ≡ u → ⊥) → (other_end b u ≡ u → ⊥) → cell_of (elements_at c) u ≡ o
    → option_map (λ k. entry_between c Semi (other_end a u) (other_end b u) (with_cell (carriers_of (a ∷ b ∷ [])) k)) o ≡ Some r → IsGoodEntry c.base r
key_at c a b r u None m w nx ny h e = absurd (cc)
key_at c a b r u (Some k) m w nx ny h e =
    let x = other_end a u in
    let y = other_end b u in
    given_is c (entry_between c Semi x y (with_cell (carriers_of (a ∷ b ∷ [])) k)) r e
    (good_between (elements_at c) Semi x y (with_cell (bit_or a.carrier (bit_or b.carrier 0)) k)
    (subst (λ v. IsGood (elements_at c) Semi x y (with_cell (bit_or a.carrier v) k)) (sym (or_zero_r b.carrier))
    (good_cell (elements_at c) x u y a.carrier b.carrier k m w.first w.second w.apart w.first_end w.second_end (is_cell (elements_at c) u k h) nx ny)))

key_over : (c : Context) (s : Statement) (a b r : ScopedEntry) (o : Option ℕ) → kind_taken s ≡ Full
    → scope_taken c s ≡ c.scope → IsSmallBoard (elements_at c) → IsLineTaken c s a
    → IsLineTaken c s b
    → (a.x ≡ a.y → ⊥) → (b.x ≡ b.y → ⊥)
    → middle_of a b ≡ o → share_cell (a ∷ b ∷ []) ≡ false
    → option_map_or (ends_meet (elements_at c) a b) o false ≡ false
    → option_and_then
    (λ u. option_map (λ k. entry_between c Semi (other_end a u) (other_end b u) (with_cell (carriers_of (a ∷ b ∷ [])) k)) (cell_of (elements_at c) u)) o
    ≡ Some r
    → IsGoodEntry c.base r
key_over c s a b r None p q m g h na nb i f n e = absurd (cc)
key_over c s a b r (Some u) p q m g h na nb i f n e =
    let t = middle_ends a b u i in
    key_at c a b r u (cell_of (elements_at c) u) m
    (chain_over (elements_at c) a b u m (taken_good c s Full a p q g) (taken_good c s Full b p q h) i f n)
    (other_differs a u na t.0) (other_differs b u nb t.1) refl e

pub key_good : (c : Context) (s : Statement) (entries : List ScopedEntry) (r : ScopedEntry)
    → kind_taken s ≡ Full → scope_taken c s ≡ c.scope → ((is_chain s || is_or s) ≡ true)
    → IsSmallBoard (elements_at c)
    → Each (IsLineTaken c s) entries → share_cell entries ≡ false
    → holds_of_chain (ends_meet (elements_at c)) entries ≡ false → key_entry c entries ≡ Some r
    → IsGoodEntry c.base r
key_good c s [] r p q l m g f n e = absurd (cc)
key_good c s (a ∷ []) r p q l m g f n e = absurd (cc)
key_good c s (a ∷ b ∷ []) r p q l m g f n e = key_over c s a b r (middle_of a b) p q m g.0 g.1.0
    (g.0.named.differ l) (g.1.0.named.differ l) refl f n e
key_good c s (a ∷ b ∷ d ∷ entries) r p q l m g f n e = absurd (cc)
