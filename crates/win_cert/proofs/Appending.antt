-- Lines that stand after others: what is read over, and the entries that stay.
use Rattle.std.proofs.Common.{◌≡◌, ℕ, ◌+◌, ◌<◌, List, [], ◌∷◌, ◌++◌, true, Option, Some, None, length}
use Rattle.std.proofs.Common.{refl, sym, ◌∙◌, ap, subst, arith}
use Rattle.std.specs.List.{slice_get}
use Rattle.std.specs.Option.{option_flatten}
use Rattle.std.proofs.lemmas.Option.{slice_get_within}
use Rattle.hex_board.specs.Positions.{Position}
use Rattle.conn_store.specs.declared.entries.Kind.{Kind}
use Rattle.win_cert.specs.Entries.{Context, ScopedEntry, entry_at, gives}
use Rattle.win_cert.specs.Showing.{GivesEdges, Shows}
use Rattle.win_cert.specs.Statements.{is_edge_entry}
use Rattle.win_cert.specs.declared.lines.Line.{Line}
use Rattle.win_cert.proofs.CutDerivations.{last_at, longer}
use Rattle.win_cert.proofs.GivenEntries.{at_left}
use Rattle.win_cert.specs.Contexts.{AreClear, after_lines, context_after}

pub after_append : (c : Context) (xs ys : List Line)
    → after_lines c (xs ++ ys) ≡ after_lines (after_lines c xs) ys
after_append c [] ys = refl
after_append c (x ∷ xs) ys = after_append (context_after c x) xs ys

pub clear_append : (c : Context) (xs ys : List Line) → AreClear c xs
    → AreClear (after_lines c xs) ys → AreClear c (xs ++ ys)
clear_append c [] ys h g = g
clear_append c (x ∷ xs) ys h g = (h.0, clear_append (context_after c x) xs ys h.1 g)

pub base_after : (c : Context) (xs : List Line) → (after_lines c xs).base ≡ c.base
base_after c [] = refl
base_after c (x ∷ xs) = base_after (context_after c x) xs

-- the number of the next line
pub length_after : (c : Context) (xs : List Line)
    → length (after_lines c xs).earlier ≡ length c.earlier + length xs
length_after c [] = omega arith
length_after c (x ∷ xs) =
    let e : length (after_lines (context_after c x) xs).earlier ≡ length
    (c.earlier ++ gives c x ∷ []) + length xs = length_after (context_after c x) xs in
    let l : length (c.earlier ++ gives c x ∷ []) ≡ length c.earlier + 1
    = longer c.earlier (gives c x) in
    omega arith

-- ---- entries stay

flat_out : {A : Type 0} (o : Option (Option A)) (a : A) → option_flatten o ≡ Some a
    → o ≡ Some (Some a)
flat_out None a h = absurd (cc)
flat_out (Some None) a h = absurd (cc)
flat_out (Some (Some b)) a h = ap Some h

-- an entry is that of a line before
pub entry_below : (c : Context) (i : ℕ) (a : ScopedEntry) → entry_at c i ≡ Some a
    → i < length c.earlier
entry_below c i a h = slice_get_within c.earlier i (Some a) (flat_out (slice_get c.earlier i) a h)

pub entry_kept : (c : Context) (line : Line) (i : ℕ) (a : ScopedEntry) → entry_at c i ≡ Some a
    → entry_at (context_after c line) i ≡ Some a
entry_kept c line i a h
    = ap option_flatten
    (at_left c.earlier (gives c line ∷ []) i (Some a) (flat_out (slice_get c.earlier i) a h))

pub entry_stays : (c : Context) (lines : List Line) (i : ℕ) (a : ScopedEntry)
    → entry_at c i ≡ Some a → entry_at (after_lines c lines) i ≡ Some a
entry_stays c [] i a h = h
entry_stays c (line ∷ lines) i a h
    = entry_stays (context_after c line) lines i a (entry_kept c line i a h)

-- the entry of the line itself
pub entry_last : (c : Context) (line : Line) (a : ScopedEntry) → gives c line ≡ Some a
    → entry_at (context_after c line) (length c.earlier) ≡ Some a
entry_last c line a h = ap option_flatten (last_at c.earlier (gives c line)) ∙ h

-- ---- what is shown stays

pub edges_stay : (c : Context) (lines : List Line) (kind : Kind) (s d i : ℕ)
    → GivesEdges c kind s d i → GivesEdges (after_lines c lines) kind s d i
edges_stay c lines kind s d i g = record {
  entry = g.entry;
  at = entry_stays c lines i g.entry g.at;
  kind_is = g.kind_is;
  scope_is = g.scope_is;
  edges = subst (λ b. is_edge_entry b g.entry ≡ true) (sym (base_after c lines)) g.edges;
  carrier_is = g.carrier_is;
}

-- what is shown is shown by more lines too
pub shown_on : (c : Context) (lines : List Line) (p : Position) (kind : Kind) (s i : ℕ)
    → Shows c p kind s i → Shows (after_lines c lines) p kind s i
shown_on c lines p kind s i h
    = record { carrier = h.carrier; gives = edges_stay c lines kind s h.carrier i h.gives; empty = h.empty; first = h.first }
