-- What the search of a position finds, as its code goes.
use Rattle.std.proofs.Common.{◌≡◌, ℕ, ◌+◌, ◌-◌, ◌*◌, ◌<◌, ◌≤◌, true, false, Bool, List, [], ◌∷◌}
use Rattle.std.proofs.Common.{◌++◌, sym, ◌∙◌, ap, subst, arith}
use Rattle.hex_cells.specs.Colours.{other_of}
use Rattle.hex_cells.specs.Sets.{has, without_cell}
use Rattle.hex_cells.specs.declared.colours.Colour.{Colour}
use Rattle.hex_board.specs.Joined.{is_joined}
use Rattle.hex_board.specs.Positions.{Position, is_empty_at, placed, stones_of}
use Rattle.hex_board.specs.Wins.{empty_count}
use Rattle.hex_board.proofs.Placed.{placed_keeps, placed_size}
use Rattle.hex_board.proofs.WinLaws.{one_empty_less}
use Rattle.conn_store.specs.declared.entries.Kind.TheVariants.{Full, Semi}
use Rattle.hex_solve.specs.Deciding.{lines_needed, positions_needed}
use Rattle.hex_solve.specs.Ledgers.{CountsBy, GrowsBy, IsLedger, LedgerData, ShowsWin, count_of}
use Rattle.hex_solve.specs.Marks.{IsBefore, mark_of}
use Rattle.hex_solve.specs.Solved.{IsOpenBoard}
use Rattle.hex_solve.specs.PlainSearch.{IsSearch, IsShownBy, IsSearchEnd, tree_lines}
use Rattle.std.specs.Prelude.{Ok}
use Rattle.hex_solve.specs.declared.plain_search.Found.{Found}
use Rattle.hex_solve.specs.declared.plain_search.SearchEnd.{SearchEnd}
use Rattle.hex_solve.specs.declared.plain_search.SearchEnd.TheVariants.{Spent, Open, Memory}
use Rattle.win_cert.specs.Showing.{Keeps}
use Rattle.hex_solve.specs.declared.ledgers.Mark.{Mark}
use Rattle.hex_solve.proofs.LedgerLaws.{counts_on, grows_on}
use Rattle.hex_cells.proofs.ColourLaws.{other_back}
use Rattle.hex_solve.proofs.Growing.{grows_wider}
use Rattle.hex_solve.proofs.NextPositions.{lines_after}
use Rattle.hex_solve.proofs.Trying.{IsTrying, trying_on}
use Rattle.hex_solve.proofs.TryingEnds.{trying_done, trying_spent, trying_won}

keeps_back : (p full : Position) (player : Colour) (k : ℕ) → Keeps (placed p player k) full
    → Keeps p full
keeps_back p full player k h = record {
  size = h.size ∙ placed_size p player k;
  stones = λ c j i. h.stones c j (placed_keeps p player k c j i);
  on_board = h.on_board;
  apart = h.apart;
}

-- the search stopped after a stone on the least cell
pub stop_on : (p next : Position) (mover player : Colour) (own start other : LedgerData)
    (most left : ℕ) (numbers : List ℕ) (cells k : ℕ) (stop : SearchEnd)
    → IsTrying p mover own start other most left numbers cells → has cells k ≡ true
    → ((j : ℕ) → j < k → has cells j ≡ false) → next ≡ placed p mover k
    → player ≡ other_of mover
    → IsSearchEnd next player left stop → IsSearchEnd p mover (most + 1) stop
stop_on p next mover player own start other most left numbers cells k Spent w h n e f s =
    trying_spent p mover own start other most left numbers cells k w h n
    (subst (λ (q : Position). left < positions_needed q (other_of mover)) e (subst (λ (c : Colour). left < positions_needed next c) f s))
stop_on p next mover player own start other most left numbers cells k (Open full) w h n e f s =
    let t : IsOpenBoard (placed p mover k) full
    = subst (λ (q : Position). IsOpenBoard q full) e s in
    record { keeps = keeps_back p full mover k t.keeps; filled = t.filled; unjoined = t.unjoined }
stop_on p next mover player own start other most left numbers cells k Memory w h n e f s = tt

-- what the child's search found, told of the position after the stone
pub child_is : (p next : Position) (mover player : Colour) (k left rest : ℕ)
    (old new : LedgerData × LedgerData) (found : Found) (by : Bool) → next ≡ placed p mover k
    → player ≡ other_of mover
    → found.by_mover ≡ by → IsSearch next player left rest old new (Ok found)
    → (rest + positions_needed (placed p mover k) (other_of mover) ≡ left) × IsShownBy by (placed p mover k)
    (other_of mover) found.line old new
child_is p next mover player k left rest old new found by e f g s =
    let a = subst (λ (q : Position). (rest + positions_needed q player ≡ left) × IsShownBy found.by_mover q player found.line old new) e s in
    let b = subst (λ (c : Colour). (rest + positions_needed (placed p mover k) c ≡ left) × IsShownBy found.by_mover (placed p mover k) c found.line old
    new) f a in
    subst (λ (t : Bool). (rest + positions_needed (placed p mover k) (other_of mover) ≡ left) × IsShownBy t (placed p mover k) (other_of mover) found.line
    old new) g b

-- the mover wins by a stone
pub mover_wins : (p : Position) (mover : Colour)
    (begun own start other mine theirs last back : LedgerData) (most left rest : ℕ)
    (numbers : List ℕ) (cells k i line : ℕ) (mark : Mark)
    → IsTrying p mover own start other most left numbers cells → own ≡ begun
    → is_joined p.size (other_of mover) (stones_of p (other_of mover)) ≡ false
    → has cells k ≡ true
    → ((j : ℕ) → j < k → has cells j ≡ false) → IsLedger start → mark ≡ mark_of start
    → (rest + positions_needed (placed p mover k) (other_of mover) ≡ left) × IsShownBy false (placed p mover k)
    (other_of mover) i (other, own) (theirs, mine)
    → GrowsBy 2 mine last → CountsBy 2 mine last → ShowsWin last p Semi line
    → ((old : LedgerData) → IsBefore old mark theirs → back ≡ old)
    → (rest + positions_needed p mover ≡ most + 1) × IsShownBy true p mover line (begun, start) (last, back)
mover_wins p mover begun own start other mine theirs last back most left rest numbers cells k i line mark w e a h n ledger at (r, (g, s, q, f, b, x)) grow
    more show undo =
    let m : ℕ = positions_needed (placed p mover k) (other_of mover) in
    let win = trying_won p mover own start other most left rest numbers cells k w a h n r f in
    let before : IsBefore start mark theirs
    = record {
      ledger = ledger;
      mark_is = at;
      base = ap (λ (d : LedgerData). d.base) q ∙ w.grows.base;
      more = w.grows.more;
      lines = ap
          (λ (d : LedgerData). d.lines) q ∙ w.grows.lines;
    } in (
      win.entered,
      (
        subst (λ (d : LedgerData). GrowsBy (2 * positions_needed p mover) d last) e
            (grows_wider (2 * m + 2) (2 * positions_needed p mover) own last (wide m (positions_needed p mover) win.more)
            (grows_on (2 * m) 2 own mine last g grow)),
        show,
        undo start before,
        win.first,
        subst (λ v. count_of last ≤ count_of begun + tree_lines Semi v)
            (sym (one_empty_less p mover k (w.inside k h)))
            (two_more (count_of last) (count_of mine) (count_of own) (count_of begun) (tree_lines Full (empty_count (placed p mover k))) grow.count b
            (ap count_of e)),
        subst (λ (d : LedgerData). CountsBy (lines_needed mover p mover) d last) e
            (subst (λ v. CountsBy v own last) (sym win.after)
            (counts_on (lines_after mover p mover k) 2 own mine last grow.lost (subst (λ (c : Colour). CountsBy
            (lines_needed c (placed p mover k) (other_of mover)) own mine) (other_back mover) x) more)),
      ),
    )
  where
    two_more : (x y z s t : ℕ) → x ≤ y + 2 → y ≤ z + t → z ≡ s → x ≤ s + (2 + t)
    two_more x y z s t l m q = omega arith

    wide : (m x : ℕ) → 1 + m ≤ x → 2 * m + 2 ≤ 2 * x
    wide m x l = omega arith

-- the other answers a stone
pub stone_answered : (p : Position) (mover : Colour)
    (own begun start other mine theirs : LedgerData) (most left rest : ℕ) (numbers more : List ℕ)
    (cells fewer k i : ℕ)
    → IsTrying p mover own start other most left numbers cells → own ≡ begun → has cells k ≡ true
    → ((j : ℕ) → j < k → has cells j ≡ false) → k < 121
    → (rest + positions_needed (placed p mover k) (other_of mover) ≡ left) × IsShownBy true (placed p mover k)
    (other_of mover) i (other, own) (theirs, mine)
    → more ≡ numbers ++ i ∷ [] → fewer ≡ without_cell cells k
    → IsTrying p mover mine start theirs most rest more fewer × (mine ≡ begun)
stone_answered p mover own begun start other mine theirs most left rest numbers more cells fewer k i w e h n l (r, (g, s, q, f, b, x)) d c =
    let t = trying_on p mover own start other theirs most left rest numbers cells k i w h n l r g s f b x in (
      subst (λ (z : LedgerData). IsTrying p mover z start theirs most rest more fewer) (sym q)
          (subst (λ v. IsTrying p mover own start theirs most rest v fewer) (sym d)
          (subst (λ v. IsTrying p mover own start theirs most rest (numbers ++ i ∷ []) v) (sym c) t)),
      q ∙ e,
    )

-- all stones were answered
pub other_wins_all : (p : Position) (mover : Colour) (own begun start other last : LedgerData)
    (most left : ℕ) (numbers : List ℕ) (cells k line : ℕ)
    → IsTrying p mover own start other most left numbers cells
    → own ≡ begun → is_joined p.size (other_of mover) (stones_of p (other_of mover)) ≡ false
    → is_empty_at p k ≡ true → ((j : ℕ) → has cells j ≡ false) → GrowsBy 2 other last
    → CountsBy 2 other last → ShowsWin last p Full line
    → (left + positions_needed p mover ≡ most + 1) × IsShownBy false p mover line (begun, start) (own, last)
other_wins_all p mover own begun start other last most left numbers cells k line w e a h n grow more show =
    let z = trying_done p mover own start other most left numbers cells k w a h n in (
      z.entered,
      (
        grows_wider (2 * positions_needed p mover - 2 + 2) (2 * positions_needed p mover) start last
            (wide (2 * positions_needed p mover) z.enough)
            (grows_on (2 * positions_needed p mover - 2) 2 start other last z.grows grow),
        show,
        e,
        z.first,
        over (count_of last) (count_of other) (count_of start)
            (tree_lines Full (empty_count p)) grow.count z.short,
        subst (λ v. CountsBy v start last) (sym z.after)
            (counts_on z.lines 2 start other last grow.lost z.counted more),
      ),
    )
  where
    over : (x y s t : ℕ) → x ≤ y + 2 → y + 2 ≤ s + t → x ≤ s + t
    over x y s t l m = omega arith

    wide : (x : ℕ) → 2 ≤ x → x - 2 + 2 ≤ x
    wide x l = omega arith

pub joined_short : (a b m x : ℕ) → a ≤ b + 2 → 2 ≤ x → a ≤ b + x
joined_short a b m x l k = omega arith
