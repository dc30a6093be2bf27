-- Ledgers that grow show what they showed.
use Rattle.std.proofs.Common.{◌≡◌, ℕ, ◌≤◌, true, List, [], ◌∷◌, ◌++◌, refl, sym, ◌∙◌, ap, subst}
use Rattle.std.proofs.Common.{inl, inr, arith}
use Rattle.hex_cells.specs.Colours.{other_of}
use Rattle.hex_board.specs.Elements.{PlayerBoard}
use Rattle.hex_board.specs.Positions.{Position, is_empty_at, placed}
use Rattle.conn_store.specs.declared.entries.Kind.{Kind}
use Rattle.conn_store.specs.declared.entries.Kind.TheVariants.{Semi}
use Rattle.hex_solve.specs.Ledgers.{AreAnswers, GrowsBy, IsAmong, LedgerData, ShowsWin, read_of}
use Rattle.win_cert.specs.Contexts.{after_lines, first_context}
use Rattle.win_cert.specs.Showing.{Shows, scope_of}
use Rattle.win_cert.proofs.Appending.{after_append}
use Rattle.win_cert.proofs.Appending.{shown_on}

pub grows_wider : (a b : ℕ) (d e : LedgerData) → a ≤ b → GrowsBy a d e → GrowsBy b d e
grows_wider a b d e l g
    = record { base = g.base; more = g.more; lines = g.lines; lost = g.lost; count = omega (arith, g.count) }

read_grown : (a : ℕ) (d e : LedgerData) (g : GrowsBy a d e)
    → read_of e ≡ after_lines (read_of d) g.more
read_grown a d e g =
    ap (λ (b : PlayerBoard). after_lines (first_context b.board b.player) e.lines) g.base
    ∙ ap (after_lines (first_context d.base.board d.base.player)) g.lines
    ∙ after_append (first_context d.base.board d.base.player) d.lines g.more

pub shows_on : (a : ℕ) (d e : LedgerData) (p : Position) (kind : Kind) (i : ℕ) → GrowsBy a d e
    → ShowsWin d p kind i → ShowsWin e p kind i
shows_on a d e p kind i g f z =
    let none : d.lost ≡ 0 = omega (arith, g.lost, z) in
    subst (λ (b : PlayerBoard). Shows (read_of e) p kind (scope_of b p) i) (sym g.base)
    (subst (λ c. Shows c p kind (scope_of d.base p) i) (sym (read_grown a d e g)) (shown_on (read_of d) g.more p kind (scope_of d.base p) i (f none)))

pub answers_on : (a : ℕ) (d e : LedgerData) (p : Position) (numbers cells : List ℕ) → GrowsBy a d e
    → AreAnswers d p numbers cells → AreAnswers e p numbers cells
answers_on a d e p [] [] g f = tt
answers_on a d e p [] (k ∷ cells) g f = absurd f
answers_on a d e p (i ∷ numbers) [] g f = absurd f
answers_on a d e p (i ∷ numbers) (k ∷ cells) g (f, h, r) = (
  subst (λ (b : PlayerBoard). ShowsWin e (placed p (other_of b.player) k) Semi i) (sym g.base)
      (shows_on a d e (placed p (other_of d.base.player) k) Semi i g f),
  h,
  answers_on a d e p numbers cells g r,
)

pub answers_more : (e : LedgerData) (p : Position) (numbers cells : List ℕ) (i k : ℕ)
    → AreAnswers e p numbers cells → ShowsWin e (placed p (other_of e.base.player) k) Semi i
    → is_empty_at p k ≡ true
    → AreAnswers e p (numbers ++ i ∷ []) (cells ++ k ∷ [])
answers_more e p [] [] i k f s h = (s, h, tt)
answers_more e p [] (j ∷ cells) i k f s h = absurd f
answers_more e p (j ∷ numbers) [] i k f s h = absurd f
answers_more e p (j ∷ numbers) (c ∷ cells) i k (f, g, r) s h
    = (f, g, answers_more e p numbers cells i k r s h)

pub among_left : (k j : ℕ) (cells : List ℕ) → IsAmong k cells → IsAmong k (cells ++ j ∷ [])
among_left k j [] h = absurd h
among_left k j (c ∷ cells) (inl h) = inl h
among_left k j (c ∷ cells) (inr h) = inr (among_left k j cells h)

pub among_last : (k : ℕ) (cells : List ℕ) → IsAmong k (cells ++ k ∷ [])
among_last k [] = inl refl
among_last k (c ∷ cells) = inr (among_last k cells)
