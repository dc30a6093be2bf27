-- What determines a good turn.
use Rattle.std.proofs.Common.{◌≡◌, ℕ, ◌<◌, Bool, true, false, List, [], ◌++◌, codes, get_or}
use Rattle.std.proofs.Common.{Option, Some, None, refl, sym, ap, ◌∙◌, subst, arith}
use Rattle.std.specs.Fmt.{decimal}
use Rattle.std.specs.Prelude.{is_some, option_map}
use Rattle.std.proofs.lemmas.List.FromFn.{get_or-map-range_with_len}
use Rattle.hex_cells.specs.declared.colours.Colour.{Colour}
use Rattle.hex_cells.proofs.Bits.{same_set}
use Rattle.hex_board.specs.Positions.{Position, is_empty_at}
use Rattle.tree_words.specs.declared.settings.Knobs.{Knobs}
use Rattle.tree_words.specs.declared.roots.Row.{Row}
use Rattle.tree_words.specs.Settings.{Setting}
use Rattle.tree_words.specs.Roots.{IsBest, HasRoot, root_count, row_at, rows_of}
use Rattle.tree_words.specs.Sequence.{seq_of}
use Rattle.tree_words.proofs.Boards.RootLaws.{has_root}
use Rattle.tree_words.specs.Closing.{ClosedTree}
use Rattle.look_ahead.specs.Looked.{LookedData}
use Rattle.hex_plan.specs.Good.{FollowsPlan, IsTurnShape, IsGood, IsSearchedFor}
use Rattle.hex_plan.specs.Plans.{IsFree, IsPlannedFor}
use Rattle.hex_plan.specs.Reports.{rows_in, reported_rows, sequential_rows}
use Rattle.hex_plan.specs.TurnTexts.{look_of, mustplay_of, report_lines, report_of, report_on}
use Rattle.hex_plan.specs.TurnTexts.{texts_of}
use Rattle.hex_plan.specs.TurnTexts.{wincert_of}
use Rattle.hex_plan.specs.Turns.{TurnData, searched_cells}
use Rattle.hex_plan.specs.declared.settings.Means.{Means}
use Rattle.hex_plan.specs.declared.types.Plan.{Plan}
use Rattle.hex_plan.specs.declared.types.Plan.TheVariants.{Search}
use Rattle.hex_plan.proofs.Reports.{rows_of_tree}

-- there is one shape for a turn
same_shape : (knobs : Knobs) (now : Position) (mover : Colour) (number cells : ℕ) (a b : Setting)
    → IsTurnShape knobs now mover number cells a
    → IsTurnShape knobs now mover number cells b → a ≡ b
same_shape knobs now mover number cells a b h k =
    λ i. record {
      board = (h.board ∙ sym k.board) i;
      player = (h.player ∙ sym k.player) i;
      allowed
          = (h.allowed ∙ sym k.allowed) i;
      knobs = (h.knobs ∙ sym k.knobs) i;
    }

same_row : (s : Setting) (a b : List ℕ) (i : ℕ) → root_count s a ≡ root_count s b
    → rows_of s a ≡ rows_of s b → i < root_count s a → row_at s a i ≡ row_at s b i
same_row s a b i n e l =
    sym (get_or-map-range_with_len (row_at s a) 0 (root_count s a) i i (row_at s a 0) l (omega arith))
    ∙ ap (λ (rows : List Row). get_or rows i (row_at s a 0)) e
    ∙ get_or-map-range_with_len (row_at s b) 0 (root_count s b) i i (row_at s a 0)
    (omega (arith, l, n)) (omega arith)

-- the rows determine the best cell
same_best : (s : Setting) (a b : List ℕ) (x y : ℕ) → HasRoot s a → HasRoot s b
    → rows_of s a ≡ rows_of s b → IsBest s a x → IsBest s b y → x ≡ y
same_best s a b x y h k e p q =
    let n : root_count s a ≡ root_count s b = h.count ∙ sym k.count in
    let i : ℕ = p.place in
    let j : ℕ = q.place in
    let ri : row_at s a i ≡ row_at s b i = same_row s a b i n e p.within in
    let lj : j < root_count s a = omega (arith, q.within, n) in
    let li : i < root_count s b = omega (arith, p.within, n) in
    let rj : row_at s a j ≡ row_at s b j = same_row s a b j n e lj in
    let vi : (row_at s a i).visits ≡ (row_at s b i).visits = ap (λ (r : Row). r.visits) ri in
    let vj : (row_at s a j).visits ≡ (row_at s b j).visits = ap (λ (r : Row). r.visits) rj in
    let ci : (row_at s a i).cell ≡ (row_at s b i).cell = ap (λ (r : Row). r.cell) ri in
    let cj : (row_at s a j).cell ≡ (row_at s b j).cell = ap (λ (r : Row). r.cell) rj in
    let most_a = p.most j lj in
    let most_b = q.most i li in
    let le = p.least j lj (omega (arith, most_a, most_b, vi, vj)) in
    let ge = q.least i li (omega (arith, most_a, most_b, vi, vj)) in
    omega (arith, le, ge, p.is, q.is, ci, cj)

-- no connections were looked for, and what was planned is not followed by a look-ahead
pub record IsBare (knobs : Knobs) (t : TurnData) : Type 0 where
  pub free : IsFree t.board t.planned
  pub unlooked : t.looked ≡ None
  pub tree : (c : ClosedTree) × (t.closed ≡ Some c) × IsSearchedFor knobs t free.allowed c

-- if no connections are looked for a good turn has a tree, which was searched for it among all
-- empty cells
bare : (knobs : Knobs) (hsearch : Bool) (solve look : ℕ) (t : TurnData) → hsearch ≡ false
    → IsPlannedFor t.board t.player hsearch t.planned
    → FollowsPlan knobs (record { hsearch = hsearch; solve = solve; look = look }) t t.planned.plan
    → IsBare knobs t
bare knobs true solve look t off h f = absurd (cc)
bare knobs false solve look t off h f =
    let means : Means = record { hsearch = false; solve = solve; look = look } in
    let (none, chosen, c, is, s) = subst (λ (v : Plan). FollowsPlan knobs means t v) h.plan f in
    let unlooked = no_look t.looked none in
    record {
      free = h;
      unlooked = unlooked;
      tree = (c, is, subst (λ (l : Option LookedData). IsSearchedFor knobs t (searched_cells h.allowed l) c) unlooked s);
    }
  where
    no_look : (looked : Option LookedData) → is_some looked ≡ false → looked ≡ None
    no_look None e = refl
    no_look (Some l) e = absurd (cc)

pub is_bare : (knobs : Knobs) (means : Means) (t : TurnData) → means.hsearch ≡ false
    → IsGood knobs means t → IsBare knobs t
is_bare knobs means t off g
    = bare knobs means.hsearch means.solve means.look t off g.planned.plan g.follows

rows_in_tree : (knobs : Knobs) (t : TurnData) (cells : ℕ) (c : ClosedTree) → knobs.workers ≡ 1
    → IsSearchedFor knobs t cells c → rows_of c.shape c.words ≡ rows_in (seq_of c.shape).0
rows_in_tree knobs t cells c one s
    = rows_of_tree c.shape c.words (seq_of c.shape).0 s.setting s.closed (s.sequential one)

-- with one worker the report of a good turn is that of Seq
pub report_is_seq : (knobs : Knobs) (means : Means) (t : TurnData) → knobs.workers ≡ 1
    → means.hsearch ≡ false → IsGood knobs means t → reported_rows t ≡ sequential_rows t
report_is_seq knobs means t one off g =
    let tree = (is_bare knobs means t off g).tree in
    let c : ClosedTree = tree.0 in
    ap (option_map (λ (z : ClosedTree). rows_of z.shape z.words)) tree.1
    ∙ ap Some (rows_in_tree knobs t _ c one tree.2)
    ∙ ap (option_map (λ (z : ClosedTree). rows_in (seq_of z.shape).0)) (sym tree.1)

-- two trees of one shape that were searched for turns, with one worker
twins : (knobs : Knobs) (s : Setting) (t u : TurnData) (m n : ℕ) (c d : ClosedTree)
    → knobs.workers ≡ 1 → IsSearchedFor knobs t m c → IsSearchedFor knobs u n d → c.shape ≡ s
    → d.shape ≡ s
    → (t.cell ≡ u.cell) × (rows_of c.shape c.words ≡ rows_of d.shape d.words)
twins knobs s t u m n c d one g h e f =
    let rows : rows_of c.shape c.words ≡ rows_of d.shape d.words
    = rows_in_tree knobs t m c one g
    ∙ (ap (λ (z : Setting). rows_in (seq_of z).0) (e ∙ sym f) ∙ sym (rows_in_tree knobs u n d one h)) in
    let rows' : rows_of s c.words ≡ rows_of s d.words
    = ap (λ (z : Setting). rows_of z c.words) (sym e) ∙ rows
    ∙ ap (λ (z : Setting). rows_of z d.words) f in
    let root_t : HasRoot s c.words
    = subst (λ (z : Setting). HasRoot z c.words) e
    (has_root c.shape c.words g.setting g.closed) in
    let root_u : HasRoot s d.words
    = subst (λ (z : Setting). HasRoot z d.words) f
    (has_root d.shape d.words h.setting h.closed) in
    let best_t : IsBest s c.words t.cell
    = subst (λ (z : Setting). IsBest z c.words t.cell) e g.best in
    let best_u : IsBest s d.words u.cell
    = subst (λ (z : Setting). IsBest z d.words u.cell) f h.best in
    (same_best s c.words d.words t.cell u.cell root_t root_u rows' best_t best_u, rows)

-- what is said of two turns without connections, of one board and with one set of allowed cells
same_texts : (t u : TurnData) (m n : ℕ) (c d : ClosedTree) → t.board ≡ u.board → m ≡ n
    → t.planned.plan ≡ Search [] m false → u.planned.plan ≡ Search [] n false
    → t.planned.loss ≡ None → u.planned.loss ≡ None
    → t.looked ≡ None → u.looked ≡ None → t.closed ≡ Some c → u.closed ≡ Some d
    → c.shape ≡ d.shape → rows_of c.shape c.words ≡ rows_of d.shape d.words
    → texts_of t ≡ texts_of u
unfolding report_of
same_texts t u m n c d b a p q x y v w e f s r =
    let size : t.board.size ≡ u.board.size = ap (λ (z : Position). z.size) b in
    let plan : t.planned.plan ≡ u.planned.plan = p ∙ ap (λ k. Search [] k false) a ∙ sym q in
    let loss : t.planned.loss ≡ u.planned.loss = x ∙ sym y in
    let looked : t.looked ≡ u.looked = v ∙ sym w in
    let playouts : c.shape.knobs.playouts ≡ d.shape.knobs.playouts
    = ap (λ (z : Setting). z.knobs.playouts) s in
    let tree : report_on t.board.size c ≡ report_on u.board.size d
    = λ i. codes "playouts " ++ decimal (playouts i) ++ report_lines (size i) (r i) in
    let report : report_of t ≡ report_of u
    = ap (option_map (report_on t.board.size)) e ∙ ap Some tree
    ∙ sym (ap (option_map (report_on u.board.size)) f) in
    λ i. record {
      report = report i;
      look = option_map (look_of (size i)) (looked i);
      mustplay = mustplay_of (size i) (plan i);
      wincert = wincert_of (plan i) (loss i);
    }

-- with one worker the knobs, the board, the player and the number determine what a good turn plays
-- and reports
pub same_turn : (knobs : Knobs) (means : Means) (t u : TurnData) → knobs.workers ≡ 1
    → means.hsearch ≡ false → IsGood knobs means t → IsGood knobs means u → t.board ≡ u.board
    → t.player ≡ u.player → t.number ≡ u.number
    → (t.cell ≡ u.cell) × (reported_rows t ≡ reported_rows u) × (texts_of t ≡ texts_of u)
same_turn knobs means t u one off g h b p n =
    let mine = is_bare knobs means t off g in
    let other = is_bare knobs means u off h in
    let c : ClosedTree = mine.tree.0 in
    let d : ClosedTree = other.tree.0 in
    let x = mine.free.allowed in
    let y = other.free.allowed in
    let cells : x ≡ y
    = same_set x y
    (λ k. mine.free.empties.items k ∙ ap (λ (z : Position). is_empty_at z k) b ∙ sym (other.free.empties.items k)) in
    let moved : IsTurnShape knobs u.board u.player u.number y c.shape
    = subst (λ (m : ℕ). IsTurnShape knobs u.board u.player u.number m c.shape) cells
    (subst (λ (m : ℕ). IsTurnShape knobs u.board u.player m x c.shape) n
    (subst (λ (k : Colour). IsTurnShape knobs u.board k t.number x c.shape) p
    (subst (λ (z : Position). IsTurnShape knobs z t.player t.number x c.shape) b mine.tree.2.shape))) in
    let shape : c.shape ≡ d.shape
    = same_shape knobs u.board u.player u.number y c.shape d.shape moved other.tree.2.shape in
    let same = twins knobs d.shape t u _ _ c d one mine.tree.2 other.tree.2 shape refl in (
      same.0,
      ap (option_map (λ (z : ClosedTree). rows_of z.shape z.words)) mine.tree.1 ∙ ap Some same.1
          ∙ ap (option_map (λ (z : ClosedTree). rows_of z.shape z.words)) (sym other.tree.1),
      same_texts t u x y c d b cells mine.free.plan other.free.plan mine.free.loss other.free.loss
          mine.unlooked other.unlooked mine.tree.1 other.tree.1 shape same.1,
    )
