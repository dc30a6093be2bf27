-- What the texts of modes sim and bench say of their turns, and when the options determine them.
use Rattle.std.proofs.Common.{◌≡◌, ℕ, false, cond, List, [], ◌++◌, Some, refl, sym, ap, ◌∙◌, subst, inl, inr}
use Rattle.std.specs.Prelude.{option_map}
use Rattle.std.proofs.lemmas.Bool.{cases_eq, ne_eqb}
use Rattle.hex_board.specs.Positions.{Position}
use Rattle.hex_cells.specs.declared.colours.Colour.{Colour}
use Rattle.hex_cells.specs.declared.colours.Colour.TheVariants.{Black}
use Rattle.hex_board.specs.Positions.{empty_board}
use Rattle.tree_words.specs.Closing.{ClosedTree}
use Rattle.tree_words.specs.Roots.{rows_of}
use Rattle.tree_words.specs.Settings.{Setting}
use Rattle.tree_words.specs.declared.roots.Row.{Row}
use Rattle.tree_words.specs.declared.settings.Knobs.{Knobs}
use Rattle.hex_plan.specs.Good.{no_means}
use Rattle.hex_plan.specs.TurnTexts.{report_by, report_of, report_on}
use Rattle.hex_plan.specs.Turns.{TurnData}
use Rattle.turn_modes.specs.ModeTexts.{bench_lines, bench_text, best_line, sim_text, turn_text}
use Rattle.turn_modes.specs.OneTurn.{IsBenchmark, IsFirstTurn, IsSimulation, SaysReport}
use Rattle.turn_modes.specs.OneTurn.{bench_board, bench_player, bench_stones, first_rows}
use Rattle.turn_modes.specs.Positions.{IsBenchPosition, board_on, mover_after, shuffled_cells}
use Rattle.turn_modes.specs.Records.{records_in}
use Rattle.turn_modes.specs.Rows.{best_cell, visits_of}
use Rattle.turn_modes.specs.Telling.{TellsBench, TellsSim}
use Rattle.turn_modes.specs.declared.options.ModeOptions.{ModeOptions}
use Rattle.turn_modes.specs.declared.positions.BenchPosition.{BenchPosition}
use Rattle.turn_modes.proofs.Decided.{bare_turn, sequential_rows_of, tree_setting}
use Rattle.turn_modes.proofs.Preferred.{best_in}
use Rattle.turn_modes.proofs.Recorded.{all_recorded}

-- ---- mode sim

same_report : (a b : List ℕ) → Some a ≡ Some b → a ≡ b
same_report a b e = cc

-- with one worker the options determine what its text says
says_report : (o : ModeOptions) (t : TurnData) (text : List ℕ)
    → IsFirstTurn o.knobs no_means (empty_board o.size) Black t → SaysReport o.size t text
    → o.knobs.workers ≡ 1
    → text ≡ (let rows = first_rows o.knobs (empty_board o.size) Black in
    sim_text o.size (best_cell rows) (report_by o.size o.knobs.playouts rows))
unfolding report_of
says_report o t text f (report, reported, said) w =
    let start : Position = empty_board o.size in
    let b = bare_turn o.knobs no_means start Black t refl f in
    let tree = b.tree in
    let c : ClosedTree = tree.0 in
    let size : t.board.size ≡ o.size = ap (λ (p : Position). p.size) f.board in
    let same : report ≡ report_on t.board.size c = same_report report (report_on t.board.size c)
    (sym reported ∙ ap (option_map (report_on t.board.size)) tree.1) in
    let playouts : c.shape.knobs.playouts ≡ o.knobs.playouts
    = ap (λ (z : Setting). z.knobs.playouts)
    (tree_setting o.knobs no_means start Black t f b) in
    said ∙ ap (λ (r : List ℕ). sim_text o.size t.cell r) same
    ∙ ap (λ n. sim_text o.size t.cell (report_on n c)) size
    ∙ ap (λ cell. sim_text o.size cell (report_on o.size c))
    (best_in c.shape c.words t.cell tree.2.best)
    ∙ ap (λ n. sim_text o.size (best_cell (rows_of c.shape c.words))
    (report_by o.size n (rows_of c.shape c.words))) playouts
    ∙ ap (λ (rs : List Row). sim_text o.size (best_cell rs)
    (report_by o.size o.knobs.playouts rs))
    (sequential_rows_of o.knobs no_means start Black t f b w)

pub simulation_says : (o : ModeOptions) (t : TurnData) (text items : List ℕ)
    → IsFirstTurn o.knobs no_means (empty_board o.size) Black t → text ≡ items
    → TellsSim t items → IsSimulation o t text
unfolding report_of
simulation_says o t text items f same says =
    let start : Position = empty_board o.size in
    let b = bare_turn o.knobs no_means start Black t refl f in
    let c : ClosedTree = b.tree.0 in
    let size : t.board.size ≡ o.size = ap (λ (p : Position). p.size) f.board in
    let reported : report_of t ≡ Some (report_on t.board.size c)
    = ap (option_map (report_on t.board.size)) b.tree.1 in
    let said : SaysReport o.size t text = (
      report_on t.board.size c,
      reported,
      same ∙ says (report_on t.board.size c) reported
          ∙ ap (λ n. sim_text n t.cell (report_on t.board.size c)) size,
    ) in
    record {
      turn = f;
      says = said;
      determined = λ w u other g also. says_report o u other g also w
          ∙ sym (says_report o t text f said w);
    }

-- ---- mode bench

-- with one worker the text is that of the rows; with several these are not told
by_rows : (size stones records cell : ℕ) (knobs : Knobs) (rows others : List Row)
    → cell ≡ best_cell rows → (knobs.workers ≡ 1 → rows ≡ others)
    → bench_text size stones knobs records rows cell ≡ bench_text size stones knobs records others
    (best_cell others)
by_rows size stones records cell knobs rows others e h = elim (cases_eq knobs.workers 1) [
  | inl one ↦ ap (bench_text size stones knobs records rows) e
      ∙ ap (λ (rs : List Row). bench_text size stones knobs records rs (best_cell rs)) (h one)
  | inr n ↦
      let several = ne_eqb knobs.workers 1 n in
      let lines : List ℕ = bench_lines size stones knobs.playouts records in
      ap (λ b. lines ++ cond b (best_line size cell (visits_of rows cell)) []) several
      ∙ sym (ap (λ b. lines ++ cond b
      (best_line size (best_cell others) (visits_of others (best_cell others))) []) several)
]

-- the position's board is that of the options
position_board : (o : ModeOptions) (p : BenchPosition) → IsBenchPosition o.size o.knobs.seed p
    → p.board ≡ bench_board o
position_board o p h = h.board ∙ ap (board_on o.size (shuffled_cells o.size o.knobs.seed)) h.stones

pub bench_size : (o : ModeOptions) (p : BenchPosition) → IsBenchPosition o.size o.knobs.seed p
    → p.board.size ≡ o.size → (bench_board o).size ≡ o.size
bench_size o p h n = ap (λ (b : Position). b.size) (sym (position_board o p h)) ∙ n

pub bench_turn : (o : ModeOptions) (p : BenchPosition) (t : TurnData)
    → IsBenchPosition o.size o.knobs.seed p → IsFirstTurn o.knobs o.means p.board p.colour t
    → IsFirstTurn o.knobs o.means (bench_board o) (bench_player o) t
bench_turn o p t h f =
    subst (λ (b : Position). IsFirstTurn o.knobs o.means b (bench_player o) t)
    (position_board o p h)
    (subst (λ (k : Colour). IsFirstTurn o.knobs o.means p.board k t)
    (h.colour ∙ ap mover_after h.stones) f)

-- without connections they determine what its text says
says_rows : (o : ModeOptions) (t : TurnData) (text : List ℕ)
    → IsFirstTurn o.knobs o.means (bench_board o) (bench_player o) t
    → text ≡ turn_text o.size (bench_stones o) o.knobs t.cell t.closed → o.means.hsearch ≡ false
    → text ≡ (let rows = first_rows o.knobs (bench_board o) (bench_player o) in
    bench_text o.size (bench_stones o) o.knobs o.knobs.playouts rows (best_cell rows))
says_rows o t text f said off =
    let now : Position = bench_board o in
    let mover : Colour = bench_player o in
    let b = bare_turn o.knobs o.means now mover t off f in
    let c : ClosedTree = b.tree.0 in
    let rows : List Row = rows_of c.shape c.words in
    let records : records_in c ≡ o.knobs.playouts = all_recorded c.shape c.words b.tree.2.closed
    ∙ ap (λ (z : Setting). z.knobs.playouts) (tree_setting o.knobs o.means now mover t f b) in
    said ∙ ap (turn_text o.size (bench_stones o) o.knobs t.cell) b.tree.1
    ∙ ap (λ k. bench_text o.size (bench_stones o) o.knobs k rows t.cell) records
    ∙ by_rows o.size (bench_stones o) o.knobs.playouts t.cell o.knobs rows
    (first_rows o.knobs now mover) (best_in c.shape c.words t.cell b.tree.2.best)
    (λ w. sequential_rows_of o.knobs o.means now mover t f b w)

pub benchmark_says : (o : ModeOptions) (t : TurnData) (stones : ℕ) (text items : List ℕ)
    → IsFirstTurn o.knobs o.means (bench_board o) (bench_player o) t → stones ≡ bench_stones o
    → (bench_board o).size ≡ o.size → text ≡ items
    → TellsBench o.knobs stones t items → IsBenchmark o t text
benchmark_says o t stones text items f m n same says =
    let size : t.board.size ≡ o.size = ap (λ (p : Position). p.size) f.board ∙ n in
    let said : text ≡ turn_text o.size (bench_stones o) o.knobs t.cell t.closed
    = same ∙ says ∙ ap (λ k. turn_text k stones o.knobs t.cell t.closed) size
    ∙ ap (λ k. turn_text o.size k o.knobs t.cell t.closed) m in
    record {
      turn = f;
      says = said;
      determined = λ off u other g also. says_rows o u other g also off
          ∙ sym (says_rows o t text f said off);
    }
