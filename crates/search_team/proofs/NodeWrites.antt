-- The four writes of a node are steps of the walker that lent its new nodes, with those put back.
use Rattle.std.proofs.Common.{◌≡◌, ◌≢◌, ℕ, suc, ◌+◌, ◌-◌, ◌*◌, ◌/◌, ◌%◌, ◌<◌, ◌≤◌, true}
use Rattle.std.proofs.Common.{false, cond, List, [], ◌∷◌, length, drop, get_or, refl, sym, ap, ◌∙◌}
use Rattle.std.proofs.Common.{subst, arith, ⊎_elim}
use Rattle.std.specs.Prelude.{◌==◌, ◌||◌, nat_lt}
use Rattle.std.proofs.lemmas.Bool.{cases_lt, eq-eqb, ne_eqb, lt-ltb, le-ltb}
use Rattle.std.proofs.lemmas.List.{get_or-drop, length-drop, drop-drop}
use Rattle.std.proofs.Math.ListN.{drop_of_length-le}
use Rattle.play_out.specs.Fills.{empties_of}
use Rattle.tree_words.specs.Words.{move_word}
use Rattle.tree_words.specs.Sequence.{size_below}
use Rattle.tree_words.specs.Blocks.{header_or_move}
use Rattle.tree_words.specs.declared.steps.Op.{Op}
use Rattle.tree_words.specs.declared.steps.Op.TheVariants.{Write}
use Rattle.arena_rule.specs.Views.{SeatView}
use Rattle.walker.specs.declared.TheConstants.{PAST_WORDS}
use Rattle.walker.specs.declared.machine.Walker.{Walker}
use Rattle.walker.specs.declared.stages.Stage.{Stage}
use Rattle.walker.specs.declared.stages.Stage.TheVariants.{Writing, Publishing}
use Rattle.walker.specs.Machine.{state_in, own_block, word_of_block, op_at, next_at, written}
use Rattle.walker.specs.NewNodes.{NewNodesData, AreNodesOf, nodes_after, with_nodes_at, with_nodes}
use Rattle.walker.specs.Belongs.{Belongs, Stands, AtWrite}
use Rattle.walker.proofs.GoingOn.{can-write}
use Rattle.search_team.specs.Runs.{HasRun}
use Rattle.search_team.proofs.Going.{IsNext, run-begins, run-runs}

-- the walker after n words of its block
abbrev pub after-words : Walker → ℕ → Walker
after-words w n = cond (nat_lt (w.start + n) (w.start + size_below (state_in w)))
    (record w { at = w.start + n }) (record w { stage = Publishing; at = w.node + 1 })

-- word n of its block
abbrev value-at : Walker → ℕ → ℕ
value-at w n = word_of_block (own_block w) n

inside : (w : Walker) (n : ℕ) → n < size_below (state_in w)
    → after-words w n ≡ record w { at = w.start + n }
inside w n l = let t : nat_lt (w.start + n) (w.start + size_below (state_in w)) ≡ true
    = lt-ltb _ _ (omega (arith, l)) in rw t

past : (w : Walker) (n : ℕ) → size_below (state_in w) ≤ n
    → after-words w n ≡ record w { stage = Publishing; at = w.node + 1 }
past w n l = let t : nat_lt (w.start + n) (w.start + size_below (state_in w)) ≡ false
    = le-ltb _ _ (omega (arith, l)) in rw t

written-is : (w : Walker) (n m : ℕ) → m ≡ n + 1
    → after-words w m ≡ written (record w { at = w.start + n })
unfolding written
written-is w n m is = let same : w.start + m ≡ w.start + n + 1 = omega (arith, is) in rw same

-- the write of word n is the next step
next-word : (w : Walker) (n m : ℕ) → w.stage ≡ Writing → n < size_below (state_in w) → m ≡ n + 1
    → {op : Op} → op ≡ Write (w.start + n) (value-at w n)
    → IsNext (after-words w n) op (λ x. after-words w m)
next-word w n m stage l is {op} e =
    let z : Walker = record w { at = w.start + n } in
    let same : n ≡ w.start + n - w.start = omega arith in
    subst (λ (u : Walker). IsNext u op (λ x. after-words w m)) (sym (inside w n l)) (record {
      op_is = e ∙ ap (λ (k : ℕ). Write (w.start + n) (value-at w k)) same
          ∙ ap (λ (t : Stage). op_at t z) (sym stage);
      some = λ d. absurd (cc);
      later_is = λ x. written-is w n m is ∙ ap (λ (t : Stage). next_at t z x) (sym stage);
    })

-- a move word of a new block
word-move : (w : Walker) (i : ℕ)
    → value-at w (4 + 4 * i) ≡ move_word i (get_or (empties_of w.board) i 0)
word-move w i =
    let late : nat_lt (4 + 4 * i) 4 ≡ false = le-ltb (4 + 4 * i) 4 (omega arith) in
    let whole : ((4 + 4 * i) % 4 == 0) ≡ true = eq-eqb ((4 + 4 * i) % 4) 0 (omega arith) in
    let place : 4 * i / 4 ≡ i = omega arith in
    let up : 4 + 4 * i ≡ suc (suc (suc (suc (4 * i)))) = omega arith in
    (λ j. cond (late j || whole j) (header_or_move (own_block w) (4 + 4 * i)) 0)
    ∙ (ap (header_or_move (own_block w)) up ∙ ap (λ (k : ℕ). move_word k (get_or (empties_of w.board) k 0)) place)

-- and another word of a node
word-none : (w : Walker) (i j : ℕ) → 1 ≤ j → j < 4 → value-at w (4 + 4 * i + j) ≡ 0
word-none w i j some few =
    let late : nat_lt (4 + 4 * i + j) 4 ≡ false = le-ltb (4 + 4 * i + j) 4 (omega arith) in
    let part : ((4 + 4 * i + j) % 4 == 0) ≡ false
    = ne_eqb ((4 + 4 * i + j) % 4) 0 (λ e. omega (arith, e, some, few)) in
    (λ k. cond (late k || part k) (header_or_move (own_block w) (4 + 4 * i + j)) 0)

-- with its nodes put back the walker has written all words before them
nodes-are : (w : Walker) (d : NewNodesData) → AreNodesOf w d
    → with_nodes w d ≡ after-words w (4 + 4 * d.place)
nodes-are w d nodes
    = by d.cells (ap length nodes.cells ∙ length-drop d.place (empties_of w.board))
  where
    by : (cs : List ℕ) → length cs ≡ length (empties_of w.board) - d.place
        → with_nodes_at cs d.at w ≡ after-words w (4 + 4 * d.place)
    by [] none = sym (past w (4 + 4 * d.place) (omega (arith, none)))
    by (c ∷ cs) some =
        let at : d.at ≡ w.start + (4 + 4 * d.place) = omega (arith, nodes.at) in
        ap (λ (a : ℕ). record w { at = a }) at
        ∙ sym (inside w (4 + 4 * d.place) (omega (arith, some)))

module _ (w : Walker) (d : NewNodesData) (stage : w.stage ≡ Writing) (nodes : AreNodesOf w d)
    (more : d.cells ≢ []) where
  abbrev pub n : ℕ
  n = 4 + 4 * d.place

  -- there is such a node
  few : d.place < length (empties_of w.board)
  few = ⊎_elim (λ (l : d.place < length (empties_of w.board)). l)
      (λ (l : length (empties_of w.board) ≤ d.place). absurd (more (nodes.cells
      ∙ drop_of_length-le (empties_of w.board) l)))
      (cases_lt d.place (length (empties_of w.board)))

  pub at-start : (v : SeatView) → Belongs (with_nodes w d) v
      → (d.at < PAST_WORDS) × (w.node < PAST_WORDS) × (d.place < 121)
  at-start v b =
      let z : Walker = record w { at = w.start + n } in
      let here : Belongs z v = subst (λ (u : Walker). Belongs u v)
      (nodes-are w d nodes ∙ inside w n (omega (arith, few))) b in
      let stands : AtWrite z v = subst (λ (t : Stage). Stands t z v) stage here.stands in
      let small = can-write z v here 0 stands in
      let room = stands.may.down.room in
      (omega (arith, nodes.at, small.2), small.0, omega (arith, room, few))

  -- the write of its move
  pub next-move : {op : Op} → op ≡ Write d.at (move_word d.place (get_or d.cells 0 0))
      → IsNext (with_nodes w d) op (λ x. after-words w (n + 1))
  next-move {op} e =
      let at : d.at ≡ w.start + n = omega (arith, nodes.at) in
      let same : d.place + 0 ≡ d.place = omega arith in
      let cell : get_or d.cells 0 0 ≡ get_or (empties_of w.board) d.place 0
      = ap (λ (cs : List ℕ). get_or cs 0 0) nodes.cells
      ∙ (get_or-drop d.place (empties_of w.board) 0 0 ∙ ap (λ (k : ℕ). get_or (empties_of w.board) k 0) same) in
      let value = ap (move_word d.place) cell ∙ sym (word-move w d.place) in
      subst (λ (z : Walker). IsNext z op (λ x. after-words w (n + 1))) (sym (nodes-are w d nodes))
      (next-word w n (n + 1) stage (omega (arith, few)) refl (e ∙ (λ j. Write (at j) (value j))))

  -- the write of a later word of it, which is 0
  pub next-none : (j : ℕ) → j < 3 → {op : Op} → op ≡ Write (d.at + suc j) 0
      → IsNext (after-words w (n + suc j)) op (λ x. after-words w (n + suc (suc j)))
  next-none j less e =
      let at : d.at + suc j ≡ w.start + (n + suc j) = omega (arith, nodes.at) in
      let value = sym (word-none w d.place (suc j) (omega arith) (omega (arith, less))) in
      next-word w (n + suc j) (n + suc (suc j)) stage (omega (arith, few, less)) (omega arith)
      (e ∙ (λ k. Write (at k) (value k)))

  -- the nodes after it
  pub nodes-next : AreNodesOf w (nodes_after d)
  nodes-next = record {
    at = omega (arith, nodes.at);
    cells = ap (drop 1) nodes.cells ∙ drop-drop 1 d.place (empties_of w.board);
  }

  pub ends : with_nodes w (nodes_after d) ≡ after-words w (n + 4)
  ends = let same : 4 + 4 * (d.place + 1) ≡ n + 4 = omega arith in
      nodes-are w (nodes_after d) nodes-next ∙ ap (after-words w) same

-- a block that is written has a node
pub some-node : (w : Walker) (v : SeatView) → Belongs w v → w.stage ≡ Writing → (d : NewNodesData)
    → d.place ≡ 0 → AreNodesOf w d → d.cells ≢ []
some-node w v b stage d first nodes e =
    let a : AtWrite w v = subst (λ (t : Stage). Stands t w v) stage b.stands in
    let some = a.may.some in
    let all : d.cells ≡ empties_of w.board = nodes.cells
    ∙ ap (λ (k : ℕ). drop k (empties_of w.board)) first in
    let none : length (empties_of w.board) ≡ 0 = ap length (sym all ∙ e) in
    omega (arith, some, none)

-- new nodes that the walker lent begin where it stands
pub nodes-begin : (w : Walker) (v : SeatView) → Belongs w v → w.stage ≡ Writing
    → (d : NewNodesData) → w.at ≡ d.at → d.place ≡ 0 → AreNodesOf w d → HasRun w v (with_nodes w d) v
nodes-begin w v b stage d at first nodes
    = run-begins (by d.cells (some-node w v b stage d first nodes)) b
  where
    by : (cs : List ℕ) → cs ≢ [] → with_nodes_at cs d.at w ≡ w
    by [] some = absurd (some refl)
    by (c ∷ cs) some = ap (λ (a : ℕ). record w { at = a }) (sym at)

-- what the loop over them needs
pub ruleset nodes_rules = (run-runs, nodes-begin, some-node)
