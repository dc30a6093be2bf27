-- The board has room, the cells that are searched are empty, and the turn is owed.
use Rattle.std.proofs.Common.{◌≡◌, refl, sym, ap, ◌∙◌, subst}
use Rattle.std.proofs.lemmas.Bool.{and_parts, both_ways}
use Rattle.hex_cells.specs.declared.colours.Colour.{Colour}
use Rattle.hex_board.specs.Joined.{winner_of}
use Rattle.hex_board.specs.Positions.{AllEmpty, Position}
use Rattle.tree_words.specs.Sequence.{seq_of}
use Rattle.tree_words.specs.Settings.{Setting}
use Rattle.tree_words.specs.Trees.{IsTreeOf}
use Rattle.tree_words.specs.declared.settings.Knobs.{Knobs}
use Rattle.hex_plan.proofs.Rooms.{empty_in}
use Rattle.hex_plan.specs.Good.{IsLookedFor}
use Rattle.hex_plan.specs.Plans.{IsPlanned, IsSearchAmong}
use Rattle.hex_plan.specs.Turns.{TurnData}
use Rattle.hex_plan.specs.declared.types.Plan.{Plan}
use Rattle.turn_search.specs.Owed.{MayRestOn}
use Rattle.turn_search.proofs.Searched.{as_before, looked_for, may_rest, nobody, searched_empty}
use Rattle.turn_search.proofs.deciding.decided_turn.Goals as goal

pub plan-requires-clause-room : goal.plan-requires-clause-room
plan-requires-clause-room g c = empty_in c.args.board.now (and_parts _ _ c.requires.may).1

pub turn_shape-shape-requires-clause-empty : goal.turn_shape-shape-requires-clause-empty
turn_shape-shape-requires-clause-empty g c
    = subst (AllEmpty c.args.board.now) (sym c.searched_cells-cells.ensures.value)
    (searched_empty c.args.board.now c.in_ok-planned.planned.plan c.in-Some.allowed
    c.in_ok-looked.looked c.in_ok-planned.ensures.allowed c.in-Some.ensures.search
    c.in_ok-looked.ensures.chosen)

pub returns-clause-rests : goal.returns-clause-rests
returns-clause-rests g c =
    let plan = c.in_ok-planned-2.planned.plan in
    let same = ap (λ (t : TurnData). t.planned.plan) c.searched.ensures.parts in
    subst (MayRestOn c.args.board.now c.args.colour c.args.means) (sym same)
    (may_rest c.args.board.now c.args.colour c.args.means c.in_ok-planned.planned.plan plan
    c.in_ok-planned.ensures.rests c.in_ok-planned-2.ensures.found)

pub returns-clause-owed : goal.returns-clause-owed
returns-clause-owed g c =
    let tree = c.in-Ok.closed in
    let same : tree.shape ≡ c.turn_shape-shape.result = c.in-Ok.ensures.shape in
    let board : tree.shape.board ≡ c.args.board.now
    = ap (λ (s : Setting). s.board) same ∙ c.turn_shape-shape.ensures.board in
    let player : tree.shape.player ≡ c.args.colour
    = ap (λ (s : Setting). s.player) same ∙ c.turn_shape-shape.ensures.player in
    let knobs = ap (λ (s : Setting). s.knobs) same ∙ c.turn_shape-shape.ensures.knobs in
    let parts = c.searched.ensures.parts in
    let among = subst (λ (v : Plan). IsSearchAmong v c.in-Some.allowed)
    (sym (as_before c.in_ok-planned.planned.plan c.in_ok-planned-2.planned.plan
    (λ w. absurd (both_ways c.is_win.result c.if-is_win.false (c.is_win.ensures.1 w)))
    c.in_ok-planned-2.ensures.same)) c.in-Some.ensures.search in
    record {
      good = c.searched.ensures.good c.args.knobs.now c.args.means
          (ap winner_of board ∙ nobody (winner_of c.args.board.now) (and_parts _ _ c.requires.may).0)
          (subst (λ (p : Position). IsPlanned p tree.shape.player c.args.means c.in_ok-planned-2.planned)
          (sym board)
          (subst (λ (k : Colour). IsPlanned c.args.board.now k c.args.means c.in_ok-planned-2.planned)
          (sym player) c.in_ok-planned-2.ensures.planned))
          c.in_ok-looked.ensures.there
          (subst (λ (p : Position). IsLookedFor p tree.shape.player c.in_ok-planned-2.planned.plan
          c.args.means.look c.in_ok-looked.looked) (sym board)
          (subst (λ (k : Colour). IsLookedFor c.args.board.now k c.in_ok-planned-2.planned.plan
          c.args.means.look c.in_ok-looked.looked) (sym player)
          (looked_for c.args.board.now c.args.colour c.in_ok-planned-2.planned.plan c.in-Some.allowed
          c.args.means.look c.in_ok-looked.looked among c.in_ok-looked.ensures.look)))
          (record { board = refl; player = refl; allowed = refl; knobs = knobs })
          (λ w. subst (λ (s : Setting). IsTreeOf s tree.words (seq_of s).0) (sym same)
          (c.in-Ok.ensures.one (ap (λ (k : Knobs). k.workers) c.turn_shape-shape.ensures.knobs ∙ w)));
      board = ap (λ (t : TurnData). t.board) parts ∙ board;
      player = ap (λ (t : TurnData). t.player) parts ∙ player;
      number = ap (λ (t : TurnData). t.number) parts;
    }
