-- The scan after a child's seen word: the next child, or the choice after the last.
use Rattle.std.proofs.Common.{◌≡◌, ℕ, ◌+◌, ◌*◌, ◌<◌, ◌≤◌, true, List, ◌∷◌, length, get_or, Some}
use Rattle.std.proofs.Common.{None, refl, sym, ap, ◌∙◌, subst, arith}
use Rattle.hex_board.specs.Positions.{is_empty_at}
use Rattle.uct_table.specs.Choice.{Child, kept_of}
use Rattle.tree_words.specs.Settings.{Setting}
use Rattle.tree_words.specs.Words.{root_at}
use Rattle.tree_words.specs.Blocks.{LinkedBlock, InOrder, child, place, cell_at}
use Rattle.tree_words.specs.Paths.{root_state, node_state, state_after}
use Rattle.tree_words.specs.Writing.{listed}
use Rattle.tree_words.specs.Sequence.{search_game, child_of}
use Rattle.tree_words.specs.Descents.{pick}
use Rattle.tree_words.proofs.Blocks.GameLaws.{in-node, up-in}
use Rattle.tree_words.proofs.Walks.Adds.{is_child}
use Rattle.arena_rule.specs.Views.{SeatView}
use Rattle.arena_rule.specs.Lookups.{IsLoaded, tally_loaded, seen_loaded}
use Rattle.arena_rule.specs.Fits.{IsChosen}
use Rattle.arena_rule.specs.IsView.{IsView}
use Rattle.walker.specs.declared.scans.Phase.{Phase}
use Rattle.walker.specs.declared.machine.Walker.{Walker}
use Rattle.walker.specs.Scans.{ScanData}
use Rattle.walker.specs.Machine.{state_in, set_in, cells_in, chosen}
use Rattle.walker.specs.Belongs.{IsDown, IsBelow, InChild, HasKept, IsLevel, children_loaded}
use Rattle.walker.specs.Belongs.{AtChild, AtLink}
use Rattle.walker.proofs.KnownLaws.{one-order}
use Rattle.walker.proofs.KeepLaws.{kept-all}
use Rattle.walker.proofs.ChildLaws.{children-long, children-at}
use Rattle.tree_words.specs.Complete.{cells_below}
use Rattle.tree_words.proofs.Boards.EmptyLaws.{below-empty}
use Rattle.arena_rule.proofs.Options.{some-eq}
use Rattle.walker.proofs.LeafLaws.{cells-is, size-is}
use Rattle.walker.proofs.KeepsScan.{keeps-has, pick-is, fewer-empties}
use Rattle.walker.proofs.KeepsChoice.{Looked}
use Rattle.tree_words.proofs.Walks.Down.{child-has}

-- the scan goes on with the next child
pub looked-next : (w : Walker) (u : SeatView) (c : LinkedBlock) (d : ScanData) → Looked w u c d
    → IsBelow (record w { scan = d }) u c → u.held ≡ None → d.place < d.count
    → AtChild (record w { scan = d }) u
looked-next w u c d k below held l = record {
  down = k.down;
  held = held;
  block = c;
  below = below;
  scan = record {
    parent = k.parent;
    weight = k.weight;
    count = k.count;
    place = l;
    stands = subst (λ (p : Phase). InChild p u d (child c d.place)) (sym k.phase) k.at;
    tallies = k.tallies;
    seen = k.seen;
    few = k.few;
    keeps = k.keeps;
  };
}

-- the walk goes to the child that is kept
module _ (w : Walker) (u : SeatView) (c : LinkedBlock) (d : ScanData) (shape : u.shape ≡ w.shape)
    (iu : IsView u) (one : u.width ≡ 1)
    (k : Looked w u c d) (below : IsBelow (record w { scan = d }) u c)
    (last : d.count ≤ d.place) where
  corder : InOrder (root_at u.shape) u.known
  corder = one-order u iu one

  all : d.place ≡ length c.cells
  all = omega (arith, last, k.count, k.place)

  has : HasKept d (children_loaded u c d.place)
  has = keeps-has d (children_loaded u c d.place)
      (let n = children-long u c d.place (omega (arith, all)) in omega (arith, n, k.place)) k.keeps

  pub best-in : d.best < length c.cells
  best-in = let h = has.place in omega (arith, h, all)

  parent-visits : (tally_loaded u c.parent).visits ≡ d.parent
  parent-visits = ap (λ (y : ℕ). (tally_loaded u y).visits) below.parent
      ∙ (k.down.counted ∙ sym k.parent)

  pick-best : pick (search_game u.shape) (tally_loaded u) (seen_loaded u) c c.parent ≡ d.best
  pick-best =
      pick-is u.shape u c d.parent d.weight parent-visits (sym k.weight)
      ∙ ap (λ (n : ℕ). kept_of d.parent d.weight (children_loaded u c n)) (sym all)
      ∙ kept-all d (children_loaded u c d.place) has

  best-chosen : IsChosen u c (child c d.best)
  best-chosen = record {
    parent = subst (λ (y : ℕ). IsLoaded u (y + 2)) (sym below.parent) k.down.loaded;
    tallies = λ i l. k.tallies i (omega (arith, l, all));
    seen = λ i l. k.seen i (omega (arith, l, all));
    choice = ap (child c) (sym pick-best);
  }

  best-visits : (tally_loaded u (child c d.best)).visits ≡ d.visits
  best-visits =
      let is : Some has.child ≡ Some
      (child_of (tally_loaded u (child c d.best), seen_loaded u (child c d.best)))
      = sym has.is ∙ children-at u c d.place d.best has.place (omega (arith, all)) in
      ap (λ (z : Child). z.visits) (sym (some-eq is)) ∙ has.visits

  -- its cell
  cell : get_or c.cells d.best 0 ≡ get_or (cells_in w) d.best 0
  cell = ap (λ (cs : List ℕ). get_or cs d.best 0) below.cells

  pub cell-empty : is_empty_at w.board (get_or (cells_in w) d.best 0) ≡ true
  cell-empty =
      let is : cells_in w ≡ cells_below u.shape u.known w.node
      = cells-is w u shape corder iu.known k.down in
      let fits : d.best < length (cells_below u.shape u.known w.node)
      = (let l = best-in in omega (arith, l, ap length below.cells, ap length is)) in
      (λ i. is_empty_at ((k.down.is i).board) (get_or (is i) d.best 0))
      ∙ below-empty u.shape u.known w.node d.best iu.setting corder fits

  state-below : state_after (state_in w) (get_or (cells_in w) d.best 0) ≡ node_state u.shape u.known
      (child c d.best)
  state-below =
      let up : node_state u.shape u.known (child c d.best) ≡ state_after
      (node_state u.shape u.known c.parent) (cell_at c (place c (child c d.best)))
      = up-in (root_state u.shape) (λ e y s. state_after s (cell_at e (place e y)))
      (root_at u.shape) u.known c (child c d.best) corder below.known
      (child-has c d.best best-in) in
      (λ i. state_after ((k.down.is ∙ ap (node_state u.shape u.known) (sym below.parent)) i) ((sym cell
      ∙ ap (λ (n : ℕ). get_or c.cells n 0) (sym (is_child c.start d.best))) i))
      ∙ sym up

  pub small : w.board.size ≤ 11
  small = let m = iu.setting.position.most in
      omega (arith, size-is w u shape corder iu.known k.down, ap (λ (s : Setting). s.board.size) shape, m)

  pub room-left : length w.way < 121
  room-left = let f = fewer-empties w.board w.player
      (get_or (cells_in w) d.best 0) small cell-empty in let r = k.down.room in omega (arith, f, r)

  level : IsLevel u (record { parent = w.node; block = w.start; cells = set_in w }) (child c d.best)
  level = record {
    block = c;
    known = below.known;
    start = below.start;
    parent = below.parent;
    cells = below.cells ∙ ap (λ (s : Setting). listed s.board.size (set_in w)) (sym shape);
    node = child-has c d.best best-in;
    chosen = best-chosen;
  }

  child-is-at : child c d.best ≡ w.start + 4 + 4 * d.best
  child-is-at = omega (arith, below.start)

  best-down : IsDown w.number (child c d.best) d.visits
      (state_after (state_in w) (get_or (cells_in w) d.best 0))
      (record { parent = w.node; block = w.start; cells = set_in w } ∷ w.way) u
  best-down = record {
    ended = k.down.ended;
    ticket = k.down.ticket;
    adds = k.down.adds;
    known = in-node (root_at u.shape) u.known c (child c d.best) below.known
        (child-has c d.best best-in);
    is = state-below;
    on_way = (level, k.down.on_way);
    loaded = k.tallies d.best has.place;
    counted = best-visits;
    few = k.few;
    room = let f = fewer-empties w.board w.player (get_or (cells_in w) d.best 0) small cell-empty in
        let r = k.down.room in omega (arith, f, r);
  }

  pub looked-last : u.held ≡ None → AtLink (chosen (record w { scan = d })) u
  unfolding chosen
  looked-last held = record {
    down = subst (λ (y : ℕ). IsDown w.number y d.visits (state_after (state_in w) (get_or (cells_in w) d.best 0)) (record {
      parent = w.node;
      block = w.start;
      cells = set_in w;
    } ∷ w.way) u) child-is-at best-down;
    held = held;
    at = refl;
  }
