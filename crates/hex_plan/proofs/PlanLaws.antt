-- What plans say.
use Rattle.std.proofs.Common.{◌≡◌, ℕ, Bool, true, false, Option, Some, None, refl, sym}
use Rattle.std.proofs.Common.{◌∙◌, ap, subst}
use Rattle.std.specs.Prelude.{is_some}
use Rattle.std.specs.Option.{ForSome}
use Rattle.hex_cells.specs.declared.colours.Colour.{Colour}
use Rattle.hex_board.specs.Joined.{winner_of}
use Rattle.hex_board.specs.Positions.{IsPosition, Position, is_empty_at}
use Rattle.tree_words.specs.Closing.{ClosedTree, IsClosed}
use Rattle.tree_words.specs.Roots.{IsBest}
use Rattle.tree_words.specs.Settings.{IsSetting}
use Rattle.tree_words.specs.declared.settings.Knobs.{Knobs}
use Rattle.win_cert.specs.declared.certs.Cert.{Cert}
use Rattle.hex_plan.specs.Good.{FollowsPlan, IsGood, IsLookedFor, IsSearchedFor, IsSequential}
use Rattle.hex_plan.specs.Good.{IsTurnShape, looks_ahead}
use Rattle.hex_plan.specs.Plans.{IsCertifiedWin, IsPlan, IsPlanned, IsPlannedFor, IsWinBy}
use Rattle.look_ahead.specs.Looked.{LookedData}
use Rattle.hex_plan.specs.Turns.{TurnData, CanBeWritten, Decides, DecidesBy, IsDecided}
use Rattle.hex_plan.specs.Turns.{IsSearchedBy, certificate_of}
use Rattle.hex_plan.specs.declared.plans.Planned.{Planned}
use Rattle.hex_plan.specs.declared.settings.Means.{Means}
use Rattle.hex_plan.specs.declared.types.Plan.{Plan}
use Rattle.hex_plan.specs.declared.types.Plan.TheVariants.{Win, Search}
use Rattle.hex_plan.proofs.Certified.{IsBoard}

-- a plan that is a win by cell k
abbrev pub WonBy : Position → Colour → Plan → ℕ → Type 0
WonBy board player plan k =
    (cert : Cert) × (plan ≡ Win cert k) × IsCertifiedWin board player cert k

won_by : (board : Position) (player : Colour) (plan : Plan) (k : ℕ) → IsPlan board player plan
    → IsWinBy plan k → WonBy board player plan k
won_by board player (Win cert cell) k h w =
    subst (λ (c : ℕ). WonBy board player (Win cert cell) c) w (cert, refl, h)
won_by board player (Search threats allowed lost) k h w = absurd w

won_for : (board : Position) (player : Colour) (hsearch : Bool) (p : Planned) (k : ℕ)
    → IsPlannedFor board player hsearch p → IsWinBy p.plan k → WonBy board player p.plan k
won_for board player true p k h w = won_by board player p.plan k h w
won_for board player false p k h w = absurd (subst (λ (v : Plan). IsWinBy v k) h.plan w)

pub planned_win : (board : Position) (player : Colour) (means : Means) (p : Planned) (k : ℕ)
    → IsPlanned board player means p → IsWinBy p.plan k → WonBy board player p.plan k
planned_win board player means p k h w = won_for board player means.hsearch p k h.plan w

pub planned_empty : (board : Position) (player : Colour) (means : Means) (p : Planned) (k : ℕ)
    → IsPlanned board player means p → IsWinBy p.plan k → is_empty_at board k ≡ true
planned_empty board player means p k h w =
    let (cert, is, won) = planned_win board player means p k h w in won.empty

-- a turn that a win decides
pub decided_by_win : (t : TurnData) (means : Means) → IsPlanned t.board t.player means t.planned
    → IsWinBy t.planned.plan t.cell → t.looked ≡ None → t.closed ≡ None → IsDecided t
decided_by_win t means h w l e =
    let (cert, is, won) = planned_win t.board t.player means t.planned t.cell h w in
    record {
      empty = won.empty;
      decided = subst (λ (v : Plan). DecidesBy t v) (sym is) (l, e, refl);
      written = subst (λ (v : Plan). CanBeWritten (certificate_of v t.planned.loss)) (sym is)
          won.writable;
    }

pub good_win : (knobs : Knobs) (t : TurnData) (means : Means) → IsBoard t.board
    → winner_of t.board ≡ None → IsPlanned t.board t.player means t.planned
    → IsWinBy t.planned.plan t.cell → t.looked ≡ None → t.closed ≡ None → IsGood knobs means t
good_win knobs t means on n h w l e =
    let (cert, is, won) = planned_win t.board t.player means t.planned t.cell h w in
    record {
      position = on;
      nobody = n;
      empty = won.empty;
      planned = h;
      follows = subst (λ (v : Plan). FollowsPlan knobs means t v) (sym is) (l, e, refl);
    }

-- a turn that a tree decides
pub decided_by_search : (t : TurnData) (plan : Plan) (tree : ClosedTree) → t.closed ≡ Some tree
    → tree.shape.board ≡ t.board → tree.shape.player ≡ t.player
    → IsBest tree.shape tree.words t.cell → IsSearchedBy plan t.looked tree.shape.allowed
    → DecidesBy t plan
decided_by_search t (Win cert cell) tree e b p best h = absurd h
decided_by_search t (Search threats allowed lost) tree e b p best h = λ other is.
    let same : tree ≡ other = cc in
    subst (λ (z : ClosedTree). Decides t allowed z) same
    (record { board = b; player = p; allowed = h.1; chosen = h.0; best = best })

-- the certificate beside a search is that of a loss, if there is one
pub search_written : (plan : Plan) (loss : Option Cert) (looked : Option LookedData) (set : ℕ)
    → IsSearchedBy plan looked set → CanBeWritten loss → CanBeWritten (certificate_of plan loss)
search_written (Win cert cell) loss looked set h w = absurd h
search_written (Search threats allowed lost) loss looked set h w = w

pub follows_search : (knobs : Knobs) (means : Means) (t : TurnData) (plan : Plan)
    (tree : ClosedTree) → t.closed ≡ Some tree → IsSearchedBy plan t.looked tree.shape.allowed
    → is_some t.looked ≡ looks_ahead means → IsLookedFor t.board t.player plan means.look t.looked
    → IsSearchedFor knobs t tree.shape.allowed tree → FollowsPlan knobs means t plan
follows_search knobs means t (Win cert cell) tree e h l looked s = absurd h
follows_search knobs means t (Search threats allowed lost) tree e h l looked s
    = (l, looked allowed refl, tree, e, subst (λ c. IsSearchedFor knobs t c tree) h.1 s)

-- a turn that a tree decides is good
pub good_search : (knobs : Knobs) (means : Means) (t : TurnData) (tree : ClosedTree)
    → t.closed ≡ Some tree → t.board ≡ tree.shape.board → t.player ≡ tree.shape.player
    → IsSetting tree.shape → IsClosed tree.shape tree.words
    → IsBest tree.shape tree.words t.cell → is_empty_at tree.shape.board t.cell ≡ true
    → winner_of tree.shape.board ≡ None
    → IsPlanned tree.shape.board tree.shape.player means t.planned
    → IsSearchedBy t.planned.plan t.looked tree.shape.allowed
    → is_some t.looked ≡ looks_ahead means
    → IsLookedFor tree.shape.board tree.shape.player t.planned.plan means.look t.looked
    → IsTurnShape knobs tree.shape.board tree.shape.player t.number tree.shape.allowed tree.shape
    → IsSequential knobs tree → IsGood knobs means t
good_search knobs means t tree e b p set closed best empty n h cells looked looks shape one =
    let is = set.position in
    record {
      position = subst (λ (z : Position). IsPosition z.size z.black z.white) (sym b) is;
      nobody = ap winner_of b ∙ n;
      empty = ap (λ (z : Position). is_empty_at z t.cell) b ∙ empty;
      planned = subst (λ z. IsPlanned z t.player means t.planned) (sym b)
          (subst (λ c. IsPlanned tree.shape.board c means t.planned) (sym p) h);
      follows = follows_search knobs means t t.planned.plan tree e cells looked
          (subst (λ z. IsLookedFor z t.player t.planned.plan means.look t.looked) (sym b)
          (subst (λ c. IsLookedFor tree.shape.board c t.planned.plan means.look t.looked) (sym p)
          looks)) (record {
            shape = subst (λ z. IsTurnShape knobs z t.player t.number tree.shape.allowed tree.shape)
                (sym b)
                (subst (λ c. IsTurnShape knobs tree.shape.board c t.number tree.shape.allowed tree.shape)
                (sym p) shape);
            setting = set;
            closed = closed;
            best = best;
            sequential = one;
          });
    }

-- the tree of a turn is one of its board and player
pub tree_of_turn : (t : TurnData) (plan : Plan) → DecidesBy t plan
    → ForSome t.closed
    (λ (tree : ClosedTree). (tree.shape.board ≡ t.board) × (tree.shape.player ≡ t.player))
tree_of_turn t (Win cert cell) h tree e = let none : t.closed ≡ None = h.1 in absurd (cc)
tree_of_turn t (Search threats allowed lost) h tree e = ((h tree e).board, (h tree e).player)
