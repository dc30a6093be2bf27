-- The numbers that the cause names are below those that are renamed, and elements that lie side by
-- side have places.
use Rattle.std.proofs.Common.{ℕ, All, ◌<◌, ◌==◌, [], ◌∷◌, get_or, length, if◌then◌else◌, subst}
use Rattle.hex_board.specs.Places.{Near}
use Rattle.hex_board.proofs.Places.{near_out}
use Rattle.conn_store.specs.Rules.{FollowsBy}
use Rattle.win_cert.specs.Cuts.{premises}
use Rattle.win_cert.proofs.CutLines.{second_in}
use Rattle.win_cert.proofs.cutting.line_of.Goals as goal

pub bounds-renamed-numbers-in-Or : goal.bounds-renamed-numbers-in-Or
bounds-renamed-numbers-in-Or c =
    let n : ℕ = length c.args.renamed.now in
    let numbers = c.in-Or.numbers in
    second_in (λ v. v < n) (get_or numbers 0 0) (get_or numbers 1 0)
    (if c.in-Or.count == 2 then [] else get_or numbers 2 0 ∷ [])
    (subst (λ v. All (λ i. i < n) (premises v)) c.in-Or.is c.requires.premises)

pub end_of-requires-clause-place : goal.end_of-requires-clause-place
end_of-requires-clause-place c =
    let e = c.args.elements.now in
    let n : Near e c.args.entry.x c.args.entry.y
    = near_out e _ _
    (subst (FollowsBy e c.requires.follows.0 c.args.entry) c.in-Adjacent.is c.requires.follows.1).0 in
    (n.1, n.3)

pub end_of-requires-in-Adjacent-clause-place : goal.end_of-requires-in-Adjacent-clause-place
end_of-requires-in-Adjacent-clause-place c =
    let e = c.args.elements.now in
    let n : Near e c.args.entry.x c.args.entry.y
    = near_out e _ _
    (subst (FollowsBy e c.requires.follows.0 c.args.entry) c.in-Adjacent.is c.requires.follows.1).0 in
    (n.2, n.4)
