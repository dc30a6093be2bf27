-- Each name is read in turn.
use Rattle.std.proofs.Common.{◌≡◌, ◌∙◌, ◌≤◌, ℕ, List, take, length, map, sym, subst, arith}
use Rattle.std.specs.Borrow.{Bor}
use Rattle.std.proofs.lemmas.Grind.{common_steps}
use Rattle.match_ref.specs.Openings.{AreVertices}
use Rattle.match_ref.specs.declared.settings.TheConstants.{MOST_OPENINGS}
use Rattle.match_ref.proofs.ListLaws.{many_names, none_at, one_list}
use Rattle.match_ref.proofs.openings.cells_of.Goals as goal

pub returns-in_default : goal.returns-in_default
returns-in_default c = λ cells. (
  λ is. cc,
  λ h. absurd (none_at c.args.size c.args.names.now c.loop-name.name-index _ cells
      c.loop-name-test.true (sym c.read_vertex.ensures.value ∙ c.in_default.is) h.0),
)

pub returns : goal.returns
returns c =
    let names = c.args.names.now in
    let cells : List ℕ = c.loop-name.cells.items in
    let all : take c.loop-name.name-index names ≡ names = grind (arith, common_steps) in
    let h : AreVertices c.args.size (map (λ (s : Bor (List ℕ)). s.now) names) cells =
    subst (λ ns. AreVertices c.args.size (map (λ (s : Bor (List ℕ)). s.now) ns) cells) all
    c.loop-name.invariant in
    let many : length names ≡ length cells = many_names c.args.size names cells h in
    let few : length cells ≤ MOST_OPENINGS = omega (arith, many) in
    rw c.of.ensures
    (λ xs. one_list c.args.size (map (λ (s : Bor (List ℕ)). s.now) names) cells xs h few)
