use Rattle.arena_rule.proofs.AddLaws.{tally-amount, seen-amount}
use Rattle.arena_rule.proofs.laws.adds_are_exact.Goals as goal

pub returns : goal.returns
returns c s blocks k leaf order = record {
  tallies = λ x n. tally-amount s blocks order k leaf x n;
  seen = λ b y i h. seen-amount s blocks order k leaf b y i h;
}
