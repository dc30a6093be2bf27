use Rattle.win_cert.proofs.ManyLines.{many_clear, many_means}
use Rattle.win_cert.proofs.RuleLines.{and_clear, and_means, key_clear, key_means, three_clear}
use Rattle.win_cert.proofs.RuleLines.{three_means, two_clear, two_means}
use Rattle.win_cert.proofs.rule_lines.lines_are_rules.Goals as goal

pub returns-clause-groups : goal.returns-clause-groups
returns-clause-groups c = λ d i j a b n. (and_means d i j a b n, and_clear d i j a b n)

pub returns-clause-cells : goal.returns-clause-cells
returns-clause-cells c = λ d i j a b n. (key_means d i j a b n, key_clear d i j a b n)

pub returns-clause-twos : goal.returns-clause-twos
returns-clause-twos c = λ d i j a b n. (two_means d i j a b n, two_clear d i j a b n)

pub returns-clause-threes : goal.returns-clause-threes
returns-clause-threes c
    = λ d i j k a b f n. (three_means d i j k a b f n, three_clear d i j k a b f n)

pub returns-clause-many : goal.returns-clause-many
returns-clause-many c = λ d numbers a others n. (many_means d numbers a others n, many_clear d numbers a others n)
