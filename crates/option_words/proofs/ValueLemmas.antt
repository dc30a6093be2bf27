-- The values that a parse found, by its rows.
use Rattle.std.proofs.Common.{◌≡◌, ◌∙◌, ap, List}
use Rattle.clap.specs.Words.{Row, first_of, first_value, rows_of}
use Rattle.clap.specs.declared.parser.matches.Found.{Found}
use Rattle.clap.proofs.WalkLemmas.{first_value-rows}

pub values_by_rows : (f : Found) (rows : List Row) → rows_of f ≡ rows
    → first_value f ≡ (λ name. first_of name rows)
values_by_rows f rows e = λ i name. (first_value-rows f name ∙ ap (first_of name) e) i
