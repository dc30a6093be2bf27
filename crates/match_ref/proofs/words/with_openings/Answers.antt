-- What was found is a match that the words say, so it is the one.
use Rattle.std.proofs.Common.{rules, sym, subst}
use Rattle.clap.specs.Words.{first_value, found_of}
use Rattle.match_ref.specs.Openings.{AreOpenings}
use Rattle.match_ref.specs.declared.table.TheConstants.{OPENING}
use Rattle.match_ref.proofs.OneMatch.{one_match}
use Rattle.match_ref.proofs.words.with_openings.Goals as goal

pub returns : goal.returns
returns c = λ w.
    let value = first_value (found_of c.args.found.now) in
    one_match value _ w (record {
      word = search rules;
      size = c.requires.size;
      games = (c.found_number.ensures c.in_ok-found_number.field-0).0 c.in_ok-found_number.was;
      threads = (c.found_number-2.ensures c.in_ok-found_number-2.field-0).0
          c.in_ok-found_number-2.was;
      seed = (c.found_long_number.ensures c.in_ok-found_long_number.field-0).0
          c.in_ok-found_long_number.was;
      openings = subst (AreOpenings c.args.size (value OPENING.0.now)) (sym c.openings.view_is)
          c.requires.openings;
      a = (c.side.ensures c.in_ok-side.field-0).0 c.in_ok-side.was;
      b = (c.side-2.ensures c.in_ok-side-2.field-0).0 c.in_ok-side-2.was;
      records = search rules;
    })
