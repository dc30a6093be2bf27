-- Words that are well formed, and what is found in them.
use Rattle.std.proofs.Common.{◌≡◌, ◌∙◌, ◌↔◌, refl, sym, subst, Bool, List, Option, Some, None, IfSome}
use Rattle.std.proofs.Common.{arith}
use Rattle.clap.specs.Words.{first_value, found_of}
use Rattle.clap.specs.declared.parser.matches.ArgMatches.{ArgMatches}
use Rattle.option_words.specs.Command.{ReadsForm}
use Rattle.option_words.specs.Finding.{FindsIn, FindsLine}
use Rattle.option_words.specs.Grammar.{value_of, word_name}
use Rattle.option_words.specs.Values.{TextBytes}
use Rattle.option_words.proofs.NumberLemmas.{number_in_range}
use Rattle.option_words.proofs.Unsaid.{said_without_default}
use Rattle.match_ref.specs.MatchTable.{match_app, match_form}
use Rattle.match_ref.specs.MatchWords.{AreMatchWords, IsSaidSide, AskFor}
use Rattle.match_ref.specs.Matches.{IsMatch, IsSide}
use Rattle.match_ref.specs.declared.settings.Side.{Side}
use Rattle.match_ref.specs.declared.table.TheConstants.{GAMES, OPENING, THREADS}
use Rattle.match_ref.specs.declared.words.MatchWords.{MatchWords}
use Rattle.match_ref.proofs.ListLaws.{few_openings, openings_on_board}

pub match_reads : ReadsForm match_app match_form
unfolding match_app
match_reads = record {
  built = refl;
  simple = refl;
  free = refl;
  apart = refl;
  named = refl;
  top = refl;
}

no_word : (words : List TextBytes) (w : MatchWords) → (g : AskFor words w)
    → value_of g.said word_name ≡ None
no_word words w g = said_without_default match_form g.said word_name refl ∙ g.values.word

pub none_found : (words : List TextBytes) (w : MatchWords) → FindsIn match_form words None
    → AskFor words w → ⊥
none_found words w none g =
    none g.said g.line (λ same. let no = no_word words w g in cc)

pub found : (words : List TextBytes) (m : ArgMatches) (w : MatchWords)
    → FindsLine match_form words m → AreMatchWords (first_value (found_of m)) w ↔ AskFor words w
found words m w f = (
  λ values. record {
    said = f.said;
    line = f.line;
    values = subst (λ (value : TextBytes → Option TextBytes). AreMatchWords value w)
        (f.values f.said f.line) values;
  },
  λ g. subst (λ (value : TextBytes → Option TextBytes). AreMatchWords value w)
      (sym (f.values g.said g.line)) g.values,
)

-- ---- ranges

side_in_range : (value : TextBytes → Option TextBytes) (is_b : Bool) (s : Side)
    → IsSaidSide value is_b s → IsSide s
side_in_range value is_b s h seed below = record {
  workers = (omega arith, omega arith);
  playouts = number_in_range _ _ _ _ h.playouts_is;
  seed = below;
  words = number_in_range _ _ _ _ h.words_is;
  expand = number_in_range _ _ _ _ h.expand_is;
  weight = (number_in_range _ _ _ _ h.weight_is).1;
}

in_range : (value : TextBytes → Option TextBytes) (w : MatchWords) → AreMatchWords value w
    → IsMatch w.setup
in_range value w h = record {
  games = number_in_range _ _ _ (value GAMES.0.now) h.games;
  threads = number_in_range _ _ _ (value THREADS.0.now) h.threads;
  openings = few_openings w.setup.size (value OPENING.0.now) w.setup.openings h.openings;
  on_board = openings_on_board w.setup.size (value OPENING.0.now) w.setup.openings h.openings;
  side_a = side_in_range _ _ w.setup.a h.a;
  side_b = side_in_range _ _ w.setup.b h.b;
}

pub ranges_from : (value : TextBytes → Option TextBytes) (r : Option MatchWords)
    → ((w : MatchWords) → (r ≡ Some w) ↔ AreMatchWords value w) → IfSome r (λ w. IsMatch w.setup)
ranges_from value None h = tt
ranges_from value (Some w) h = in_range value w ((h w).0 refl)
