use Rattle.option_words.proofs.LineLaw.{line_clear, line_from, line_values}
use Rattle.option_words.proofs.TextLemmas.{all_other}
use Rattle.option_words.proofs.finding.clap_reads_lines.Goals as goal

pub returns : goal.returns
returns c = record {
  line = λ app form reads plain clear. line_from app form reads c.args.words.now
      (all_other c.args.words.now plain.0 plain.1) clear;
  clear = λ app form reads said line. line_clear app form reads c.args.words.now said line;
  values = λ app form reads said line name. line_values app form reads c.args.words.now said line name;
}
