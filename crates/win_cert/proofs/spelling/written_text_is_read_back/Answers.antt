use Rattle.win_cert.proofs.Parsed.{written_again}
use Rattle.win_cert.proofs.spelling.written_text_is_read_back.Goals as goal

pub returns : goal.returns
returns c = written_again
