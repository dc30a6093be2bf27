use Rattle.win_cert.proofs.Parsed.{parsed}
use Rattle.win_cert.proofs.reading.read.Goals as goal

pub returns : goal.returns
returns c = parsed c.args.bytes.now c.read_text.result c.read_text.ensures
