use Rattle.std.proofs.Common.{◌∙◌}
use Rattle.win_cert.proofs.LineParts.{nothing_left}
use Rattle.win_cert.proofs.reader.Reader.is_done.Goals as goal

pub returns : goal.returns
returns c = c.is_empty.ensures ∙ nothing_left c.args.self.now.rest.now
