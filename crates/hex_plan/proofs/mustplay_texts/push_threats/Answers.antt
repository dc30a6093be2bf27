use Rattle.hex_plan.specs.TurnTexts.{threat_line}
use Rattle.hex_plan.proofs.Lines.{text_end, text_step}
use Rattle.hex_plan.proofs.mustplay_texts.push_threats.Goals as goal

pub threats-preserved : goal.threats-preserved
threats-preserved c =
    text_step (threat_line c.args.size) c.args.threats.now c.threats.threat-index c.threat-item.result _
    c.threats.text.items c.push_threat.new.text.items c.threats-test.true c.threat-item.is
    c.threats.invariant c.in_ok-push_threat.ensures

pub returns : goal.returns
returns c = text_end
    (threat_line c.args.size) c.args.threats.now c.threats.threat-index _ _ c.threats-test.false c.threats.invariant
