-- More at the end of what a conversation has left to use up.
use Rattle.hex_engine.specs.Supply.{Supply, and_then}
use Rattle.htp_session.specs.Talk.{TalkState}

-- the same talk, with more at the end of what is left
abbrev pub with_more_left : TalkState → Supply → TalkState
with_more_left s more = record s { left = and_then s.left more }
