use Rattle.std.proofs.Common.{◌≤◌, ◌-◌, List, ℕ, [], ◌++◌, length, take}
use Rattle.htp_session.specs.Sessions.{Conversation, IsBetweenLines}
use Rattle.htp_session.proofs.session.Session.take.Given as goal

-- each line that ended so far was answered
abbrev pub invariant-lines : goal.invariant-lines
invariant-lines g l = record {
  in_piece : l.at ≤ length l.piece;
  between_lines : (c : Conversation) → (seen : List ℕ)
      → IsBetweenLines c l.fn.devices l.fn.self.engine l.fn.self.splitter [] seen (seen ++ l.piece)
      → IsBetweenLines c l.devices l.self.engine l.self.splitter l.self.out.items
      (seen ++ take l.at l.piece) (seen ++ l.piece);
}

abbrev pub decreases-lines : goal.decreases-lines
decreases-lines g l = length l.piece - l.at
