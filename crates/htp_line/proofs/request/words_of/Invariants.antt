use Rattle.std.proofs.Common.{◌≡◌, filter, length, map, nat_lt, take}
use Rattle.htp_line.proofs.request.words_of.Given as goal

-- the words among the parts so far
abbrev pub invariant-loop-part : goal.invariant-loop-part
invariant-loop-part l = l.found.items ≡ filter (λ part. nat_lt 0 (length part))
    (map (λ s. s.now) (take l.part-index l.part-items))
