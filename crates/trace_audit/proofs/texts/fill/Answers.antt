use Rattle.std.proofs.Common.{◌≡◌, length, ap, arith}
use Rattle.trace_audit.proofs.texts.fill.Goals as goal

pub unwrap-requires : goal.unwrap-requires
unwrap-requires c =
    let eight : length c.to_le_bytes.result ≡ 8 = ap length c.to_le_bytes.ensures in
    c.extend_from_slice.ensures.succeeds
    (omega (arith, eight, c.loop-word-test.true, c.loop-word.invariant.long, c.requires, c.clear.ensures.capacity, c.loop-word.invariant.room))
