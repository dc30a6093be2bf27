-- The bytes moved are those that stand after the place.
use Rattle.std.proofs.Common.{◌≡◌, ◌+◌, ◌-◌, ℕ, List, take, drop, ◌++◌, arith, refl}
use Rattle.std.proofs.Math.Seq.{take-add}
use Rattle.hex_io.proofs.Parts.{copied_front, drop_parts}
use Rattle.hex_io.proofs.source.Source.take.Goals as goal

pub returns : goal.returns
returns c =
    let xs : List ℕ = c.args.self.now.bytes.items in
    let i : ℕ = c.args.self.now.at in
    let n : ℕ = c.args.count in
    let is_part : c.copy_from_slice.new.self ≡ take (i + n - i) (drop i xs)
    = rw (← c.deref.ensures.value) c.copy_from_slice.ensures.after in
    let front : take n (c.copy_from_slice.new.self ++ drop n c.args.buf.now) ≡ take n (drop i xs)
    = copied_front xs _ _ i n (omega arith) is_part in
    record {
      ahead = rw front (drop_parts xs i n);
      behind = rw front (take-add i n xs);
      bytes = refl;
      place = refl;
    }
