use Rattle.std.proofs.Common.{◌≡◌, ℕ, List, take, sym, ap, ◌∙◌, subst, arith}
use Rattle.std.proofs.Math.Seq.{take-length}
use Rattle.trace_audit.specs.Texts.{StandAt}
use Rattle.trace_audit.proofs.TextForm.{front_is, front_long}
use Rattle.trace_audit.proofs.WordBytes.{no_words}
use Rattle.trace_audit.proofs.parsing.fields_in.Goals as goal

pub returns-then-bytes-lt-HEADER_BYTES : goal.returns-then-bytes-lt-HEADER_BYTES
returns-then-bytes-lt-HEADER_BYTES c
    = λ fields l b. omega (arith, front_long c.args.bytes.now fields l b, c.if-bytes-lt-HEADER_BYTES.true)

pub returns : goal.returns
returns c =
    let fields : List ℕ = c.read_words.new.words in
    let all : take 15 fields ≡ fields
    = ap (λ (n : ℕ). take n fields) (sym c.read_words.ensures.long) ∙ take-length fields in
    record {
      count = c.read_words.ensures.long;
      words = c.read_words.ensures.range (no_words 15);
      header = front_is c.args.bytes.now fields c.starts_with.result c.starts_with.ensures.value
          c.if-not-starts_with.false (subst (StandAt c.args.bytes.now 8) all c.read_words.ensures.read);
      long = omega (arith, c.if-bytes-lt-HEADER_BYTES.false);
    }
