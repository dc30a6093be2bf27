use Rattle.std.proofs.Common.{refl}
use Rattle.trace_audit.specs.Traces.{fields_of, written_count}
use Rattle.trace_audit.proofs.TextTree.{begins_front}
use Rattle.trace_audit.proofs.TextWords.{count_fits, front_read, tree_told}
use Rattle.trace_audit.proofs.parsing.read_header.Goals as goal

pub returns-in_default : goal.returns-in_default
returns-in_default c = λ t b. c.in_default.ensures (fields_of t.shape (written_count t.words)) refl
    (begins_front t c.args.bytes.now b)

pub returns-in_default-shape_of : goal.returns-in_default-shape_of
returns-in_default-shape_of c = λ t b. c.in_default-shape_of.ensures t.shape b.read.shape
    (tree_told c.args.bytes.now c.in-Some.fields t c.in-Some.ensures b)

pub returns-in_default-count_in : goal.returns-in_default-count_in
returns-in_default-count_in c
    = λ t b. c.in_default-count_in.ensures
    (count_fits c.args.bytes.now c.in-Some.fields c.in-Some-shape_of.shape t c.in-Some.ensures c.in-Some-shape_of.ensures b)

pub returns : goal.returns
returns c =
    front_read c.args.bytes.now c.in-Some.fields c.in-Some-shape_of.shape c.in-Some-count_in.count c.keeps.ensures.setting c.in-Some.ensures
    c.in-Some-shape_of.ensures c.in-Some-count_in.ensures.0 c.in-Some-count_in.ensures.1
