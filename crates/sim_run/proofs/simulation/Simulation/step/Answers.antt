-- A step of one walker, on the words of the vector.
use Rattle.std.proofs.Common.{rules, ◌≡◌, ◌≢◌, ◌<◌, List, ℕ, get_or, length, take, ◌++◌, drop, set}
use Rattle.std.proofs.Common.{refl, sym, ap, ◌∙◌, length-set}
use mathlib.Core.Option.{some, some-injective}
use lib.ListN.{get_elem?}
use Rattle.tree_words.specs.declared.steps.Op.{Op}
use Rattle.tree_words.specs.declared.steps.Op.TheVariants.{Done}
use Rattle.std.specs.Prelude.{slice_index}
use Rattle.arena_rule.specs.Afters.{answer_of, word_of}
use Rattle.arena_rule.specs.Rule.{words_after}
use Rattle.walker.specs.Machine.{op_of}
use Rattle.walker.specs.declared.machine.Walker.{Walker}
use Rattle.sim_run.proofs.Zips.{at-index}
use Rattle.sim_run.proofs.Stepping.{can-apply, may-take, goes-on, goes-down}
use Rattle.sim_run.proofs.simulation.Simulation.step.Goals as goal
use Rattle.std.proofs.lemmas.List.{take_at}

pub returns-then-eq-clause-step : goal.returns-then-eq-clause-step
returns-then-eq-clause-step c =
    let done : c.op-op.result ≡ Done = search rules in (
      c.index.result.now,
      record {
        at = at-index c.args.self.now.walkers.items c.args.id c.index.result.now c.requires.id c.index.ensures;
        finished = sym c.op-op.ensures.is ∙ done;
        same = refl;
      },
    )

pub apply-answer-requires-clause-within : goal.apply-answer-requires-clause-within
apply-answer-requires-clause-within c =
    let w : Walker = c.index.result.now in
    (can-apply c.args.self.now.shape c.args.self.now.words.items c.args.self.now.walkers.items c.requires.underway c.args.id w
    (at-index c.args.self.now.walkers.items c.args.id w c.requires.id c.index.ensures) c.op-op.result c.op-op.ensures.is c.deref_mut.result.now
    c.deref_mut.ensures.value).0

pub apply-answer-requires-clause-room : goal.apply-answer-requires-clause-room
apply-answer-requires-clause-room c =
    let w : Walker = c.index.result.now in
    (can-apply c.args.self.now.shape c.args.self.now.words.items c.args.self.now.walkers.items c.requires.underway c.args.id w
    (at-index c.args.self.now.walkers.items c.args.id w c.requires.id c.index.ensures) c.op-op.result c.op-op.ensures.is c.deref_mut.result.now
    c.deref_mut.ensures.value).1

-- the walker is lent twice
same-op : (walkers : List Walker) (id : ℕ) (w u : Walker) (op : Op) → id < length walkers
    → w ≡ get_or walkers id w → u ≡ get_or walkers id u → op ≡ op_of w → op ≡ op_of u
same-op walkers id w u op l e d is = is
    ∙ ap op_of (some-injective w u (sym (at-index walkers id w l e) ∙ at-index walkers id u l d))

pub got-requires : goal.got-requires
got-requires c =
    let walkers = c.args.self.now.walkers.items in
    let w : Walker = c.index_mut.result.now in
    may-take c.args.self.now.shape c.args.self.now.words.items walkers c.requires.underway c.args.id w
    (at-index walkers c.args.id w c.requires.id c.index_mut.ensures.value)
    c.op-op.result
    (same-op walkers c.args.id c.index.result.now w c.op-op.result c.requires.id c.index.ensures c.index_mut.ensures.value c.op-op.ensures.is)
    c.deref_mut.result.now c.deref_mut.ensures.value c.apply-answer.result c.apply-answer.ensures.answer

-- the words of the vector are those that the step left
at : (c : goal.After-self-2-1)
    → get_elem? c.args.self.now.walkers.items c.args.id ≡ some c.index_mut.result.now
at c = at-index c.args.self.now.walkers.items c.args.id c.index_mut.result.now c.requires.id c.index_mut.ensures.value

is : (c : goal.After-self-2-1) → c.op-op.result ≡ op_of c.index_mut.result.now
is c = same-op c.args.self.now.walkers.items c.args.id c.index.result.now c.index_mut.result.now c.op-op.result c.requires.id c.index.ensures
    c.index_mut.ensures.value c.op-op.ensures.is

now-is : (c : goal.After-self-2-1)
    → take c.args.self.now.words.len
    (c.apply-answer.new.words ++ drop (length c.apply-answer.new.words) c.args.self.now.words.items) ≡ words_after c.deref_mut.result.now c.op-op.result
now-is c =
    let long : length c.deref_mut.result.now ≡ length c.apply-answer.new.words
    = sym (ap length c.apply-answer.ensures.words ∙ length-set c.deref_mut.result.now _ _) in
    take_at c.apply-answer.new.words _ c.args.self.now.words.len
    (sym long ∙ c.deref_mut.ensures.len) ∙ c.apply-answer.ensures.words

pub returns-clause-underway : goal.returns-clause-underway
returns-clause-underway c =
    goes-on c.args.self.now.shape c.args.self.now.words.items c.args.self.now.walkers.items c.requires.underway c.args.id c.index_mut.result.now (at c)
    c.op-op.result
    (is c) c.deref_mut.result.now c.deref_mut.ensures.value c.apply-answer.result c.apply-answer.ensures.answer
    _ (now-is c) (set c.args.self.now.walkers.items c.args.id c.got.new.self)
    (ap (set c.args.self.now.walkers.items c.args.id) c.got.ensures.is)

pub returns-clause-step : goal.returns-clause-step
returns-clause-step c =
    let o = c.op-op.result in (
      c.index_mut.result.now,
      record {
        at = at c;
        is = is c;
        more = search rules;
        answered = c.apply-answer.ensures.answer
            ∙ ap (λ (l : List ℕ). answer_of o (slice_index l (word_of o))) c.deref_mut.ensures.value;
        words = now-is c ∙ ap (λ (l : List ℕ). words_after l o) c.deref_mut.ensures.value;
        walkers = ap (set c.args.self.now.walkers.items c.args.id) c.got.ensures.is;
      },
    )

pub returns-clause-fewer : goal.returns-clause-fewer
returns-clause-fewer c =
    let more : c.op-op.result ≢ Done = search rules in
    goes-down c.args.self.now.shape c.args.self.now.words.items c.args.self.now.walkers.items c.requires.underway c.args.id c.index_mut.result.now (at c)
    c.op-op.result
    (is c) c.deref_mut.result.now c.deref_mut.ensures.value c.apply-answer.result c.apply-answer.ensures.answer
    _ (now-is c) (set c.args.self.now.walkers.items c.args.id c.got.new.self)
    (ap (set c.args.self.now.walkers.items c.args.id) c.got.ensures.is) more
