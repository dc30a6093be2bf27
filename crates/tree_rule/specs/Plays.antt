-- What a step tells the seat that makes it. No clause of a public call cites this.
use Rattle.std.specs.Prelude.{◌≡◌, ℕ, ◌-◌, ◌==◌, true}
use Rattle.atomic_table.specs.Table.{Me, Step}
use Rattle.tree_words.specs.Sequence.{amount_of}
use Rattle.tree_words.specs.declared.layout.TheConstants.{RECORDS_AT}
use Rattle.tree_words.specs.declared.steps.Op.{Op}
use Rattle.tree_words.specs.declared.steps.Op.TheVariants.{Draw, Look, Claim, Write, Publish, Add}
use Rattle.tree_words.specs.declared.steps.Op.TheVariants.{Note}
use Rattle.arena_rule.specs.Adds.{CountAdd}
use Rattle.arena_rule.specs.Answers.{MayAnswer}
use Rattle.arena_rule.specs.Owing.{Debtor, stepped_seat, owing_more, owing_less}
use Rattle.tree_rule.specs.Events.{IsMadeInRule, IsOwedInRule, IsGivenInRule}

-- the step may give this answer, which is what it found in an arena of the rule, the view is the
-- one after it, and no slot is taken or given back
pub record IsStep (old : Me ℕ Debtor) (op : Op) (x : ℕ) (new : Me ℕ Debtor) : Type 0 where
  pub answer : MayAnswer old.0.view op x
  pub made : IsMadeInRule old.0 op x
  pub view : new.0 ≡ stepped_seat old.0 op x
  pub slots : new.1 ≡ old.1

-- what each kind of step tells: of its word, its operands, and the value that was found there
abbrev pub draw_tells : Step ℕ → Me ℕ Debtor → ℕ → Me ℕ Debtor → Type 0
draw_tells st old x new = IsStep old Draw x new

abbrev pub look_tells : Step ℕ → Me ℕ Debtor → ℕ → Me ℕ Debtor → Type 0
look_tells st old x new = IsStep old (Look st.word) x new

abbrev pub claim_tells : Step ℕ → Me ℕ Debtor → ℕ → Me ℕ Debtor → Type 0
claim_tells st old x new = IsStep old (Claim st.first) x new

abbrev pub publish_tells : Step ℕ → Me ℕ Debtor → ℕ → Me ℕ Debtor → Type 0
publish_tells st old x new = IsStep old (Publish st.word st.second) x new

-- an add of a visit with a win tells of a win
abbrev pub add_tells : Step ℕ → Me ℕ Debtor → ℕ → Me ℕ Debtor → Type 0
add_tells st old x new = IsStep old (Add st.word (st.first == amount_of true)) x new

-- a store finds nothing, so a write and a note are answered 0
abbrev pub write_tells : Step ℕ → Me ℕ Debtor → ℕ → Me ℕ Debtor → Type 0
write_tells st old x new = IsStep old (Write st.word st.first) 0 new

abbrev pub note_tells : Step ℕ → Me ℕ Debtor → ℕ → Me ℕ Debtor → Type 0
note_tells st old x new = IsStep old (Note (st.word - RECORDS_AT) st.first) 0 new

-- a load by which the seat begins to owe the add: its answer tells nothing
pub record IsOwing (old : Me ℕ Debtor) (add : CountAdd) (new : Me ℕ Debtor) : Type 0 where
  pub made : IsOwedInRule old.0 add
  pub view : new.0 ≡ owing_more old.0 add
  pub slots : new.1 ≡ old.1

abbrev pub owe_tells : CountAdd → Step ℕ → Me ℕ Debtor → ℕ → Me ℕ Debtor → Type 0
owe_tells add st old x new = IsOwing old add new

-- an add of all that the seat owes to the word
pub record IsGiving (old : Me ℕ Debtor) (i n : ℕ) (new : Me ℕ Debtor) : Type 0 where
  pub made : IsGivenInRule old.0 i n
  pub view : new.0 ≡ owing_less old.0 i
  pub slots : new.1 ≡ old.1

abbrev pub give_tells : Step ℕ → Me ℕ Debtor → ℕ → Me ℕ Debtor → Type 0
give_tells st old x new = IsGiving old st.word st.first new
