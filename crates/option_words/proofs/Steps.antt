-- One turn of a walk, at each kind of word.
use Rattle.std.proofs.Common.{refl, List, ℕ, [], ◌∷◌, ◌≡◌, Option, Some, None, true, false, Bool}
use Rattle.std.proofs.Common.{cond, ◌&&◌}
use Rattle.std.specs.Prelude.{slice_get}
use Rattle.std.specs.Str.{bytes_eq, chars}
use Rattle.clap.specs.Lexer.{long_of, short_of}
use Rattle.clap.specs.Simple.{Shape}
use Rattle.clap.specs.Kinds.{Kinds, or_else}
use Rattle.clap.specs.Faults.{flags_fault, turn_fault, react_fault, settle_fault, stray_fault}
use Rattle.clap.specs.declared.error.kind.ErrorKind.TheVariants as kind
use Rattle.clap.specs.Walk.{Text as TextBytes, Rule, Held, Walk, Waiting, idle, option, walked}
use Rattle.clap.specs.Walk.{reacted, settled, arg_by_long, arg_by_id, arg_by_index, arg_by_short}
use Rattle.clap.specs.Walk.{takes_values, pushed, pending_count, most_values, is_multiple}
use Rattle.clap.specs.Walk.{is_pending, subcommand_met, takes_several, positional_held}
use Rattle.clap.specs.Walk.{next_position}

-- the walk before any `--`
abbrev pub at : Held → Waiting → ℕ → Walk
at h waiting position
    = record { held = h; waiting = waiting; position = position; is_trailing = false; stopped = None }

-- and after it
abbrev pub past : Held → Waiting → ℕ → Walk
past h waiting position
    = record { held = h; waiting = waiting; position = position; is_trailing = true; stopped = None }

abbrev pub dashes : TextBytes
dashes = 45 ∷ 45 ∷ []

-- ---- `--name=value`

pub walked_joined : (c : List Rule) (h : Held) (position : ℕ) (word name v : TextBytes) (a : Rule)
    → bytes_eq word dashes ≡ false → long_of word ≡ Some (name, Some v)
    → arg_by_long c name ≡ Some a → takes_values a ≡ true
    → walked c [] (at h idle position) word ≡ at (reacted c a (v ∷ []) h) idle position
unfolding walked
walked_joined c h position word name v a no_dashes long known takes
    = rw (no_dashes, long, known, takes) refl

pub fault_joined : (s : Shape) (h : Held) (w : Waiting) (position : ℕ) (word name v : TextBytes)
    (a : Rule) → subcommand_met [] w word ≡ None → bytes_eq word dashes ≡ false
    → long_of word ≡ Some (name, Some v) → arg_by_long s.rules name ≡ Some a → takes_values a ≡ true
    → turn_fault s [] (at h w position) word ≡ or_else
    (react_fault s.rules s.args_override_self a (v ∷ []) h) []
fault_joined s h w position word name v a none no_dashes long known takes
    = rw (none, no_dashes, long, known, takes) refl

-- ---- `--name`, whose value comes next

pub walked_named : (c : List Rule) (h : Held) (position : ℕ) (word name : TextBytes) (a : Rule)
    → bytes_eq word dashes ≡ false → long_of word ≡ Some (name, None) → arg_by_long c name ≡ Some a
    → takes_values a ≡ true
    → walked c [] (at h idle position) word ≡ at
    (record (settled c h) { pending = Some (a.id, []) }) (option a.id) position
unfolding walked
walked_named c h position word name a no_dashes long known takes
    = rw (no_dashes, long, known, takes) refl

pub fault_named : (s : Shape) (h : Held) (w : Waiting) (position : ℕ) (word name : TextBytes)
    (a : Rule) → subcommand_met [] w word ≡ None → bytes_eq word dashes ≡ false
    → long_of word ≡ Some (name, None) → arg_by_long s.rules name ≡ Some a → takes_values a ≡ true
    → turn_fault s [] (at h w position) word ≡ or_else
    (settle_fault s.rules s.args_override_self h) []
fault_named s h w position word name a none no_dashes long known takes
    = rw (none, no_dashes, long, known, takes) refl

-- ---- an unknown name

pub fault_unknown : (s : Shape) (h : Held) (w : Waiting) (position : ℕ) (word name : TextBytes)
    (v : Option TextBytes) → subcommand_met [] w word ≡ None → bytes_eq word dashes ≡ false
    → long_of word ≡ Some (name, v) → arg_by_long s.rules name ≡ None
    → turn_fault s [] (at h w position) word ≡ kind.UnknownArgument ∷ []
fault_unknown s h w position word name v none no_dashes long unknown
    = rw (none, no_dashes, long, unknown) refl

-- ---- short options, of which the command has none

pub fault_short : (s : Shape) (h : Held) (w : Waiting) (position : ℕ) (word : TextBytes) (y x : ℕ)
    (ys : TextBytes) → subcommand_met [] w word ≡ None → bytes_eq word dashes ≡ false
    → long_of word ≡ None → short_of word ≡ Some (y ∷ ys) → h.skip ≡ 0
    → slice_get (chars (y ∷ ys)) 0 ≡ Some x → arg_by_short s.rules x ≡ None
    → turn_fault s [] (at h w position) word ≡ kind.UnknownArgument ∷ []
unfolding flags_fault
fault_short s h w position word y x ys none no_dashes long short skip first unknown
    = rw (none, no_dashes, long, short, skip, first, unknown) refl

-- ---- the value of an option

pub walked_value : (c : List Rule) (h : Held) (position : ℕ) (word id : TextBytes) (a : Rule)
    → bytes_eq word dashes ≡ false → long_of word ≡ None → short_of word ≡ None
    → arg_by_id c id ≡ Some a → most_values a ≡ 1 → pending_count a (pushed id word h).pending ≡ 1
    → walked c [] (at h (option id) position) word ≡ at (pushed id word h) idle position
unfolding walked
walked_value c h position word id a no_dashes long short known most count
    = rw (no_dashes, long, short, known, most, count) refl

pub fault_value : (s : Shape) (h : Held) (position : ℕ) (word id : TextBytes)
    → bytes_eq word dashes ≡ false → long_of word ≡ None → short_of word ≡ None
    → turn_fault s [] (at h (option id) position) word ≡ []
fault_value s h position word id no_dashes long short = rw (no_dashes, long, short) refl

-- ---- a positional word

never : (b : Bool) (ks : Kinds) → cond (b && false) [] ks ≡ ks
never true ks = refl
never false ks = refl

pub walked_plain : (c : List Rule) (h : Held) (position : ℕ) (word : TextBytes) (a : Rule)
    → bytes_eq word dashes ≡ false → long_of word ≡ None → short_of word ≡ None
    → arg_by_index c position ≡ Some a → is_multiple a ≡ false → a.trailing_var_arg ≡ false
    → walked c [] (at h idle position) word ≡ at (positional_held c a word h) idle
    (next_position a position)
unfolding walked
walked_plain c h position word a no_dashes long short known single last
    = rw (no_dashes, long, short, known, single, last) refl

pub fault_plain : (s : Shape) (h : Held) (position : ℕ) (word : TextBytes) (a : Rule)
    → bytes_eq word dashes ≡ false → long_of word ≡ None → short_of word ≡ None
    → arg_by_index s.rules position ≡ Some a → takes_several a ≡ false
    → turn_fault s [] (at h idle position) word ≡ settle_fault s.rules s.args_override_self h
fault_plain s h position word a no_dashes long short known single
    = rw (no_dashes, long, short, known, single) (never (is_pending a h.pending) _)

pub fault_stray : (s : Shape) (h : Held) (position : ℕ) (word : TextBytes)
    → bytes_eq word dashes ≡ false → long_of word ≡ None → short_of word ≡ None
    → arg_by_index s.rules position ≡ None
    → turn_fault s [] (at h idle position) word ≡ stray_fault s
fault_stray s h position word no_dashes long short unknown
    = rw (no_dashes, long, short, unknown) refl

-- ---- `--`, and what follows it

pub walked_dashes : (c : List Rule) (h : Held) (w : Waiting) (position : ℕ) (word : TextBytes)
    → subcommand_met [] w word ≡ None → bytes_eq word dashes ≡ true
    → walked c [] (at h w position) word ≡ past h w position
unfolding walked
walked_dashes c h w position word none is = rw (none, is) refl

pub fault_dashes : (s : Shape) (h : Held) (w : Waiting) (position : ℕ) (word : TextBytes)
    → subcommand_met [] w word ≡ None → bytes_eq word dashes ≡ true
    → turn_fault s [] (at h w position) word ≡ []
fault_dashes s h w position word none is = rw (none, is) refl

pub walked_past : (c : List Rule) (h : Held) (w : Waiting) (position : ℕ) (word : TextBytes)
    (a : Rule) → arg_by_index c position ≡ Some a → is_multiple a ≡ false
    → walked c [] (past h w position) word ≡ past (positional_held c a word h) idle
    (next_position a position)
unfolding walked
walked_past c h w position word a known single = rw (known, single) refl

pub fault_past : (s : Shape) (h : Held) (w : Waiting) (position : ℕ) (word : TextBytes) (a : Rule)
    → arg_by_index s.rules position ≡ Some a → takes_several a ≡ false
    → turn_fault s [] (past h w position) word ≡ settle_fault s.rules s.args_override_self h
fault_past s h w position word a known single
    = rw (known, single) (never (is_pending a h.pending) _)

pub fault_past_stray : (s : Shape) (h : Held) (w : Waiting) (position : ℕ) (word : TextBytes)
    → arg_by_index s.rules position ≡ None
    → turn_fault s [] (past h w position) word ≡ stray_fault s
fault_past_stray s h w position word unknown = rw unknown refl
