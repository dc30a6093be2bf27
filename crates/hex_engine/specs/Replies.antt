-- Replies, and what stands after them.
use Rattle.std.specs.Prelude.{ℕ, List, Result, Ok, codes}
use Rattle.hex_engine.specs.EngineState.{EngineState}
use Rattle.hex_engine.specs.Supply.{Supply}
use Rattle.hex_engine.specs.declared.answers.Fail.{Fail}
use Rattle.hex_engine.specs.declared.answers.Fail.TheVariants.{UnknownCommand, Syntax, Size}
use Rattle.hex_engine.specs.declared.answers.Fail.TheVariants.{Illegal, Over, NoUndo, ReadFault}
use Rattle.hex_engine.specs.declared.answers.Fail.TheVariants.{NoSearch, NoCert, NoLook}
use Rattle.hex_engine.specs.declared.answers.Fail.TheVariants as fail

-- an answer without where it lies in memory
pub data Reply : Type 0 where
  Done : List ℕ → Reply
  Quit : Reply
  Failed : Fail → Reply

-- a reply, and what stands after it
pub record Reaction : Type 0 where
  pub reply : Reply
  pub after : EngineState

-- a reaction, and what is left to be used up then
pub record Turned : Type 0 where
  pub reply : Reply
  pub after : EngineState
  pub left : Supply

-- what a request wants that is not there
pub data Missing : Type 0 where
  NoLoad : Missing
  NoTurn : Missing

-- the text of a failure
abbrev pub message : Fail → List ℕ
message UnknownCommand = codes "unknown command"
message Syntax = codes "syntax error"
message Size = codes "unacceptable size"
message Illegal = codes "illegal move"
message Over = codes "game over"
message NoUndo = codes "cannot undo"
message fail.NoLoad = codes "cannot load file"
message ReadFault = codes "read fault"
message NoSearch = codes "no search"
message NoCert = codes "no certificate"
message NoLook = codes "no look"

-- an answer after which all stands as before
abbrev pub unchanged : EngineState → Reply → Reaction
unchanged engine reply = record { reply = reply; after = engine }

-- nothing is used up
abbrev pub unused : Supply → Reaction → Result Turned Missing
unused left r = Ok (record { reply = r.reply; after = r.after; left = left })
