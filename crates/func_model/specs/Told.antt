-- What a run alone that tells of its instructions stands for: a setup, and a number of steps; and what it tells.
use Rattle.std.specs.Prelude.{◌≡◌, ℕ, ◌+◌, ◌^◌, ◌<◌, Bool, true, false, is_some, Option, Some, IfSome, IfNone}
use Rattle.trace_entry.specs.declared.Entry.{Entry}
use Rattle.mono_model.specs.declared.setup.Setup.{Setup}
use Rattle.mono_model.specs.Found.{word_in}
use Rattle.mono_model.specs.Final.{has_ended}
use Rattle.mono_model.specs.Effect.{note_of}
use Rattle.mono_model.specs.Alone.{alone, has_no_room}
use Rattle.mono_model.specs.Sequence.{found_next, result_at, seq}
use Rattle.func_model.specs.declared.told.ToldRun.{ToldRun}
use Rattle.func_model.specs.declared.told.Executed.{Executed}
use Rattle.func_model.specs.Contents.{ContentsStandFor, before}
use Rattle.func_model.specs.History.{IsReached, walk}
use Rattle.func_model.specs.Trail.{IsPlace}

-- the instruction of an entry
abbrev pub executed_by : Entry → Executed
executed_by entry = record {
  addr = entry.addr;
  word = entry.word;
  has_trapped = is_some entry.cause;
  next = entry.next;
}

-- the instruction of the step after so many
abbrev pub executed_at : Setup → ℕ → Executed
executed_at s made = let a = before made (walk s made) in record {
  addr = a.pc;
  word = word_in (found_next s a);
  has_trapped = is_some (result_at s (Some made) a).cause;
  next = (seq s (Some made) a).pc;
}

pub record ToldStandsFor {D : Type 0} (s : Setup) (run : ToldRun D) : Type 0 where
  pub contents : ContentsStandFor s (walk s run.made) run.contents
  pub place : IsPlace s run.made run.end
  pub limit : run.limit ≡ s.output
  pub cycles : run.cycles ≡ s.cycles
  pub space : run.contents.hart.room ≡ s.output + 1
  pub bounded : s.cycles < 2 ^ 63

-- there is a setup for which it stands
pub record IsToldStanding {D : Type 0} (run : ToldRun D) : Type 0 where
  pub setup : Setup
  pub stands : ToldStandsFor setup run

-- the output has no room for the byte that the step after so many sends
abbrev pub lacks_room : Setup → ℕ → Bool
lacks_room s made = let a = before made (walk s made) in has_no_room s (note_of (result_at s (Some made) a) a) a

-- a step was made, and its instruction told
pub record IsToldOn {D : Type 0} (s : Setup) (old new : ToldRun D) (executed : Executed) : Type 0 where
  pub stands : ToldStandsFor s new
  pub made : new.made ≡ old.made + 1
  pub going : has_ended (alone s old.made).end ≡ false
  pub room : lacks_room s old.made ≡ false
  pub told : executed ≡ executed_at s old.made

-- no further step is made: the run has ended, or the output has no room for a byte
pub data IsToldOver (s : Setup) (made : ℕ) : Type 0 where
  Ended : has_ended (alone s made).end ≡ true → IsToldOver s made
  Full : has_ended (alone s made).end ≡ false → lacks_room s made ≡ true → IsToldOver s made

-- what a step makes of the run, and what it tells
pub record IsToldStep {D : Type 0} (s : Setup) (old new : ToldRun D) (result : Option Executed) : Type 0 where
  pub reached : IsReached s old.made
  pub on : IfSome result (IsToldOn s old new)
  pub over : IfNone result (IsToldOver s old.made)
