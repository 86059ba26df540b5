-- Files, a sink and a source in memory.
use Rattle.std.specs.Prelude.{ℕ, ◌-◌, max, Bool, ◌&&◌, ◌||◌, List, [], ◌∷◌, ◌++◌, length, is_some}
use Rattle.std.specs.Prelude.{nat_lt, if◌then◌else◌}
use Rattle.fsim_ports.specs.Files.{Names, lookup}
use Rattle.fsim_ports.specs.Plan.{Plan, empty_plan, is_to_fail, called, faulted}

-- a name that is added again has its new bytes
abbrev pub with_file : Names → List ℕ → List ℕ → Names
with_file names name bytes = (name, bytes) ∷ names

-- the files, and which calls are to fail
pub record FilesInMemory : Type 0 where
  pub names : Names
  pub plan : Plan

-- the next read fails: it is planned, and the name is there
abbrev pub read_fails : FilesInMemory → List ℕ → Bool
read_fails files name = is_to_fail files.plan && is_some (lookup files.names name)

-- the plan after a read
abbrev pub plan_after_read : FilesInMemory → List ℕ → Plan
plan_after_read files name =
    if read_fails files name then faulted (called files.plan) else called files.plan

-- the bytes that were written, how many have room in all, and which calls are to fail
pub record SinkInMemory : Type 0 where
  pub bytes : List ℕ
  pub room : ℕ
  pub plan : Plan

abbrev pub empty_sink : ℕ → SinkInMemory
empty_sink room = record { bytes = []; room = room; plan = empty_plan }

-- the next put fails: it is planned, or the piece doesn't fit in what is left of the room
abbrev pub put_fails : SinkInMemory → List ℕ → Bool
put_fails sink piece = is_to_fail sink.plan || nat_lt (sink.room - length sink.bytes) (length piece)

-- the sink after a put
abbrev pub after_put : SinkInMemory → List ℕ → SinkInMemory
after_put sink piece =
    if put_fails sink piece
    then record sink { plan = faulted (called sink.plan) }
    else record sink { bytes = sink.bytes ++ piece; plan = called sink.plan }

-- the bytes, how many of them were read, how many a read gives at most, and which calls are to fail
pub record SourceInMemory : Type 0 where
  pub bytes : List ℕ
  pub place : ℕ
  pub piece : ℕ
  pub plan : Plan

abbrev pub opening_source : List ℕ → ℕ → SourceInMemory
opening_source bytes piece =
    record { bytes = bytes; place = 0; piece = max piece 1; plan = empty_plan }
