-- A talk with a debugger, as a call found and left it, and what is due of it.
use Rattle.std.specs.Prelude.{ℕ, List, [], ◌++◌, length, drop, Option, unwrap_or}
use Rattle.mono_model.specs.declared.setup.Setup.{Setup}
use Rattle.gdb_model.specs.Talk.{session_text}
use Rattle.gdb_session.specs.Talk.{Exchange}
use Rattle.fast_jobs.specs.Call.{Hearing, Writing}

abbrev pub exchange_of : Hearing → Writing → Exchange
exchange_of hearing sink = record {
  heard_before = hearing.before;
  heard_after = hearing.after;
  reads_before = hearing.faults.before;
  reads_after = hearing.faults.after;
  written_before = sink.before;
  written_after = sink.after;
  writes_before = sink.faults.before;
  writes_after = sink.faults.after;
}

-- of all bytes read: what was written before the talk, and then what answers those that are read in it
abbrev pub due_after : ℕ → Setup → Option (List ℕ) → Option (List ℕ) → List ℕ → List ℕ
due_after history s heard written bytes =
    unwrap_or written [] ++ session_text history s (drop (length (unwrap_or heard [])) bytes)
