-- A plan of events for the split machine, and what is told of entries.
use Rattle.std.specs.Prelude.{ℕ, zero, suc, Option, Some, None, List, [], ◌∷◌, ◌++◌, map}
use Rattle.trace_entry.specs.declared.Entry.{Entry}
use Rattle.mono_model.specs.declared.setup.Setup.{Setup}
use Rattle.mono_model.specs.Split.{Event, compute, push, obey, tick, take, send}
use Rattle.worked_examples.specs.Setups.{code_image, setup_of}
use Rattle.worked_examples.specs.Machines.{window_of_eight, bimodal_window_of_eight, small_instruction_cache}
use Rattle.worked_examples.specs.Pipeline.{backward_branch_loop, loop_at_a_line_end}
use Rattle.worked_examples.specs.Time.{cycle_counter_twice, vectored_interrupt_reads_time}
use Rattle.worked_examples.specs.Traps.{environment_call}
use Rattle.worked_examples.specs.Fences.{patched_instruction_with_fence}

-- the setups of these examples
abbrev pub reading : Setup
reading = setup_of (code_image vectored_interrupt_reads_time) window_of_eight

abbrev pub looping : Setup
looping = record (setup_of (code_image backward_branch_loop) bimodal_window_of_eight) { ring = 16 }

abbrev pub counting : Setup
counting = setup_of (code_image cycle_counter_twice) window_of_eight

abbrev pub calling : Setup
calling = setup_of (code_image environment_call) window_of_eight

abbrev pub patching : Setup
patching = setup_of (code_image patched_instruction_with_fence) window_of_eight

-- with room for one entry
abbrev pub missing : Setup
missing = record (setup_of (code_image loop_at_a_line_end) small_instruction_cache) { ring = 1 }

-- so many times the same events
abbrev pub repeated : ℕ → List Event → List Event
repeated zero events = []
repeated (suc times) events = events ++ repeated times events

-- the functional side makes thirteen entries
abbrev pub thirteen_entries : List Event
thirteen_entries = repeated 13 (compute ∷ push ∷ [])

-- and then the timing side alone takes, steps and sends so many times, and no order is obeyed
abbrev pub unanswered : ℕ → List Event
unanswered times = thirteen_entries ++ repeated times (take ∷ tick ∷ send ∷ [])

-- each side in turn so many times
abbrev pub in_turn : ℕ → List Event
in_turn times = repeated times (obey ∷ compute ∷ push ∷ take ∷ tick ∷ send ∷ [])

-- the number and epoch of an entry
abbrev pub name_of : Entry → ℕ × ℕ
name_of e = (e.number, e.epoch)

abbrev pub names_of : List Entry → List (ℕ × ℕ)
names_of entries = map name_of entries

abbrev pub name_held : Option Entry → Option (ℕ × ℕ)
name_held None = None
name_held (Some e) = Some (name_of e)
