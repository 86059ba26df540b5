-- What is seen of a state of either machine: neither values nor registers, times, the predictor nor caches
-- (Hennessy and Patterson, Computer Architecture, section 3.6, the reorder buffer; appendix C.1, the five stages).
use Rattle.std.specs.Prelude.{ℕ, Bool, true, false, is_none, Option, Some, None, List, option_and_then}
use Rattle.std.specs.Option.{option_map_or}
use Rattle.fsim_base.specs.declared.access.Access.{Access}
use Rattle.fsim_base.specs.declared.access.Access.TheVariants as access
use Rattle.fsim_base.specs.declared.access.Spot.TheVariants.{Ram, Device}
use Rattle.fsim_base.specs.declared.cause.Cause.{Cause}
use Rattle.fsim_base.specs.declared.instruction.Class.{Class}
use Rattle.fsim_base.specs.declared.instruction.Class.TheVariants as class
use Rattle.rv_decode.specs.declared.insn.Insn.{Insn}
use Rattle.rv_decode.specs.Decode.{decode_of}
use Rattle.rv_decode.specs.Class.{class_of, sources_of, dest_of}
use Rattle.mono_model.specs.declared.final_state.End.{End}
use Rattle.mono_model.specs.Found.{is_fence_i_insn}
use Rattle.mono_model.specs.Machine.{Counts}
use Rattle.mono_model.specs.Window.{is_register}

-- What an instruction came to.
pub record Outcome : Type 0 where
  -- the address of the instruction after it; 0 where it has a cause
  pub next : ℕ
  -- the load or store as it was attempted
  pub access : Access
  pub cause : Option Cause

abbrev pub next_seen : Option Cause → ℕ → ℕ
next_seen None next = next
next_seen (Some cause) next = 0

-- How far an instruction has come.
pub data Progress : Type 0 where
  -- it waits for its operands or a unit; in order, it is in Decode
  waiting : Progress
  -- it executes until this cycle; in order, it is in Execute
  executing : ℕ → Outcome → Progress
  -- in order alone: it is in Memory until this cycle
  accessing : ℕ → Outcome → Progress
  -- it is done; in order, it is in Write
  done : Outcome → Progress

-- An instruction under way.
pub record Shown : Type 0 where
  pub addr : ℕ
  -- its word, if there is one to be fetched
  pub word : Option ℕ
  -- the address that was predicted to follow
  pub predicted : ℕ
  -- the cycle in which it was fetched
  pub since : ℕ
  pub progress : Progress

pub record Sight : Type 0 where
  pub cycle : ℕ
  -- how many instructions retired, and what the phases counted
  pub retired : ℕ
  pub counts : Counts
  pub end : End
  -- the cycle from which on fetch goes on after a miss
  pub resume : ℕ
  -- the address to fetch next, if its miss was counted
  pub missing : Option ℕ
  -- the oldest first
  pub window : List Shown

-- What a word says of its instruction. What is no instruction has neither source nor destination.
abbrev pub insn_in : Shown → Option Insn
insn_in shown = option_and_then decode_of shown.word

abbrev pub class_shown : Shown → Class
class_shown shown = option_map_or class_of (insn_in shown) class.Alu

abbrev pub first_source_shown : Shown → Option ℕ
first_source_shown shown = option_and_then (λ insn. (sources_of insn).0) (insn_in shown)

abbrev pub second_source_shown : Shown → Option ℕ
second_source_shown shown = option_and_then (λ insn. (sources_of insn).1) (insn_in shown)

abbrev pub writes_shown : ℕ → Shown → Bool
writes_shown register shown = is_register register (option_and_then dest_of (insn_in shown))

abbrev pub is_fence_i_shown : Shown → Bool
is_fence_i_shown shown = option_map_or is_fence_i_insn (insn_in shown) false

-- what it came to, once it has begun
abbrev pub outcome_in : Progress → Option Outcome
outcome_in waiting = None
outcome_in (executing e o) = Some o
outcome_in (accessing e o) = Some o
outcome_in (done o) = Some o

abbrev pub outcome_shown : Shown → Option Outcome
outcome_shown shown = outcome_in shown.progress

abbrev pub access_shown : Shown → Access
access_shown shown = option_map_or (λ o. o.access) (outcome_shown shown) access.Nothing

abbrev pub is_waiting_at : Progress → Bool
is_waiting_at waiting = true
is_waiting_at (executing e o) = false
is_waiting_at (accessing e o) = false
is_waiting_at (done o) = false

abbrev pub is_executing_at : Progress → Bool
is_executing_at waiting = false
is_executing_at (executing e o) = true
is_executing_at (accessing e o) = false
is_executing_at (done o) = false

abbrev pub is_accessing_at : Progress → Bool
is_accessing_at waiting = false
is_accessing_at (executing e o) = false
is_accessing_at (accessing e o) = true
is_accessing_at (done o) = false

abbrev pub is_done_at : Progress → Bool
is_done_at waiting = false
is_done_at (executing e o) = false
is_done_at (accessing e o) = false
is_done_at (done o) = true

-- the address of a load of RAM without a cause, and of a store to RAM without one
abbrev pub ram_load_in : Access → Option ℕ
ram_load_in (access.Load addr width Ram) = Some addr
ram_load_in made = None

abbrev pub ram_store_in : Access → Option ℕ
ram_store_in (access.Store addr width Ram) = Some addr
ram_store_in made = None

abbrev pub without_cause : (Access → Option ℕ) → Outcome → Option ℕ
without_cause addr_in o = option_map_or (λ cause. None) o.cause (addr_in o.access)

abbrev pub ram_load : Shown → Option ℕ
ram_load shown = option_and_then (without_cause ram_load_in) (outcome_shown shown)

abbrev pub ram_store : Shown → Option ℕ
ram_store shown = option_and_then (without_cause ram_store_in) (outcome_shown shown)

abbrev pub is_device_load_in : Access → Bool
is_device_load_in (access.Load addr width Device) = true
is_device_load_in made = false

-- It gives a value to younger ones once it is done without a cause; in order, from Memory on, but a load not before Write.
abbrev pub is_load_class : Class → Bool
is_load_class class.Load = true
is_load_class other = false

abbrev pub has_no_cause : Outcome → Bool
has_no_cause o = is_none o.cause

abbrev pub gives_at : Class → Progress → Bool
gives_at own waiting = false
gives_at own (executing e o) = false
gives_at class.Load (accessing e o) = false
gives_at own (accessing e o) = has_no_cause o
gives_at own (done o) = has_no_cause o

abbrev pub gives_value : Shown → Bool
gives_value shown = gives_at (class_shown shown) shown.progress
