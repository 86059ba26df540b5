-- The fourth phase of a cycle: Execute, whose record goes on to Memory once its latency is over and Memory is empty. Its
-- result is known to fetch then: a misprediction flushes all younger records
-- (Hennessy and Patterson, Computer Architecture, appendix C.1 and C.2, branch hazards).
use Rattle.std.specs.Prelude.{ℕ, ◌+◌, ◌&&◌, nat_le, if◌then◌else◌, Bool, is_none, Option, Some, None}
use Rattle.fsim_base.specs.declared.instruction.Class.{Class}
use Rattle.fsim_base.specs.declared.instruction.Class.TheVariants as class
use Rattle.cache_timing.specs.Caches.{CachesState}
use Rattle.mono_model.specs.declared.params.Params.{Params}
use Rattle.mono_model.specs.declared.setup.Setup.{Setup}
use Rattle.mono_model.specs.Window.{class_at}
use Rattle.mono_model.specs.Complete.{Completed, completes, completed_by}
use Rattle.mono_model.specs.Issue.{cached}
use Rattle.inorder_machine.specs.InorderMachine.{InorderMachine, Executing, in_execute}

-- how many cycles a record stays in Memory, without what a miss adds
abbrev pub memory_latency : Params → Class → ℕ
memory_latency p class.Alu = 1
memory_latency p class.Serial = 1
memory_latency p class.Mul = 1
memory_latency p class.Div = 1
memory_latency p class.Load = p.mem_latency
memory_latency p class.Store = p.mem_latency

-- What the phase leaves: the records, with where fetch has to go on, if there was a misprediction; the caches; Memory.
pub record Moved : Type 0 where
  pub completed : Completed
  pub caches : CachesState
  pub memory : Option ℕ

abbrev pub unmoved : InorderMachine → Moved
unmoved l = record {
  completed = record { records = l.machine.window; redirect = None };
  caches = l.machine.caches;
  memory = l.memory;
}

-- a load of RAM without a cause accesses the data cache, also one behind an instruction that traps
abbrev pub moved : Setup → Executing → InorderMachine → Moved
moved s x l =
    let d = cached s x.result.cause x.result.access l.machine.caches in
    record {
      completed = completes x.from l.machine.window;
      caches = d.state;
      memory = Some (l.machine.cycle + memory_latency s.params (class_at x.instruction) + d.cycles);
    }

abbrev pub may_move : InorderMachine → Executing → Bool
may_move l x = is_none l.memory && nat_le x.from l.machine.cycle

abbrev pub moving_by : Setup → Option Executing → InorderMachine → Moved
moving_by s None l = unmoved l
moving_by s (Some x) l = if may_move l x then moved s x l else unmoved l

unfoldable pub moving : Setup → InorderMachine → Moved
moving s l = moving_by s (in_execute l.machine.window) l

abbrev pub executed : Moved → InorderMachine → InorderMachine
executed x l = record {
  machine = completed_by x.completed.redirect x.completed.records (record l.machine { caches = x.caches });
  memory = x.memory;
}

unfoldable pub inorder_execute : Setup → InorderMachine → InorderMachine
inorder_execute s l = executed (moving s l) l
