use Rattle.std.proofs.Common.{◌≡◌, ℕ, ◌-◌, ◌≤◌, List, length, take, Option}
use Rattle.fsim_ports.specs.Sink.{grown}
use Rattle.fsim_ports.proofs.whole.put_all.Given as goal

-- the first `done` bytes were written
pub record WritesUpTo (text : List ℕ) (done before now : ℕ) (old new : Option (List ℕ)) : Type 0 where
  pub within : done ≤ length text
  pub count : before ≤ now
  pub written : new ≡ grown old (take done text)

abbrev pub invariant-loop-done : goal.invariant-loop-done
invariant-loop-done g l = WritesUpTo l.bytes l.done (g.K.Sink.faults l.initial.sink) (g.K.Sink.faults l.sink) (g.K.Sink.written l.initial.sink) (g.K.Sink.written l.sink)

abbrev pub decreases-loop-done : goal.decreases-loop-done
decreases-loop-done g l = length l.bytes - l.done
