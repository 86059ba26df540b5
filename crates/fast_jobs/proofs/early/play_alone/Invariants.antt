use Rattle.std.proofs.Common.{◌≡◌, ℕ, ◌-◌, ◌≤◌, List, take, Option}
use Rattle.fsim_ports.specs.Sink.{grown}
use Rattle.mono_model.specs.declared.setup.Setup.{Setup}
use Rattle.mono_model.specs.Alone.{alone}
use Rattle.func_model.specs.declared.alone.AloneRun.{AloneRun}
use Rattle.func_model.specs.Alone.{AloneStandsFor, IsAlone}
use Rattle.fast_jobs.proofs.early.play_alone.Given as goal

-- so many steps are left, and so many bytes of the whole output were put
pub record IsPlaying {D : Type 0} (cycles left put before now : ℕ) (old new : Option (List ℕ)) (first run : AloneRun D) : Type 0 where
  pub within : left ≤ cycles
  pub count : before ≤ now
  pub standing : IsAlone run
  pub at : (s : Setup) → s.cycles ≡ cycles → AloneStandsFor s 0 first → AloneStandsFor s (cycles - left) run
  pub written : (s : Setup) → s.cycles ≡ cycles → AloneStandsFor s 0 first → new ≡ grown old (take put (alone s cycles).arch.output)

abbrev pub invariant-loop-left : goal.invariant-loop-left
invariant-loop-left g l =
    IsPlaying l.cycles l.left l.put (g.K.Sink.faults l.initial.sink) (g.K.Sink.faults l.sink) (g.K.Sink.written l.initial.sink) (g.K.Sink.written l.sink)
    l.initial.run l.run

abbrev pub decreases-loop-left : goal.decreases-loop-left
decreases-loop-left g l = l.left
