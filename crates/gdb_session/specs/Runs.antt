-- Where a run in code leads.
use Rattle.std.specs.Prelude.{◌≡◌, ◌-◌}
use Rattle.mono_model.specs.declared.setup.Setup.{Setup}
use Rattle.func_model.specs.declared.trail.Trail.{Trail}
use Rattle.func_model.specs.Trail.{TrailStandsFor}
use Rattle.back_debug.specs.Debugger.{floors}
use Rattle.gdb_model.specs.Stops.{Stopped}
use Rattle.gdb_session.specs.declared.runs.Reason.{Reason as CodeReason}
use Rattle.gdb_session.specs.Standing.{reason_in}

-- it has stopped there, for this reason
pub record HasStopped {D : Type 0} (s : Setup) (stopped : Stopped) (old new : Trail D)
    (result : CodeReason) : Type 0 where
  pub stands : TrailStandsFor s new
  pub at : new.at ≡ stopped.at
  pub reason_is : reason_in result ≡ stopped.reason
  pub history_is : new.steps.capacity ≡ old.steps.capacity

-- the same of a run forwards: its steps may move the oldest position
pub record HasGoneForth {D : Type 0} (s : Setup) (stopped : Stopped) (old new : Trail D)
    (result : CodeReason) : Type 0 where
  pub stopped_is : HasStopped s stopped old new result
  pub floor_is : new.floor ≡ floors old.steps.capacity s old.at old.floor (new.at - old.at)

-- and of one backwards, which doesn't
pub record HasGoneBack {D : Type 0} (s : Setup) (stopped : Stopped) (old new : Trail D)
    (result : CodeReason) : Type 0 where
  pub stopped_is : HasStopped s stopped old new result
  pub floor_is : new.floor ≡ old.floor
