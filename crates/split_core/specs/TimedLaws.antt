-- A timing side of a pipeline is one that the split state can take.
use Rattle.std.specs.Prelude.{ℕ}
use Rattle.mono_model.specs.declared.setup.Setup.{Setup}
use Rattle.time_model.specs.Piped.{Piped, IsPiped}
use Rattle.time_model.proofs.Owing.{stands_wants}
use Rattle.split_core.specs.Timed.{timed_of, IsTimed, IsSplit}

pub timed_laws : {P A : Type 0} (piped : Piped P A) → IsPiped piped → (rounds : Setup → ℕ) → IsSplit piped.allows piped.run rounds → IsTimed (timed_of piped rounds)
timed_laws piped laws rounds split = record {
  sound = laws.sound;
  start = laws.start;
  epoch = λ s k side h. h.epoch;
  needs = stands_wants piped laws;
  law = split.law;
  ranged = split.ranged;
  arrives = split.arrives;
  stop = split.stop;
  halts = split.halts;
  cycles = split.cycles;
}
