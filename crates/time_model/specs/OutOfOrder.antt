-- The out-of-order machine's pipeline, as a timing side takes it.
use Rattle.std.specs.Prelude.{◌≡◌, ℕ, true}
use Rattle.mono_model.specs.declared.setup.Setup.{Setup}
use Rattle.mono_model.specs.Setup.{is_setup}
use Rattle.mono_model.specs.Demand.{place}
use Rattle.machine_laws.specs.DemandRun.{mono_run}
use Rattle.timing_laws.specs.Seen.{seen}
use Rattle.timing_core.specs.declared.state.TimingCore.{TimingCore}
use Rattle.timing_core.specs.CoreStandsFor.{CoreStandsFor}
use Rattle.time_model.specs.declared.at.At.{At}
use Rattle.time_model.specs.declared.at.At.TheVariants.{Interrupting}
use Rattle.time_model.specs.declared.state.TimingState.{TimingState}
use Rattle.time_model.specs.At.{at_in}
use Rattle.time_model.specs.Piped.{Piped}
use Rattle.time_model.specs.Standing.{SideStandsFor}

-- it has what can be seen of the run, and the turn that comes next
pub record CoreStandsAt (s : Setup) (k : ℕ) (timing : TimingCore) (next : At) : Type 0 where
  pub core : CoreStandsFor s (seen s (place s k).run.demand) timing
  pub at : at_in next ≡ (place s k).run.at

abbrev pub core_piped : Piped TimingCore At
core_piped = record {
  allows = λ s. is_setup s ≡ true;
  run = mono_run;
  seen = at_in;
  first = Interrupting;
  stands = CoreStandsAt;
  core = λ core. core;
}

-- the monolithic machine's timing side
abbrev pub TimeState : Type 0
TimeState = TimingState TimingCore At

abbrev pub TimeSideStandsFor : Setup → ℕ → TimeState → Type 0
TimeSideStandsFor = SideStandsFor core_piped
