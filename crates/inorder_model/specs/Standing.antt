-- The in-order machine's pipeline, as a timing side takes it.
use Rattle.std.specs.Prelude.{◌≡◌, ℕ}
use Rattle.mono_model.specs.declared.setup.Setup.{Setup}
use Rattle.inorder_machine.specs.Setup.{IsInorder}
use Rattle.inorder_machine.specs.Demand.{inorder_place, seen_at}
use Rattle.inorder_laws.specs.SplitLaw.{inorder_demand_run}
use Rattle.inorder_timing_laws.specs.Seen.{inorder_held}
use Rattle.time_model.specs.declared.state.TimingState.{TimingState}
use Rattle.time_model.specs.Piped.{Piped}
use Rattle.inorder_model.specs.declared.at.At.{At}
use Rattle.inorder_model.specs.declared.at.At.TheVariants.{Interrupting}
use Rattle.inorder_model.specs.declared.timing.InorderTimingCore.{InorderTimingCore}
use Rattle.inorder_model.specs.At.{at_in}
use Rattle.inorder_model.specs.InorderStandsFor.{InorderStandsFor}

-- it has what can be seen of the run, and the turn that comes next
pub record InorderStandsAt (s : Setup) (k : ℕ) (pipeline : InorderTimingCore) (next : At) : Type 0 where
  pub inorder : InorderStandsFor s (inorder_held s (inorder_place s k).run.demand (inorder_place s k).run.memory) pipeline
  pub at : at_in next ≡ (inorder_place s k).run.at

abbrev pub inorder_piped : Piped InorderTimingCore At
inorder_piped = record {
  allows = IsInorder;
  run = inorder_demand_run;
  seen = λ at. seen_at (at_in at);
  first = Interrupting;
  stands = InorderStandsAt;
  core = λ inorder. inorder.core;
}

-- the in-order machine's timing side
abbrev pub InorderState : Type 0
InorderState = TimingState InorderTimingCore At
