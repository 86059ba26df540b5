-- What a timing side does, as the split state takes it.
use Rattle.std.proofs.Common.{◌≡◌, ◌↔◌, ℕ, suc, refl, ap, sym, ◌∙◌, subst}
use Rattle.trace_entry.specs.declared.Entry.{Entry}
use Rattle.mono_model.specs.declared.setup.Setup.{Setup}
use Rattle.mono_model.specs.Demand.{needed_entry}
use Rattle.mono_model.specs.Split.{told_by}
use Rattle.time_model.specs.declared.state.TimingState.{TimingState}
use Rattle.time_model.specs.declared.side.Taken.{Taken}
use Rattle.time_model.specs.declared.side.Taken.TheVariants.{Used, Dropped}
use Rattle.time_model.specs.declared.turn.Turn.{Turn}
use Rattle.time_model.specs.Piped.{Piped, IsPiped, place_of}
use Rattle.time_model.specs.Standing.{SideStandsFor, IsStep, IsMade, IsRight}
use Rattle.time_model.specs.Running.{Steps, IsRun, IsInner, IsRunInCycle}
use Rattle.time_model.specs.Feeding.{holding, IsFed}
use Rattle.time_model.specs.Turns.{order_told}
use Rattle.time_model.proofs.Owing.{stands_ends}
use Rattle.time_model.proofs.Running.{run_by, silent_by}
use Rattle.time_model.proofs.Feeding.{holding_stands, told_turn}
use Rattle.split_core.specs.Timed.{timed_of, IsStepOn, StepsOn, IsInnerOn, IsRunInCycleOn, IsRightOn, IsFedOn}

module _ {P A : Type 0} (piped : Piped P A) (laws : IsPiped piped) (rounds : Setup → ℕ) where
  step_on : (s : Setup) (k : ℕ) (old new : TimingState P A) (turn : Turn) → IsStep piped s k old new turn → IsStepOn (timed_of piped rounds) s k old new turn
  step_on s k old new turn is = record {
    waits = λ needs none. let it = is.waits needs none in (ap order_told it.0, it.1);
    rests = λ over. let it = is.rests over in (ap order_told it.0, it.1);
    goes = λ fed on.
        let it : IsMade piped s k old new turn = is.goes fed on in
        record { stands = it.stands; held = it.held; told = ap order_told it.turn_is ∙ told_turn (told_by (place_of piped s k) (place_of piped s (suc k))) (place_of piped s k).run.at };
  }

  pub steps_on : (old new : TimingState P A) (turn : Turn) → Steps piped old new turn → StepsOn (timed_of piped rounds) old new turn
  steps_on old new turn made = λ s k allowed stands. step_on s k old new turn (made s k allowed stands)

  pub runs_on : (old new : TimingState P A) (turn : Turn) → IsRun (Steps piped) old new turn → IsRun (StepsOn (timed_of piped rounds)) old new turn
  runs_on = run_by (Steps piped) (StepsOn (timed_of piped rounds)) steps_on

  -- steps within a cycle
  inner_on : (old new : TimingState P A) (turn : Turn) → IsInner piped old new turn → IsInnerOn (timed_of piped rounds) old new turn
  inner_on old new turn is = record {
    made = steps_on old new turn is.made;
    inner = λ s k h. sym (stands_ends piped laws s k old h) ∙ is.inner;
  }

  pub cycle_runs_on : (old new : TimingState P A) (turn : Turn) → IsRunInCycle piped old new turn → IsRunInCycleOn (timed_of piped rounds) old new turn
  cycle_runs_on old new turn is = record {
    behind = is.behind;
    silent = silent_by (IsInner piped) (IsInnerOn (timed_of piped rounds)) inner_on old is.behind is.silent;
    last = steps_on is.behind new turn is.last;
  }

  pub right_on : (entry : Entry) (side : TimingState P A) → IsRightOn (timed_of piped rounds) entry side → IsRight piped entry side
  right_on entry side is = record { setup = is.setup; sound = is.allowed; steps = is.steps; stands = is.stands; needed = is.needed }

  -- the side stands where it stood after an entry was taken
  taken_stands : (s : Setup) (k : ℕ) (entry : Entry) (old taken : TimingState P A) (answer : Taken) → (answer ≡ Used → taken ≡ holding entry old) → (answer ≡ Dropped → taken ≡ old) →
      ((answer ≡ Used) ↔ (entry.epoch ≡ old.telling.epoch)) → SideStandsFor piped s k old → (entry.epoch ≡ old.telling.epoch → entry ≡ needed_entry s (place_of piped s k)) → SideStandsFor piped s k taken
  taken_stands s k entry old taken Used used dropped by_epoch h right =
      subst (SideStandsFor piped s k) (sym (used refl)) (holding_stands piped laws s k entry old h (right (by_epoch.0 refl)))
  taken_stands s k entry old taken Dropped used dropped by_epoch h right = subst (SideStandsFor piped s k) (sym (dropped refl)) h

  pub fed_on : (entry : Entry) (old new : TimingState P A) (turn : Turn) → IsFed piped entry old new turn → IsFedOn (timed_of piped rounds) entry old new turn
  fed_on entry old new turn is = record {
    answer = is.answer;
    taken = is.taken;
    stands = λ s k h right. taken_stands s k entry old is.taken is.answer is.used is.dropped is.by_epoch h right;
    used = λ answer. ap (λ (side : TimingState P A). side.telling.held) (is.used answer);
    dropped = is.dropped;
    by_epoch = is.by_epoch;
    run = cycle_runs_on is.taken new turn is.run;
  }
