-- The machines as they are played cycle by cycle.
use Rattle.std.proofs.Common.{◌≡◌, ◌∙◌, ℕ, ◌+◌, ◌==◌, ◌&&◌, Bool, true, false, is_none, is_some, Option, length, refl, ap, sym, subst}
use Rattle.std.proofs.lemmas.Bool.{and_parts, eqb-true}
use Rattle.trace_entry.specs.declared.Entry.{Entry}
use Rattle.mono_model.specs.declared.setup.Setup.{Setup}
use Rattle.mono_model.specs.declared.final_state.Final.{Final}
use Rattle.mono_model.specs.Final.{has_ended}
use Rattle.mono_model.specs.Setup.{is_setup}
use Rattle.mono_model.specs.Machine.{Machine, machine_final, machine_start}
use Rattle.mono_model.specs.Cycle.{final, mono}
use Rattle.mono_model.specs.Demand.{Place, place}
use Rattle.mono_model.specs.Split.{Split, is_boundary, is_cycle_start, is_halted, is_place_boundary, split_start}
use Rattle.machine_laws.specs.DemandRun.{mono_run}
use Rattle.machine_laws.specs.Runs.{IsMono}
use Rattle.machine_laws.proofs.SplitReached.{start_reached}
use Rattle.func_model.specs.Contents.{ContentsStandFor}
use Rattle.time_model.specs.Missing.{HoldsPaid}
use Rattle.time_model.specs.OutOfOrder.{TimeState, core_piped}
use Rattle.split_core.specs.declared.state.SplitState.{SplitState}
use Rattle.split_core.specs.Standing.{GoesBack, GoesToNextCycle, IsAtBoundary, IsAtNextCycle, IsEnded, LeadsToEnd, Reports, SplitStandsFor}
use Rattle.split_core.specs.TimeSideLaws.{mono_laws, mono_sees}
use Rattle.insight_model.specs.OfState.{sight}
use Rattle.cycle_watch.specs.SeenIn.{time_sight}
use Rattle.cycle_watch.proofs.Paid.{HeldAt, holds_on}
use Rattle.cycle_watch.proofs.Places.{paid_is, time_shows}
use Rattle.cycle_watch.proofs.Reaching.{reached_holds}
use Rattle.sweep_runs.proofs.Last.{boundary_mono}
use Rattle.fast_jobs.specs.Played.{EndedWindow, StartsWindow}

-- the end that is seen is that of the machine
pub window_end : (m : Machine) → (sight m).end ≡ m.end
unfolding sight
window_end m = refl

pub boundary_place : (x : Split) → is_boundary x ≡ true → is_place_boundary x.place ≡ true
boundary_place x at =
    let both = and_parts (is_place_boundary x.place && is_none x.hand) (length x.listed_orders == 0) at in
    (and_parts (is_place_boundary x.place) (is_none x.hand) both.0).0

pub none_owed : (p : Place) → is_place_boundary p ≡ true → p.owed ≡ 0
none_owed p at = eqb-true p.owed 0 (and_parts (p.owed == 0) (is_cycle_start p.run.at) at).0

pub boundary_start : (p : Place) → is_place_boundary p ≡ true → is_cycle_start p.run.at ≡ true
boundary_start p at = (and_parts (p.owed == 0) (is_cycle_start p.run.at) at).1

module _ {D : Type 0} (s : Setup) (n : ℕ) (state : SplitState D TimeState) (starts : StartsWindow s n state) where
  abbrev x : Split
  x = starts.split

  machine_is : x.place.run.demand.machine ≡ mono s n
  machine_is =
      let here : IsMono s x.place = boundary_mono s x starts.reached starts.boundary in
      here.machine ∙ ap (mono s) starts.cycle

  pub going : state.is_reported ≡ false
  going = let h = starts.stands in let stands = h.stands in stands.going

  -- it goes on to the next cycle
  pub goes_on : (new : SplitState D TimeState) → GoesToNextCycle state new → has_ended (sight (mono s n)).end ≡ false → StartsWindow s (n + 1) new
  goes_on new goes on =
      let end : has_ended x.place.run.demand.machine.end ≡ false =
      ap (λ (m : Machine). has_ended m.end) machine_is ∙ ap has_ended (sym (window_end (mono s n))) ∙ on in
      let next : IsAtNextCycle s x new = goes s x starts.sound starts.reached starts.stands starts.boundary end in
      record {
        sound = starts.sound;
        split = next.split;
        reached = next.reached;
        stands = next.stands;
        boundary = next.boundary;
        unstopped = next.unstopped;
        cycle = next.cycle ∙ ap (λ (c : ℕ). c + 1) starts.cycle;
      }

  -- what its timing side shows is what is seen of the machine
  pub shows : time_sight state.time ≡ sight (mono s n)
  shows =
      let h = starts.stands in
      let at = h.at in
      let there = h.stands in
      let sees : at.split.place ≡ place s at.steps = mono_sees s at h.reached in
      let place_is : place s at.steps ≡ x.place = sym sees ∙ ap (λ (y : Split). y.place) h.is in
      let owed : (place s at.steps).owed ≡ 0 =
      ap (λ (p : Place). p.owed) place_is ∙ none_owed x.place (boundary_place x starts.boundary) in
      let on : is_halted at.split.place.run.at ≡ false = ap (λ (y : Split). is_halted y.place.run.at) h.is ∙ starts.unstopped in
      let held : HeldAt at.split.place at.split.held = reached_holds s (mono_run s) (holds_on s) at (mono_laws.start s) h.reached in
      let holds : HoldsPaid core_piped state.time = λ paid.
      ap (λ (o : Option Entry). is_some o) there.held
      ∙ held on
      (ap (λ (p : Place). p.run.demand.machine.paid) sees
      ∙ sym (paid_is s (place s at.steps).run.demand state.time.pipeline there.time.pipeline.core) ∙ paid) in
      time_shows s at.steps state.time there.time owed holds ∙ ap (λ (p : Place). sight p.run.demand.machine) place_is ∙ ap sight machine_is

  pub at_boundary : IsAtBoundary state
  at_boundary = record {
    standing = record { setup = s; sound = starts.sound; split = x; reached = starts.reached; stands = starts.stands };
    boundary = starts.boundary;
  }

  pub comes_to_end : (new : SplitState D TimeState) → LeadsToEnd state new → EndedWindow s new
  comes_to_end new leads = record { sound = starts.sound; ended = leads s x starts.sound starts.reached starts.stands }

module _ {D : Type 0} (s : Setup) (state : SplitState D TimeState) (ended : EndedWindow s state) where
  abbrev last : IsEnded s state
  last = ended.ended

  pub ended_boundary : IsAtBoundary state
  ended_boundary = record {
    standing = record { setup = s; sound = ended.sound; split = last.split; reached = last.reached; stands = last.stands };
    boundary = last.boundary;
  }

  last_machine : mono s last.split.place.run.demand.machine.cycle ≡ mono s s.cycles
  last_machine =
      let here : IsMono s last.split.place = boundary_mono s last.split last.reached last.boundary in
      sym here.machine ∙ last.machine

  pub reports_last : (reported : Final) → Reports state reported → reported ≡ final s s.cycles
  reports_last reported reports =
      reports s last.split ended.sound last.reached last.stands last.boundary ∙ ap (machine_final s) last_machine

  pub told_last : (new : SplitState D TimeState) → GoesBack state new → ContentsStandFor s (mono s s.cycles).arch new.func.contents
  told_last new goes =
      let P : Machine → Type 0 = λ m. ContentsStandFor {D = D} s m.arch new.func.contents in
      subst P last_machine (goes s last.split ended.sound last.reached last.stands last.boundary)

-- before its first cycle
pub starts_window : {D : Type 0} (s : Setup) (state : SplitState D TimeState) → is_setup s ≡ true → SplitStandsFor s (split_start s) state → StartsWindow s 0 state
unfolding split_start machine_start
starts_window s state sound stands = record {
  sound = sound;
  split = split_start s;
  reached = start_reached s;
  stands = stands;
  boundary = refl;
  unstopped = refl;
  cycle = refl;
}
