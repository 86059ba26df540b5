-- The in-order machine as it is played cycle by cycle.
use Rattle.std.proofs.Common.{◌≡◌, ◌∙◌, ℕ, ◌+◌, true, false, is_some, Option, refl, ap, sym, subst}
use Rattle.trace_entry.specs.declared.Entry.{Entry}
use Rattle.mono_model.specs.declared.setup.Setup.{Setup}
use Rattle.mono_model.specs.declared.final_state.Final.{Final}
use Rattle.mono_model.specs.Final.{has_ended}
use Rattle.mono_model.specs.Machine.{machine_final, machine_start}
use Rattle.mono_model.specs.Demand.{Place}
use Rattle.mono_model.specs.Split.{is_cycle_start, is_halted, is_place_boundary, split_start}
use Rattle.mono_model.proofs.Sound.{setup_facts}
use Rattle.inorder_machine.specs.InorderMachine.{InorderMachine}
use Rattle.inorder_machine.specs.Cycle.{inorder, inorder_final}
use Rattle.inorder_machine.specs.Demand.{InorderAt, InorderPlace, accessing, ending, executing, halted, inorder_in, inorder_place, interrupting, issuing, seen as seen_place, seen_at, seen_of, stopping, trying, writing}
use Rattle.inorder_machine.specs.Setup.{IsInorder}
use Rattle.inorder_machine.specs.Split.{InorderSplit, inorder_split_start}
use Rattle.inorder_laws.specs.Runs.{IsInorderPlace, starts_cycle}
use Rattle.inorder_laws.specs.SplitLaw.{IsInorderRun, inorder_demand_run}
use Rattle.inorder_laws.proofs.SplitRun.{reached_inorder_run, start_inorder_reached}
use Rattle.func_model.specs.Contents.{ContentsStandFor}
use Rattle.time_model.specs.Missing.{HoldsPaid}
use Rattle.split_core.specs.declared.state.SplitState.{SplitState}
use Rattle.split_core.specs.AlongLaws.{reached_sees}
use Rattle.inorder_model.specs.Standing.{InorderState, inorder_piped}
use Rattle.inorder_model.specs.InorderTimedLaws.{inorder_timed_laws}
use Rattle.inorder_model.specs.Core.{GoesToNextInorderCycle, InorderSplitStandsFor, InorderGoesBack, InorderLeadsToEnd, InorderReports, IsAtInorderBoundary, IsAtNextInorderCycle, IsInorderEnded}
use Rattle.insight_model.specs.OfState.{inorder_sight}
use Rattle.cycle_watch.specs.SeenIn.{inorder_side_sight}
use Rattle.cycle_watch.proofs.InorderPaid.{inorder_holds_on}
use Rattle.cycle_watch.proofs.Paid.{HeldAt}
use Rattle.cycle_watch.proofs.Places.{inorder_side_shows, paid_is}
use Rattle.cycle_watch.proofs.Reaching.{reached_holds}
use Rattle.sweep_runs.proofs.InorderLast.{IsLast, last-place}
use Rattle.fast_jobs.specs.Played.{EndedInorder, StartsInorder}
use Rattle.fast_jobs.proofs.PlayedWindow.{boundary_place, boundary_start, none_owed}

-- the end that is seen is that of the machine
pub inorder_end : (l : InorderMachine) → (inorder_sight l).end ≡ l.machine.end
unfolding inorder_sight
inorder_end l = refl

-- where the split state sees the start of a cycle, one starts
starts_by : (at : InorderAt) → is_cycle_start (seen_at at) ≡ true → starts_cycle at ≡ true
starts_by interrupting start = refl
starts_by writing start = cc
starts_by accessing start = cc
starts_by executing start = cc
starts_by issuing start = cc
starts_by trying start = cc
starts_by ending start = cc
starts_by stopping start = refl
starts_by halted start = refl

-- what is at a place of the run
abbrev state_at : InorderPlace → InorderMachine
state_at p = inorder_in p.run.demand p.run.memory

module _ {D : Type 0} (s : Setup) (n : ℕ) (state : SplitState D InorderState) (starts : StartsInorder s n state) where
  abbrev x : InorderSplit
  x = starts.split

  run_law : IsInorderRun s x
  run_law = let sound = starts.sound in let window = sound.window in reached_inorder_run s x window starts.reached

  place_starts : is_place_boundary (seen_of x.place) ≡ true
  place_starts = let law = run_law in ap is_place_boundary (sym law.sees) ∙ boundary_place x.split starts.boundary

  machine_is : state_at x.place ≡ inorder s n
  machine_is =
      let law = run_law in
      let here : IsInorderPlace s x.place = law.state (starts_by x.place.run.at (boundary_start (seen_of x.place) place_starts)) in
      here.state ∙ ap (inorder s) starts.cycle

  pub going : state.is_reported ≡ false
  going = let h = starts.stands in let stands = h.stands in stands.going

  -- it goes on to the next cycle
  pub goes_on : (new : SplitState D InorderState) → GoesToNextInorderCycle state new → has_ended (inorder_sight (inorder s n)).end ≡ false → StartsInorder s (n + 1) new
  goes_on new goes on =
      let end : has_ended x.place.run.demand.machine.end ≡ false =
      ap (λ (l : InorderMachine). has_ended l.machine.end) machine_is ∙ ap has_ended (sym (inorder_end (inorder s n))) ∙ on in
      let next : IsAtNextInorderCycle s x new = goes s x starts.sound starts.reached starts.stands starts.boundary end in
      record {
        sound = starts.sound;
        split = next.split;
        reached = next.reached;
        stands = next.stands;
        boundary = next.boundary;
        unstopped = next.unstopped;
        cycle = next.cycle ∙ ap (λ (c : ℕ). c + 1) starts.cycle;
      }

  -- what its timing side shows is what is seen of the machine
  pub shows : inorder_side_sight state.time ≡ inorder_sight (inorder s n)
  shows =
      let h = starts.stands in
      let at = h.at in
      let there = h.stands in
      let sees : at.split.place ≡ seen_place s at.steps = reached_sees s (inorder_demand_run s) at (inorder_timed_laws.start s) h.reached in
      let place_is : inorder_place s at.steps ≡ x.place = ap (λ (y : InorderSplit). y.place) h.is in
      let owed : (seen_place s at.steps).owed ≡ 0 = ap (λ (p : InorderPlace). p.owed) place_is ∙ none_owed (seen_of x.place) place_starts in
      let on : is_halted at.split.place.run.at ≡ false = ap (λ (y : InorderSplit). is_halted y.split.place.run.at) h.is ∙ starts.unstopped in
      let held : HeldAt at.split.place at.split.held = reached_holds s (inorder_demand_run s) (inorder_holds_on s) at (inorder_timed_laws.start s) h.reached in
      let paid_here = paid_is s (inorder_place s at.steps).run.demand state.time.pipeline.core there.time.pipeline.inorder.core in
      let holds : HoldsPaid inorder_piped state.time = λ paid.
      ap (λ (o : Option Entry). is_some o) there.held ∙ held on (ap (λ (p : Place). p.run.demand.machine.paid) sees ∙ sym paid_here ∙ paid) in
      inorder_side_shows s at.steps state.time there.time owed holds ∙ ap (λ (p : InorderPlace). inorder_sight (state_at p)) place_is ∙ ap inorder_sight machine_is

  pub at_boundary : IsAtInorderBoundary state
  at_boundary = record {
    standing = record { setup = s; sound = starts.sound; split = x; reached = starts.reached; stands = starts.stands };
    boundary = starts.boundary;
  }

  pub comes_to_end : (new : SplitState D InorderState) → InorderLeadsToEnd state new → EndedInorder s new
  comes_to_end new leads = record { sound = starts.sound; ended = leads s x starts.sound starts.reached starts.stands }

module _ {D : Type 0} (s : Setup) (state : SplitState D InorderState) (ended : EndedInorder s state) where
  abbrev last : IsInorderEnded s state
  last = ended.ended

  pub ended_boundary : IsAtInorderBoundary state
  ended_boundary = record {
    standing = record { setup = s; sound = ended.sound; split = last.split; reached = last.reached; stands = last.stands };
    boundary = last.boundary;
  }

  is_last : IsLast s last.split.place.run.demand.machine.cycle
  is_last = let sound = ended.sound in let setup = sound.sound in last-place s last.split.place (setup_facts s setup).some_cycle last.place last.inorder

  pub reports_last : (reported : Final) → InorderReports state reported → reported ≡ inorder_final s s.cycles
  reports_last reported reports =
      let is = is_last in
      reports s last.split ended.sound last.reached last.stands last.boundary ∙ ap (λ (l : InorderMachine). machine_final s l.machine) is.same

  pub told_last : (new : SplitState D InorderState) → InorderGoesBack state new → ContentsStandFor s (inorder s s.cycles).machine.arch new.func.contents
  told_last new goes =
      let is = is_last in
      let P : InorderMachine → Type 0 = λ l. ContentsStandFor {D = D} s l.machine.arch new.func.contents in
      subst P is.same (goes s last.split ended.sound last.reached last.stands last.boundary)

-- before its first cycle
pub starts_inorder : {D : Type 0} (s : Setup) (state : SplitState D InorderState) → IsInorder s → InorderSplitStandsFor s (inorder_split_start s) state → StartsInorder s 0 state
unfolding inorder_split_start split_start machine_start
starts_inorder s state sound stands = record {
  sound = sound;
  split = inorder_split_start s;
  reached = start_inorder_reached s;
  stands = stands;
  boundary = refl;
  unstopped = refl;
  cycle = refl;
}
