-- A core with the in-order machine's timing side stands for a state of that machine's split run.
use Rattle.std.proofs.Common.{◌≡◌, ◌+◌, ◌≤◌, ℕ, Bool, true, List, map, refl, ap, sym, ◌∙◌, subst, arith}
use Rattle.mono_model.specs.declared.setup.Setup.{Setup}
use Rattle.mono_model.specs.declared.final_state.Final.{Final}
use Rattle.mono_model.specs.Demand.{Place}
use Rattle.mono_model.specs.Final.{has_ended}
use Rattle.mono_model.specs.Path.{path}
use Rattle.mono_model.specs.Split.{is_halted, is_boundary}
use Rattle.mono_model.proofs.Sound.{setup_facts}
use Rattle.inorder_machine.specs.Cycle.{inorder, inorder_final}
use Rattle.machine_laws.specs.Output.{GrowsTo}
use Rattle.machine_laws.specs.Stays.{CommittedStays}
use Rattle.inorder_machine.specs.Demand.{InorderAt, InorderPlace, seen_at, seen_of, inorder_in, inorder_place, inorder_step_bound}
use Rattle.inorder_machine.specs.Split.{InorderSplit, inorder_split_start, inorder_played}
use Rattle.inorder_laws.specs.Rounds.{inorder_to_boundary, inorder_boundary_rounds}
use Rattle.inorder_laws.specs.SplitLaw.{inorder_demand_run, IsInorderRun}
use Rattle.inorder_laws.proofs.Halting.{run_halts}
use Rattle.inorder_laws.proofs.SplitGrowing.{inorder_split_begins}
use Rattle.inorder_laws.proofs.SplitRun.{reached_inorder_run}
use Rattle.inorder_laws.proofs.SplitStaying.{events_stay, rounds_stay, end_stays}
use Rattle.inorder_laws.proofs.Stopping.{inorder_halted_last}
use Rattle.func_model.specs.Contents.{ContentsStandFor}
use Rattle.split_core.specs.declared.event.Event.{Event}
use Rattle.split_core.specs.declared.state.SplitState.{SplitState}
use Rattle.split_core.specs.Events.{event_in}
use Rattle.split_core.specs.Along.{At, IsReachedOn, start_at, played_on, rounds_on}
use Rattle.split_core.specs.AlongLaws.{reached_sees, start_reached_on, played_reached_on, rounds_reached_on}
use Rattle.split_core.proofs.Standing.{Agrees, agrees}
use Rattle.split_core.proofs.Playing.{told_at_boundary}
use Rattle.split_core.specs.Plays.{IsPlayed, Plays}
use Rattle.split_core.specs.InCycle.{CyclesOn, IsNextCycle}
use Rattle.split_core.specs.Standing.{HoldsCommitted, StandsOn, LeadsOn, IsStandingOn, IsAtBoundaryOn, IsEndedOn, EndsOn, TellsBoundaryOn, ReportsOn, GoesBackOn}
use Rattle.inorder_model.specs.Standing.{InorderState}
use Rattle.inorder_machine.specs.Setup.{IsInorder}
use Rattle.inorder_model.specs.InorderTimed.{inorder_timed, inorder_at}
use Rattle.inorder_model.specs.InorderTimedLaws.{inorder_timed_laws, start_inorder, played_inorder, rounds_inorder, inorder_reached}
use Rattle.inorder_model.specs.Core.{InorderSplitStandsFor, InorderLeads, IsAtInorderBoundary, InorderLeadsToEnd, TellsInorderBoundary, InorderReports, InorderGoesBack, InorderKeeps, InorderKeepsToEnd, TellsInorderCommitted, InorderPlaysOn, GoesToNextInorderCycle}

-- inside the core
pub stands_inside : {D : Type 0} (inside value : SplitState D InorderState) → inside ≡ value → (s : Setup) (x : InorderSplit) → InorderSplitStandsFor s x value → InorderSplitStandsFor s x inside
stands_inside {D} inside value is s x h = let P : SplitState D InorderState → Type 0 = λ state. InorderSplitStandsFor s x state in subst P (sym is) h

pub starts : {D : Type 0} (s : Setup) (state : SplitState D InorderState) → StandsOn inorder_timed s (start_at s) state → InorderSplitStandsFor s (inorder_split_start s) state
starts s state h = record { at = start_at s; is = start_inorder s; reached = start_reached_on s (inorder_demand_run s); stands = h }

-- the cycle that the place shows
cycle_is : {D : Type 0} (s : Setup) (x : InorderSplit) (state : SplitState D InorderState) (i : InorderSplitStandsFor s x state) → i.at.split.place.run.demand.machine.cycle ≡ x.place.run.demand.machine.cycle
cycle_is s x state i =
    ap (λ (p : Place). p.run.demand.machine.cycle) (reached_sees s (inorder_demand_run s) i.at (inorder_timed_laws.start s) i.reached)
    ∙ ap (λ (y : InorderSplit). y.place.run.demand.machine.cycle) i.is

module _ {D : Type 0} (inside value new : SplitState D InorderState) (is : inside ≡ value) where
  pub plays : (events : List Event) → LeadsOn inorder_timed (λ s. played_on s (inorder_demand_run s) (map event_in events)) inside new → InorderLeads (λ s. inorder_played s (map event_in events)) value new
  plays events leads = λ s x sound reached h.
      let i : InorderSplitStandsFor s x inside = stands_inside inside value is s x h in
      record {
        at = played_on s (inorder_demand_run s) (map event_in events) i.at;
        is = played_inorder s (map event_in events) i.at ∙ ap (inorder_played s (map event_in events)) i.is;
        reached = played_reached_on s (inorder_demand_run s) (map event_in events) i.at i.reached;
        stands = leads s i.at sound i.reached i.stands;
      }

  pub comes : LeadsOn inorder_timed (λ s. rounds_on s (inorder_demand_run s) (inorder_boundary_rounds s)) inside new → InorderLeads inorder_to_boundary value new
  comes leads = λ s x sound reached h.
      let i : InorderSplitStandsFor s x inside = stands_inside inside value is s x h in
      record {
        at = rounds_on s (inorder_demand_run s) (inorder_boundary_rounds s) i.at;
        is = rounds_inorder s (inorder_boundary_rounds s) i.at ∙ ap (inorder_to_boundary s) i.is;
        reached = rounds_reached_on s (inorder_demand_run s) (inorder_boundary_rounds s) i.at i.reached;
        stands = leads s i.at sound i.reached i.stands;
      }

  pub ends : EndsOn inorder_timed inside new → InorderLeadsToEnd value new
  ends ended = λ s x sound reached h.
      let i : InorderSplitStandsFor s x inside = stands_inside inside value is s x h in
      let e : IsEndedOn inorder_timed s new = ended s i.at sound i.reached i.stands in
      let setup = sound.sound in
      let limited : 1 ≤ s.cycles = (setup_facts s setup).some_cycle in
      let last : inorder_place s e.split.steps ≡ inorder_place s (inorder_step_bound s) =
      inorder_halted_last s e.split.steps limited (ap (λ (p : Place). is_halted p.run.at) (sym (reached_sees s (inorder_demand_run s) e.split (inorder_timed_laws.start s) e.reached)) ∙ e.halted) in
      record {
        split = inorder_at s e.split;
        reached = inorder_reached s e.split e.reached;
        stands = record { at = e.split; is = refl; reached = e.reached; stands = e.stands };
        place = last;
        inorder = ap (λ (p : InorderPlace). inorder_in p.run.demand p.run.memory) last ∙ (run_halts s limited).state;
        boundary = e.boundary;
        stopped = e.stopped;
      }

  pub goes_back : GoesBackOn inorder_timed inside new → InorderGoesBack value new
  goes_back goes = λ s x sound reached h at.
      let i : InorderSplitStandsFor s x inside = stands_inside inside value is s x h in
      let P : ℕ → Type 0 = λ c. ContentsStandFor {D = D} s (inorder s c).machine.arch new.func.contents in
      subst P (cycle_is s x inside i) (goes s i.at sound i.reached i.stands (ap (λ (y : InorderSplit). is_boundary y.split) i.is ∙ at))

module _ {D : Type 0} (inside value : SplitState D InorderState) (is : inside ≡ value) where
  pub tells : (answer : Bool) → TellsBoundaryOn inorder_timed inside answer → TellsInorderBoundary value answer
  tells answer told = λ s x h.
      let i : InorderSplitStandsFor s x inside = stands_inside inside value is s x h in
      told s i.at i.reached i.stands ∙ ap (λ (y : InorderSplit). is_boundary y.split) i.is

  pub reports : (last : Final) → ReportsOn inorder_timed inside last → InorderReports value last
  reports last reported = λ s x sound reached h at.
      let i : InorderSplitStandsFor s x inside = stands_inside inside value is s x h in
      reported s i.at sound i.reached i.stands (ap (λ (y : InorderSplit). is_boundary y.split) i.is ∙ at) ∙ ap (inorder_final s) (cycle_is s x inside i)

  pub at_boundary_inside : IsAtInorderBoundary value → IsAtBoundaryOn inorder_timed inside
  at_boundary_inside at =
      let i : InorderSplitStandsFor at.standing.setup at.standing.split inside = stands_inside inside value is at.standing.setup at.standing.split at.standing.stands in
      record {
        standing = record { setup = at.standing.setup; sound = at.standing.sound; split = i.at; reached = i.reached; stands = i.stands };
        boundary = ap (λ (y : InorderSplit). is_boundary y.split) i.is ∙ at.boundary;
      }

-- its functional side has the committed number of the state that it stands for
committed_is : {D : Type 0} (s : Setup) (x : InorderSplit) (state : SplitState D InorderState) → IsInorder s → InorderSplitStandsFor s x state → state.func.committed ≡ x.split.committed_number
committed_is s x state sound h =
    let same : Agrees h.at state = agrees inorder_timed inorder_timed_laws s h.at state sound h.reached h.stands in
    same.committed ∙ ap (λ (y : InorderSplit). y.split.committed_number) h.is

holds : {D : Type 0} (s : Setup) (x y : InorderSplit) (old new : SplitState D InorderState) → IsInorder s → InorderSplitStandsFor s x old → InorderSplitStandsFor s y new → CommittedStays s x.split y.split →
    HoldsCommitted s x.split y.split old new
holds s x y old new sound from to stays = record { number = omega (arith, committed_is s x old sound from, committed_is s y new sound to, stays.number); stays = stays }

-- what the functional side has committed of the output
pub tells_committed : {D : Type 0} (inside value : SplitState D InorderState) → inside ≡ value → (output : List ℕ)
    → ((s : Setup) (x : At) → IsInorder s → IsReachedOn s (inorder_demand_run s) x → StandsOn inorder_timed s x inside → output ≡ (path s x.split.obeyed x.split.committed_number).output)
    → TellsInorderCommitted value output
tells_committed inside value is output told = λ s x sound reached h.
    let window = sound.window in
    let setup = sound.sound in
    let i : InorderSplitStandsFor s x inside = stands_inside inside value is s x h in
    let same : output ≡ (path s x.split.obeyed x.split.committed_number).output =
    told s i.at sound i.reached i.stands ∙ ap (λ (y : InorderSplit). (path s y.split.obeyed y.split.committed_number).output) i.is in
    record {
      output = same;
      begins = subst (λ (b : List ℕ). GrowsTo b (inorder s s.cycles).machine.arch.output) (sym same)
          (inorder_split_begins s x (setup_facts s setup).some_cycle window reached);
    }

module _ {D : Type 0} (old new : SplitState D InorderState) where
  pub plays_keep : (events : List Event) → InorderLeads (λ s. inorder_played s (map event_in events)) old new → InorderKeeps (λ s. inorder_played s (map event_in events)) old new
  plays_keep events leads = λ s x sound reached h.
      let es = map event_in events in
      let window = sound.window in
      holds s x (inorder_played s es x) old new sound h (leads s x sound reached h) (events_stay s es x window reached)

  pub rounds_keep : InorderLeads inorder_to_boundary old new → InorderKeeps inorder_to_boundary old new
  rounds_keep leads = λ s x sound reached h.
      let window = sound.window in
      holds s x (inorder_to_boundary s x) old new sound h (leads s x sound reached h) (rounds_stay s (inorder_boundary_rounds s) x window reached)

  pub end_keeps : InorderKeepsToEnd old new
  end_keeps = λ s x sound reached h end.
      let window = sound.window in
      let setup = sound.sound in
      let limited : 1 ≤ s.cycles = (setup_facts s setup).some_cycle in
      let run : IsInorderRun s end.split = reached_inorder_run s end.split window end.reached in
      let over : is_halted end.split.split.place.run.at ≡ true =
      ap (λ (p : Place). is_halted p.run.at) run.sees ∙ ap (λ (p : InorderPlace). is_halted (seen_at p.run.at)) end.place ∙ ap (λ (at : InorderAt). is_halted (seen_at at)) (run_halts s limited).at in
      holds s x end.split old new sound h end.stands (end_stays s x end.split limited window reached end.reached over end.boundary)

-- some events were played
pub plays_from : {D : Type 0} (inside value new : SplitState D InorderState) → inside ≡ value → Plays inorder_timed inside new → InorderPlaysOn value new
plays_from inside value new is plays = λ s x sound reached h.
    let window = sound.window in
    let i : InorderSplitStandsFor s x inside = stands_inside inside value is s x h in
    let played_there : IsPlayed inorder_timed s i.at new = plays s i.at sound i.reached i.stands in
    let events = played_there.events in
    let there : InorderSplitStandsFor s (inorder_played s events x) new = record {
      at = played_on s (inorder_demand_run s) events i.at;
      is = played_inorder s events i.at ∙ ap (inorder_played s events) i.is;
      reached = played_reached_on s (inorder_demand_run s) events i.at i.reached;
      stands = played_there.stands;
    } in
    record { events = events; stands = there; kept = holds s x (inorder_played s events x) value new sound h there (events_stay s events x window reached) }

-- to the start of the next cycle
pub next_from : {D : Type 0} (inside value new : SplitState D InorderState) → inside ≡ value → CyclesOn inorder_timed inside new → GoesToNextInorderCycle value new
next_from inside value new is cycles = λ s x sound reached h boundary goes.
    let i : InorderSplitStandsFor s x inside = stands_inside inside value is s x h in
    let place : i.at.split.place ≡ seen_of x.place =
    reached_sees s (inorder_demand_run s) i.at (inorder_timed_laws.start s) i.reached ∙ ap (λ (y : InorderSplit). seen_of y.place) i.is in
    let next : IsNextCycle inorder_timed s i.at new =
    cycles s i.at sound i.reached i.stands (ap (λ (y : InorderSplit). is_boundary y.split) i.is ∙ boundary) (ap (λ (p : Place). has_ended p.run.demand.machine.end) place ∙ goes) in
    record {
      split = inorder_at s next.split;
      reached = inorder_reached s next.split next.reached;
      stands = record { at = next.split; is = refl; reached = next.reached; stands = next.stands };
      boundary = next.boundary;
      cycle =
          ap (λ (p : Place). p.run.demand.machine.cycle) (sym (reached_sees s (inorder_demand_run s) next.split (inorder_timed_laws.start s) next.reached)) ∙ next.cycle
          ∙ ap (λ (p : Place). p.run.demand.machine.cycle + 1) place;
      unstopped = next.unstopped;
    }

pub at_inorder_boundary : {D : Type 0} (state : SplitState D InorderState) → IsAtBoundaryOn inorder_timed state → IsAtInorderBoundary state
at_inorder_boundary state at = record {
  standing = record {
    setup = at.standing.setup;
    sound = at.standing.sound;
    split = inorder_at at.standing.setup at.standing.split;
    reached = inorder_reached at.standing.setup at.standing.split at.standing.reached;
    stands = record { at = at.standing.split; is = refl; reached = at.standing.reached; stands = at.standing.stands };
  };
  boundary = at.boundary;
}

-- a core that tells that it is at a boundary
pub told_boundary : {D : Type 0} (inside value : SplitState D InorderState) → inside ≡ value → (answer : Bool) → TellsBoundaryOn inorder_timed inside answer → answer ≡ true → IsStandingOn inorder_timed inside → IsAtInorderBoundary value
told_boundary {D} inside value is answer told at standing =
    let P : SplitState D InorderState → Type 0 = λ state. IsAtInorderBoundary state in
    subst P is (at_inorder_boundary inside (told_at_boundary inorder_timed inside answer told at standing))
