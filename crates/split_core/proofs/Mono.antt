-- A core with the monolithic machine's timing side stands for a state of that machine's split run.
use Rattle.std.proofs.Common.{◌≡◌, ℕ, ◌+◌, ◌≤◌, Bool, true, List, map, refl, ap, sym, ◌∙◌, subst, arith}
use Rattle.mono_model.specs.declared.setup.Setup.{Setup}
use Rattle.mono_model.specs.declared.final_state.Final.{Final}
use Rattle.mono_model.specs.Setup.{is_setup}
use Rattle.mono_model.specs.Final.{has_ended}
use Rattle.mono_model.specs.Demand.{Place, place, step_bound}
use Rattle.mono_model.specs.Cycle.{mono, final}
use Rattle.mono_model.specs.Path.{path}
use Rattle.mono_model.specs.Split.{Split, split_start, played, to_boundary, boundary_rounds, is_halted, is_boundary}
use Rattle.mono_model.proofs.Sound.{setup_facts}
use Rattle.machine_laws.specs.DemandRun.{mono_run}
use Rattle.machine_laws.specs.Output.{GrowsTo}
use Rattle.machine_laws.specs.Stays.{CommittedStays}
use Rattle.machine_laws.proofs.Halting.{run_halts}
use Rattle.machine_laws.proofs.SplitGrowing.{split_begins}
use Rattle.machine_laws.proofs.SplitStaying.{events_stay, rounds_stay, end_stays}
use Rattle.machine_laws.proofs.Stopping.{halted_last}
use Rattle.func_model.specs.Contents.{ContentsStandFor}
use Rattle.time_model.specs.OutOfOrder.{TimeState}
use Rattle.split_core.specs.declared.event.Event.{Event}
use Rattle.split_core.specs.declared.state.SplitState.{SplitState}
use Rattle.split_core.specs.Events.{event_in}
use Rattle.split_core.specs.Along.{At, IsReachedOn, start_at, played_on, rounds_on}
use Rattle.split_core.specs.AlongLaws.{start_reached_on, played_reached_on, rounds_reached_on}
use Rattle.split_core.specs.Plays.{IsPlayed, Plays}
use Rattle.split_core.specs.InCycle.{CyclesOn, IsNextCycle}
use Rattle.split_core.specs.TimeSide.{mono_timed}
use Rattle.split_core.specs.TimeSideLaws.{mono_laws, mono_sees, mono_reached, played_mono, rounds_mono}
use Rattle.split_core.proofs.Standing.{Agrees, agrees}
use Rattle.split_core.proofs.Playing.{told_at_boundary}
use Rattle.split_core.specs.Standing.{StandsOn, LeadsOn, IsStandingOn, IsAtBoundaryOn, IsEndedOn, EndsOn, TellsBoundaryOn, ReportsOn, GoesBackOn, SplitStandsFor, Leads, IsAtBoundary, LeadsToEnd, TellsBoundary, Reports, GoesBack, HoldsCommitted, Keeps, KeepsToEnd, TellsCommitted, PlaysOn, GoesToNextCycle}

-- inside the core
pub stands_inside : {D : Type 0} (inside value : SplitState D TimeState) → inside ≡ value → (s : Setup) (x : Split) → SplitStandsFor s x value → SplitStandsFor s x inside
stands_inside {D} inside value is s x h = let P : SplitState D TimeState → Type 0 = λ state. SplitStandsFor s x state in subst P (sym is) h

pub starts : {D : Type 0} (s : Setup) (state : SplitState D TimeState) → StandsOn mono_timed s (start_at s) state → SplitStandsFor s (split_start s) state
starts s state h = record { at = start_at s; is = refl; reached = start_reached_on s (mono_run s); stands = h }

module _ {D : Type 0} (inside value new : SplitState D TimeState) (is : inside ≡ value) where
  pub plays : (events : List Event) → LeadsOn mono_timed (λ s. played_on s (mono_run s) (map event_in events)) inside new → Leads (λ s. played s (map event_in events)) value new
  plays events leads = λ s x sound reached h.
      let i : SplitStandsFor s x inside = stands_inside inside value is s x h in
      record {
        at = played_on s (mono_run s) (map event_in events) i.at;
        is = played_mono s (map event_in events) i.at (mono_sees s i.at i.reached) ∙ ap (played s (map event_in events)) i.is;
        reached = played_reached_on s (mono_run s) (map event_in events) i.at i.reached;
        stands = leads s i.at sound i.reached i.stands;
      }

  pub comes : LeadsOn mono_timed (λ s. rounds_on s (mono_run s) (boundary_rounds s)) inside new → Leads to_boundary value new
  comes leads = λ s x sound reached h.
      let i : SplitStandsFor s x inside = stands_inside inside value is s x h in
      record {
        at = rounds_on s (mono_run s) (boundary_rounds s) i.at;
        is = rounds_mono s (boundary_rounds s) i.at (mono_sees s i.at i.reached) ∙ ap (to_boundary s) i.is;
        reached = rounds_reached_on s (mono_run s) (boundary_rounds s) i.at i.reached;
        stands = leads s i.at sound i.reached i.stands;
      }

  pub ends : EndsOn mono_timed inside new → LeadsToEnd value new
  ends ended = λ s x sound reached h.
      let i : SplitStandsFor s x inside = stands_inside inside value is s x h in
      let e : IsEndedOn mono_timed s new = ended s i.at sound i.reached i.stands in
      let limited : 1 ≤ s.cycles = (setup_facts s sound).some_cycle in
      let last : e.split.split.place ≡ place s (step_bound s) =
      mono_sees s e.split e.reached
      ∙ halted_last s e.split.steps limited (ap (λ (p : Place). is_halted p.run.at) (sym (mono_sees s e.split e.reached)) ∙ e.halted) in
      record {
        split = e.split.split;
        reached = mono_reached s e.split e.reached;
        stands = record { at = e.split; is = refl; reached = e.reached; stands = e.stands };
        place = last;
        machine = ap (λ (p : Place). p.run.demand.machine) last ∙ (run_halts s limited).machine;
        boundary = e.boundary;
        stopped = e.stopped;
      }

  pub goes_back : GoesBackOn mono_timed inside new → GoesBack value new
  goes_back goes = λ s x sound reached h at.
      let i : SplitStandsFor s x inside = stands_inside inside value is s x h in
      let P : Split → Type 0 = λ y. ContentsStandFor {D = D} s (mono s y.place.run.demand.machine.cycle).arch new.func.contents in
      subst P i.is (goes s i.at sound i.reached i.stands (ap is_boundary i.is ∙ at))

module _ {D : Type 0} (inside value : SplitState D TimeState) (is : inside ≡ value) where
  pub tells : (answer : Bool) → TellsBoundaryOn mono_timed inside answer → TellsBoundary value answer
  tells answer told = λ s x h.
      let i : SplitStandsFor s x inside = stands_inside inside value is s x h in
      told s i.at i.reached i.stands ∙ ap is_boundary i.is

  pub reports : (last : Final) → ReportsOn mono_timed inside last → Reports value last
  reports last reported = λ s x sound reached h at.
      let i : SplitStandsFor s x inside = stands_inside inside value is s x h in
      reported s i.at sound i.reached i.stands (ap is_boundary i.is ∙ at) ∙ ap (λ (y : Split). final s y.place.run.demand.machine.cycle) i.is

  pub at_boundary_inside : IsAtBoundary value → IsAtBoundaryOn mono_timed inside
  at_boundary_inside at =
      let i : SplitStandsFor at.standing.setup at.standing.split inside = stands_inside inside value is at.standing.setup at.standing.split at.standing.stands in
      record {
        standing = record { setup = at.standing.setup; sound = at.standing.sound; split = i.at; reached = i.reached; stands = i.stands };
        boundary = ap is_boundary i.is ∙ at.boundary;
      }

-- its functional side has the committed number of the state that it stands for
committed_is : {D : Type 0} (s : Setup) (x : Split) (state : SplitState D TimeState) → is_setup s ≡ true → SplitStandsFor s x state → state.func.committed ≡ x.committed_number
committed_is s x state sound h =
    let same : Agrees h.at state = agrees mono_timed mono_laws s h.at state sound h.reached h.stands in
    same.committed ∙ ap (λ (y : Split). y.committed_number) h.is

holds : {D : Type 0} (s : Setup) (x y : Split) (old new : SplitState D TimeState) → is_setup s ≡ true → SplitStandsFor s x old → SplitStandsFor s y new → CommittedStays s x y → HoldsCommitted s x y old new
holds s x y old new sound from to stays = record { number = omega (arith, committed_is s x old sound from, committed_is s y new sound to, stays.number); stays = stays }

-- what the functional side has committed of the output
pub tells_committed : {D : Type 0} (inside value : SplitState D TimeState) → inside ≡ value → (output : List ℕ)
    → ((s : Setup) (x : At) → is_setup s ≡ true → IsReachedOn s (mono_run s) x → StandsOn mono_timed s x inside → output ≡ (path s x.split.obeyed x.split.committed_number).output)
    → TellsCommitted value output
tells_committed inside value is output told = λ s x sound reached h.
    let i : SplitStandsFor s x inside = stands_inside inside value is s x h in
    let same : output ≡ (path s x.obeyed x.committed_number).output =
    told s i.at sound i.reached i.stands ∙ ap (λ (y : Split). (path s y.obeyed y.committed_number).output) i.is in
    record {
      output = same;
      begins = subst (λ (b : List ℕ). GrowsTo b (mono s s.cycles).arch.output) (sym same) (split_begins s x (setup_facts s sound).some_cycle reached);
    }

module _ {D : Type 0} (old new : SplitState D TimeState) where
  pub plays_keep : (events : List Event) → Leads (λ s. played s (map event_in events)) old new → Keeps (λ s. played s (map event_in events)) old new
  plays_keep events leads = λ s x sound reached h.
      let es = map event_in events in
      holds s x (played s es x) old new sound h (leads s x sound reached h) (events_stay s es x reached)

  pub rounds_keep : Leads to_boundary old new → Keeps to_boundary old new
  rounds_keep leads = λ s x sound reached h. holds s x (to_boundary s x) old new sound h (leads s x sound reached h) (rounds_stay s (boundary_rounds s) x reached)

  pub end_keeps : KeepsToEnd old new
  end_keeps = λ s x sound reached h end.
      let limited : 1 ≤ s.cycles = (setup_facts s sound).some_cycle in
      let over : is_halted end.split.place.run.at ≡ true = ap (λ (p : Place). is_halted p.run.at) end.place ∙ ap is_halted (run_halts s limited).at in
      holds s x end.split old new sound h end.stands (end_stays s x end.split limited reached end.reached over end.boundary)

-- some events were played
pub plays_from : {D : Type 0} (inside value new : SplitState D TimeState) → inside ≡ value → Plays mono_timed inside new → PlaysOn value new
plays_from inside value new is plays = λ s x sound reached h.
    let i : SplitStandsFor s x inside = stands_inside inside value is s x h in
    let played_there : IsPlayed mono_timed s i.at new = plays s i.at sound i.reached i.stands in
    let events = played_there.events in
    let there : SplitStandsFor s (played s events x) new = record {
      at = played_on s (mono_run s) events i.at;
      is = played_mono s events i.at (mono_sees s i.at i.reached) ∙ ap (played s events) i.is;
      reached = played_reached_on s (mono_run s) events i.at i.reached;
      stands = played_there.stands;
    } in
    record { events = events; stands = there; kept = holds s x (played s events x) value new sound h there (events_stay s events x reached) }

-- to the start of the next cycle
pub next_from : {D : Type 0} (inside value new : SplitState D TimeState) → inside ≡ value → CyclesOn mono_timed inside new → GoesToNextCycle value new
next_from inside value new is cycles = λ s x sound reached h boundary goes.
    let i : SplitStandsFor s x inside = stands_inside inside value is s x h in
    let next : IsNextCycle mono_timed s i.at new =
    cycles s i.at sound i.reached i.stands (ap is_boundary i.is ∙ boundary) (ap (λ (y : Split). has_ended y.place.run.demand.machine.end) i.is ∙ goes) in
    record {
      split = next.split.split;
      reached = mono_reached s next.split next.reached;
      stands = record { at = next.split; is = refl; reached = next.reached; stands = next.stands };
      boundary = next.boundary;
      cycle = next.cycle ∙ ap (λ (y : Split). y.place.run.demand.machine.cycle + 1) i.is;
      unstopped = next.unstopped;
    }

pub at_mono_boundary : {D : Type 0} (state : SplitState D TimeState) → IsAtBoundaryOn mono_timed state → IsAtBoundary state
at_mono_boundary state at = record {
  standing = record {
    setup = at.standing.setup;
    sound = at.standing.sound;
    split = at.standing.split.split;
    reached = mono_reached at.standing.setup at.standing.split at.standing.reached;
    stands = record { at = at.standing.split; is = refl; reached = at.standing.reached; stands = at.standing.stands };
  };
  boundary = at.boundary;
}

-- a core that tells that it is at a boundary
pub told_boundary : {D : Type 0} (inside value : SplitState D TimeState) → inside ≡ value → (answer : Bool) → TellsBoundaryOn mono_timed inside answer → answer ≡ true → IsStandingOn mono_timed inside → IsAtBoundary value
told_boundary {D} inside value is answer told at standing =
    let P : SplitState D TimeState → Type 0 = λ state. IsAtBoundary state in
    subst P is (at_mono_boundary inside (told_at_boundary mono_timed inside answer told at standing))
