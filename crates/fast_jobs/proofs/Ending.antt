-- How the runs on the machine end, and what is reported of them.
use Rattle.std.proofs.Common.{◌≡◌, ◌≢◌, ℕ, ◌++◌, true, List, map, refl, ap, sym, ◌∙◌}
use Rattle.mono_model.specs.declared.setup.Setup.{Setup}
use Rattle.mono_model.specs.declared.final_state.End.{End}
use Rattle.mono_model.specs.declared.final_state.End.TheVariants.{Running}
use Rattle.mono_model.specs.declared.final_state.Final.{Final}
use Rattle.mono_model.specs.Setup.{is_setup}
use Rattle.mono_model.specs.Final.{has_ended}
use Rattle.mono_model.specs.Machine.{Machine, machine_final}
use Rattle.mono_model.specs.Cycle.{mono, final}
use Rattle.mono_model.specs.Demand.{Place, place, step_bound}
use Rattle.mono_model.specs.Report.{closed_output, report_text, text}
use Rattle.mono_model.specs.Split.{Split, is_boundary, to_boundary, boundary_rounds, run, reach}
use Rattle.machine_laws.specs.Runs.{IsMono, Halts, is_over}
use Rattle.machine_laws.specs.Reached.{IsReached}
use Rattle.machine_laws.proofs.Halting.{run_halts}
use Rattle.machine_laws.proofs.SplitReached.{boundary_reached}
use Rattle.machine_laws.proofs.SplitArriving.{comes_to_boundary}
use Rattle.split_core.specs.declared.event.Event.{Event}
use Rattle.split_core.specs.Events.{event_in}
use Rattle.sweep_runs.proofs.Last.{boundary_mono}
use Rattle.fast_jobs.specs.Outcome.{planned_cycle}
use Rattle.mono_model.proofs.Sound.{setup_facts}

final-end : (s : Setup) (m : Machine) → (machine_final s m).end ≡ m.end
unfolding machine_final
final-end s m = refl

-- What is reported is the machine after so many cycles.
pub record IsAt (s : Setup) (c : ℕ) (output : List ℕ) (last : Final) : Type 0 where
  pub written : output ≡ (mono s c).arch.output
  pub reported : last ≡ final s c

pub at-end : (s : Setup) (c : ℕ) (output : List ℕ) (last : Final) → IsAt s c output last → (mono s c).end ≡ last.end
at-end s c output last at = sym (ap (λ (f : Final). f.end) at.reported ∙ final-end s (mono s c))

pub at-text : (s : Setup) (c : ℕ) (output : List ℕ) (last : Final) → IsAt s c output last → text s c ≡ closed_output output ++ report_text last
unfolding text
at-text s c output last at = λ i. closed_output (sym at.written i) ++ report_text (sym at.reported i)

-- At the end of a run it is that after as many cycles as the limit, and it has ended.
pub at_limit : (s : Setup) (x : Split) (output : List ℕ) (last : Final) → IsReached s x → is_boundary x ≡ true → x.place.run.demand.machine ≡ mono s s.cycles →
    IsAt s x.place.run.demand.machine.cycle output last → IsAt s s.cycles output last
at_limit s x output last reached at machine is =
    let same : mono s x.place.run.demand.machine.cycle ≡ mono s s.cycles = sym (boundary_mono s x reached at).machine ∙ machine in
    record {
      written = is.written ∙ ap (λ (m : Machine). m.arch.output) same;
      reported = is.reported ∙ ap (machine_final s) same;
    }

pub has_ended-limit : (s : Setup) (x : Split) → is_setup s ≡ true → IsReached s x → is_boundary x ≡ true → x.place ≡ place s (step_bound s) → x.place.run.demand.machine ≡ mono s s.cycles → has_ended (mono s s.cycles).end ≡ true
has_ended-limit s x sound reached at last machine =
    let halts : Halts s = run_halts s (setup_facts s sound).some_cycle in
    let here : IsMono s x.place = boundary_mono s x reached at in
    ap (λ (m : Machine). has_ended m.end) (sym machine ∙ here.machine) ∙ here.over ∙ ap is_over (ap (λ (p : Place). p.run.at) last ∙ halts.at)

pub not_running : (e : End) → has_ended e ≡ true → e ≢ Running
not_running e ended running = let wrong : has_ended Running ≡ true = ap has_ended (sym running) ∙ ended in cc

pub planned-reached : (s : Setup) (plan : List Event) → IsReached s (run s (map event_in plan))
planned-reached s plan = record { events = map event_in plan; is = refl }

pub boundary-reached : (s : Setup) (x : Split) → IsReached s x → IsReached s (to_boundary s x)
boundary-reached s x reached = boundary_reached s (boundary_rounds s) x reached

pub boundary-comes : (s : Setup) (x : Split) → is_setup s ≡ true → IsReached s x → is_boundary (to_boundary s x) ≡ true
boundary-comes s x sound reached = comes_to_boundary s x (setup_facts s sound).some_ring reached

pub at_planned : (s : Setup) (plan : List Event) (output : List ℕ) (last : Final) → IsAt s (reach s (map event_in plan)) output last → IsAt s (planned_cycle s plan) output last
unfolding planned_cycle
at_planned s plan output last at = at
