-- What is reported where a run has ended is what is reported behind all its cycles.
use Rattle.std.proofs.Common.{◌≡◌, ◌==◌, ◌&&◌, true, is_none, length, ap, sym, ◌∙◌}
use Rattle.std.proofs.lemmas.Bool.{and_parts}
use Rattle.mono_model.specs.declared.setup.Setup.{Setup}
use Rattle.mono_model.specs.declared.final_state.Final.{Final}
use Rattle.mono_model.specs.Machine.{machine_final}
use Rattle.mono_model.specs.Cycle.{mono, final}
use Rattle.mono_model.specs.Split.{Split, is_boundary, is_place_boundary}
use Rattle.machine_laws.specs.Runs.{IsMono}
use Rattle.machine_laws.specs.Reached.{IsReached}
use Rattle.machine_laws.proofs.SplitReached.{reached_run}
use Rattle.sweep_runs.specs.Sweep.{last_of}

-- the machine at a boundary is the monolithic one
pub boundary_mono : (s : Setup) (x : Split) → IsReached s x → is_boundary x ≡ true → IsMono s x.place
boundary_mono s x reached at =
    let both = and_parts (is_place_boundary x.place && is_none x.hand) (length x.listed_orders == 0) at in
    (reached_run s x reached).machine (and_parts (is_place_boundary x.place) (is_none x.hand) both.0).0

pub last_of-ended : (s : Setup) (x : Split) (last : Final) → IsReached s x → is_boundary x ≡ true
    → x.place.run.demand.machine ≡ mono s s.cycles → last ≡ final s x.place.run.demand.machine.cycle → last ≡ last_of s
last_of-ended s x last reached at machine reported =
    reported ∙ ap (machine_final s) (sym (boundary_mono s x reached at).machine ∙ machine)
