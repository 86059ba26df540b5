-- The relation at every place of the demand run.
use Rattle.std.proofs.Common.{◌≡◌, ℕ, ◌∷◌, refl, ap, sym, ◌∙◌, subst}
use Rattle.rollback_cmds.specs.declared.order.Order.TheVariants.{Stop}
use Rattle.mono_model.specs.declared.setup.Setup.{Setup}
use Rattle.mono_model.specs.Arch.{Arch, start}
use Rattle.mono_model.specs.Path.{time_of}
use Rattle.mono_model.specs.Machine.{machine_start}
use Rattle.mono_model.specs.Cycle.{end_of_cycle}
use Rattle.mono_model.specs.Demand.{Demand, At, interrupting, committing, completing, issuing, trying, ending, stopping, halted, run_start, turn_at, place}
use Rattle.machine_laws.specs.Relation.{Related, Tracks}
use Rattle.mono_model.proofs.Path.{path_first, path_stop}
use Rattle.machine_laws.proofs.Always.{always}
use Rattle.machine_laws.proofs.Interrupt.{interrupt_related}
use Rattle.machine_laws.proofs.Commit.{commit_phase_related}
use Rattle.machine_laws.proofs.Complete.{complete_related}
use Rattle.machine_laws.proofs.Issue.{issue_related}
use Rattle.machine_laws.proofs.Fetch.{fetch_related}

start_pc : (s : Setup) → (start s).pc ≡ s.image.entry
unfolding start
start_pc s = refl

pub start_related : (s : Setup) → Related s (run_start s).demand
unfolding machine_start
start_related s = record {
  arch = sym (path_first s);
  window = (ap (λ (a : Arch). a.pc) (path_first s) ∙ start_pc s, refl);
  on = tt;
  within = tt;
}

pub cycle_end_related : (s : Setup) (d : Demand) → Related s d → Related s (record d { machine = end_of_cycle s d.machine })
unfolding end_of_cycle
cycle_end_related s d related = record { arch = related.arch; window = related.window; on = related.on; within = related.within }

pub stopped_related : (s : Setup) (d : Demand) → Related s d → Related s (record d { orders = Stop d.to_commit ∷ d.orders })
stopped_related s d related =
    let m = d.machine in
    let P : (ℕ → Arch) → Type 0 = λ p. m.arch ≡ p d.to_commit in
    let Q : (ℕ → Arch) → Type 0 = λ p. Tracks s (time_of d.orders) p d.to_commit m.window m.fetch_addr m.kept in
    record {
      arch = subst P (sym (path_stop s d.to_commit d.orders)) related.arch;
      window = subst Q (sym (path_stop s d.to_commit d.orders)) related.window;
      on = related.on;
      within = related.within;
    }

-- each turn keeps it
turn_related : (s : Setup) (at : At) (d : Demand) → Related s d → Related s (turn_at s at d).demand
turn_related s interrupting d related = interrupt_related s d related
turn_related s committing d related = commit_phase_related s d related
turn_related s completing d related = complete_related s d related
turn_related s issuing d related = issue_related s d related
turn_related s (trying more) d related = fetch_related s d related
turn_related s ending d related = cycle_end_related s d related
turn_related s stopping d related = stopped_related s d related
turn_related s halted d related = related

-- and so it holds at every place
pub place_related : (s : Setup) (k : ℕ) → Related s (place s k).run.demand
place_related s = always s (λ at d. Related s d) (start_related s) (turn_related s)
