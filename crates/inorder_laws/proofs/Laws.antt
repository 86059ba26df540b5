-- The demand run of the in-order machine is one as the law of the split state takes it.
use Rattle.std.proofs.Common.{◌≡◌, ℕ, ◌≤◌, true, [], reverse, refl, ap, ◌∙◌, arith}
use Rattle.mono_model.specs.declared.setup.Setup.{Setup}
use Rattle.mono_model.specs.Path.{entry}
use Rattle.mono_model.specs.Demand.{place_start, told, prefix_with}
use Rattle.mono_model.specs.Split.{is_halted, is_cycle_start}
use Rattle.machine_laws.specs.Runs.{is_over, IsByCycles}
use Rattle.machine_laws.proofs.Laws.{IsDemandRun}
use Rattle.inorder_machine.specs.InorderMachine.{InorderMachine}
use Rattle.inorder_machine.specs.Cycle.{inorder}
use Rattle.inorder_machine.specs.Demand.{InorderAt, interrupting, writing, accessing, executing, issuing, trying, ending, stopping, halted, InorderPlace, inorder_place, seen_at, seen_of, seen, inorder_step_bound, inorder_orders}
use Rattle.inorder_laws.specs.Runs.{starts_cycle, is_inorder_over}
use Rattle.inorder_laws.specs.SplitLaw.{inorder_entry_in, inorder_demand_run}
use Rattle.inorder_laws.proofs.Bounds.{done_bounded}
use Rattle.inorder_laws.proofs.Halting.{run_halts}
use Rattle.inorder_laws.proofs.Leading.{is_inorder}
use Rattle.inorder_laws.proofs.Numbering.{orders_numbered, orders_at_commit}
use Rattle.inorder_laws.proofs.OutputRoom.{output_within}
use Rattle.inorder_laws.proofs.Owing.{place_owes, place_stepped, halted_stays}
use Rattle.inorder_laws.proofs.Places.{place_related}
use Rattle.inorder_laws.proofs.Stages.{is_pipeline}
use Rattle.inorder_laws.proofs.Staying.{done_told}
use Rattle.inorder_laws.proofs.Telling.{step_told}

starts : (s : Setup) → seen s 0 ≡ place_start s
unfolding inorder_place
starts s = refl

start_seen : (at : InorderAt) → is_cycle_start (seen_at at) ≡ true → starts_cycle at ≡ true
start_seen interrupting start = refl
start_seen writing start = cc
start_seen accessing start = cc
start_seen executing start = cc
start_seen issuing start = cc
start_seen trying start = cc
start_seen ending start = cc
start_seen stopping start = refl
start_seen halted start = refl

over_seen : (at : InorderAt) → is_inorder_over at ≡ is_over (seen_at at)
over_seen interrupting = refl
over_seen writing = refl
over_seen accessing = refl
over_seen executing = refl
over_seen issuing = refl
over_seen trying = refl
over_seen ending = refl
over_seen stopping = refl
over_seen halted = refl

by_cycles : (s : Setup) (k : ℕ) → is_cycle_start (seen s k).run.at ≡ true → IsByCycles (λ c. (inorder s c).machine) (seen s k)
by_cycles s k start =
    let at : InorderAt = (inorder_place s k).run.at in
    let is = is_inorder s k (start_seen at start) in
    record { machine = ap (λ (l : InorderMachine). l.machine) is.state; over = is.over ∙ over_seen at }

named : (s : Setup) (epoch n : ℕ) → inorder_entry_in s epoch n ≡ entry s (prefix_with [] (reverse (told (seen s (inorder_step_bound s)))) epoch) n
unfolding inorder_entry_in inorder_orders
named s epoch n = refl

pub inorder_laws : (s : Setup) → 4 ≤ s.params.core_window → IsDemandRun s (inorder_demand_run s)
inorder_laws s room = record {
  start = starts s;
  tells = step_told s;
  owes = place_owes s;
  stepped = place_stepped s;
  stays = λ k over. ap (λ (p : InorderPlace). seen_of p) (halted_stays s k over);
  halts = λ limited. ap (λ (at : InorderAt). is_halted (seen_at at)) (run_halts s limited).at;
  related = place_related s;
  numbered = λ k. orders_numbered s k room;
  kinds = λ k. orders_at_commit s k room;
  done = λ k. done_told s k room;
  window = λ k. omega (arith, (is_pipeline s k).within);
  output = output_within s;
  commits = done_bounded s;
  by_cycles = by_cycles s;
  named = named s;
}
