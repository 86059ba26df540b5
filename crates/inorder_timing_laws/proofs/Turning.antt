-- Each turn of the in-order machine's timing side is that of its demand run.
use Rattle.std.proofs.Common.{◌≡◌, Bool, true, if◌then◌else◌, refl, ap, sym, ◌∙◌, subst}
use Rattle.trace_entry.specs.declared.Entry.{Entry}
use Rattle.mono_model.specs.declared.setup.Setup.{Setup}
use Rattle.mono_model.specs.Path.{entry}
use Rattle.mono_model.specs.Fetch.{Try, fetch_try}
use Rattle.mono_model.specs.Cycle.{end_of_cycle}
use Rattle.mono_model.specs.Demand.{Demand, is_try, next, demand_committed, demand_try}
use Rattle.machine_laws.specs.Relation.{Related}
use Rattle.timing_side.specs.Fetch.{timing_try}
use Rattle.timing_laws.specs.Seen.{seen}
use Rattle.timing_laws.proofs.Fetch.{try_seen}
use Rattle.timing_laws.proofs.CycleEnd.{tick_seen}
use Rattle.timing_laws.proofs.Turning.{stop_seen, stop_orders}
use Rattle.inorder_machine.specs.Write.{inorder_commit}
use Rattle.inorder_machine.specs.Demand as run
use Rattle.inorder_machine.specs.Demand.{InorderAt, interrupting, writing, accessing, executing, issuing, trying, ending, stopping, halted, InorderRun, inorder_turn, inorder_in, demand_inorder_issue, seen_at}
use Rattle.inorder_side.specs.Timing.{InorderTiming}
use Rattle.inorder_side.specs.Turn as timing
use Rattle.inorder_side.specs.Turn.{timing_inorder_turn}
use Rattle.inorder_timing_laws.specs.Seen.{inorder_held, IsInorderTurn}
use Rattle.inorder_timing_laws.proofs.Phases.{kept_phase, inorder_interrupt_seen, inorder_write_seen, inorder_memory_seen, inorder_may_fetch_same}
use Rattle.inorder_timing_laws.proofs.Execute.{inorder_execute_seen}
use Rattle.inorder_timing_laws.proofs.Issue.{inorder_issue_seen}

-- which turn comes next
write_at : (s : Setup) (d : Demand) → timing.at_after_write (seen s d) ≡ run.at_after_write d
unfolding seen
write_at s d = refl

issue_at : (s : Setup) (d : Demand) → timing.at_after_issue (seen s d) ≡ run.at_after_issue d
issue_at s d = ap (λ (b : Bool). if b then trying else ending) (inorder_may_fetch_same s d)

end_at : (s : Setup) (d : Demand) → timing.at_after_end (seen s d) ≡ run.at_after_end d
unfolding seen
end_at s d = refl

pub inorder_turn_seen : (s : Setup) (r : InorderRun) (e : Entry) → (is_try (seen_at r.at) ≡ true → e ≡ entry s r.demand.orders (next r.demand)) → Related s r.demand →
    IsInorderTurn s r (timing_inorder_turn s e r.at (inorder_held s r.demand r.memory))
unfolding timing_inorder_turn inorder_turn
inorder_turn_seen s r e told related = by_at r.at told
  where
    by_at : (at : InorderAt) → (is_try (seen_at at) ≡ true → e ≡ entry s r.demand.orders (next r.demand)) →
        IsInorderTurn s (record { demand = r.demand; memory = r.memory; at = at }) (timing_inorder_turn s e at (inorder_held s r.demand r.memory))
    by_at interrupting told = let p = inorder_interrupt_seen s r.demand r.memory in record { inorder = p.inorder; at = refl; orders = p.orders }
    by_at writing told =
        let p = inorder_write_seen s r.demand r.memory related in
        let behind : Demand = demand_committed (inorder_commit s (inorder_in r.demand r.memory)) r.demand in
        record { inorder = p.inorder; at = ap (λ (l : InorderTiming). timing.at_after_write l.timing) p.inorder ∙ write_at s behind; orders = p.orders }
    by_at accessing told = record { inorder = inorder_memory_seen s r.demand r.memory; at = refl; orders = refl }
    by_at executing told = let p = inorder_execute_seen s r.demand r.memory related in record { inorder = p.inorder; at = refl; orders = p.orders }
    by_at issuing told =
        let p = inorder_issue_seen s r.demand r.memory related in
        record {
          inorder = p.inorder;
          at = ap (λ (l : InorderTiming). timing.at_after_issue l.timing) p.inorder ∙ issue_at s (demand_inorder_issue s r.memory r.demand);
          orders = p.orders;
        }
    by_at trying told =
        let now = entry s r.demand.orders (next r.demand) in
        let t : Try = fetch_try s r.demand.machine in
        let p = kept_phase s r.demand (demand_try s t r.demand) r.memory (timing_try s now (seen s r.demand)).phase (try_seen s r.demand related).phase in
        let is : IsInorderTurn s (record { demand = r.demand; memory = r.memory; at = trying }) (timing_inorder_turn s now trying (inorder_held s r.demand r.memory)) =
        record { inorder = p.inorder; at = refl; orders = p.orders } in
        subst (λ (x : Entry). IsInorderTurn s (record { demand = r.demand; memory = r.memory; at = trying }) (timing_inorder_turn s x trying (inorder_held s r.demand r.memory)))
        (sym (told refl)) is
    by_at ending told =
        let is = tick_seen s r.demand in
        record {
          inorder = λ i. record { timing = is i; memory = r.memory };
          at = ap timing.at_after_end is ∙ end_at s (record r.demand { machine = end_of_cycle s r.demand.machine });
          orders = refl;
        }
    by_at stopping told = record {
      inorder = λ i. record { timing = stop_seen s r.demand i; memory = r.memory };
      at = refl;
      orders = stop_orders s r.demand;
    }
    by_at halted told = record { inorder = refl; at = refl; orders = refl }
